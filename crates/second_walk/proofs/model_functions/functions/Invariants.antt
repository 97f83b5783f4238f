use Prim.Native.Nat.{◌-◌}
use lib.ListN.{length}
use Rattle.rules.specs.Verdict.{fills}
use Rattle.scope.specs.Scope.{walk_in}
use Rattle.second_walk.specs.Walks.{functions_again}
use Rattle.second_walk.proofs.LoopLaws.{Judging}
use Rattle.second_walk.proofs.model_functions.functions.Given as goal

abbrev pub invariant-loop-f : goal.invariant-loop-f
invariant-loop-f l =
    Judging l.model l.list l.version l.ix l.last
    (functions_again l.model l.list (fills (length l.initial.cells)) l.version (walk_in l.model l.initial.cells l.initial.q))
    l.initial.cells l.initial.extra l.cells l.extra l.q l.known l.c

abbrev pub decreases-loop-f : goal.decreases-loop-f
decreases-loop-f l = length l.model - l.c.at
