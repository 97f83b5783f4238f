use Prim.Native.Nat.{◌-◌}
use lib.ListN.{length}
use Rattle.varint.specs.Outcome.{each}
use Rattle.wire.proofs.Along.{all_from}
use Rattle.schema.specs.Numbers.{Graph-input}
use Rattle.rules.specs.Verdict.{fills}
use Rattle.rules.specs.Graph.{input}
use Rattle.rules.specs.Count.{value_names}
use Rattle.scope.specs.Scope.{walk_in}
use Rattle.scope.specs.Recall.{Recalled}
use Rattle.scope.proofs.StepLaws.{plain}
use Rattle.scope.proofs.StepLaws.{Adding}
use Rattle.parts.proofs.inputs.inputs.Given as goal

abbrev pub invariant-loop-f : goal.invariant-loop-f
invariant-loop-f l =
    Adding l.model Graph-input l.initial.c.end l.initial.c.at (value_names l.model l.main)
    (λ n. input l.model (fills n) (plain l.main))
    (each (input l.model (fills (length l.initial.cells)) (plain l.main)) (walk_in l.model l.initial.cells l.initial.q)
    (all_from l.model Graph-input l.initial.c.end l.initial.c.at))
    l.initial.cells l.initial.q l.cells l.q l.c × Recalled l.model l.ix l.cells l.initial.extra l.extra

abbrev pub decreases-loop-f : goal.decreases-loop-f
decreases-loop-f l = l.initial.c.end - l.c.at
