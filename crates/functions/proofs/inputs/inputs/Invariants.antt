use Prim.Native.Nat.{◌-◌}
use lib.ListN.{length}
use Rattle.varint.specs.Outcome.{each}
use Rattle.wire.proofs.Along.{all_from}
use Rattle.schema.specs.Numbers.{Function-input}
use Rattle.rules.specs.Verdict.{fills}
use Rattle.rules.specs.Function.{function_input}
use Rattle.scope.specs.Scope.{walk_in}
use Rattle.scope.specs.Recall.{Recalled}
use Rattle.scope.proofs.StepLaws.{Adding}
use Rattle.messages.specs.Again.{field_names}
use Rattle.functions.proofs.inputs.inputs.Given as goal

abbrev pub invariant-loop-name : goal.invariant-loop-name
invariant-loop-name l =
    Adding l.model Function-input l.initial.c.end l.initial.c.at (field_names l.model) (λ n. function_input l.model (fills n))
    (each (function_input l.model (fills (length l.initial.cells))) (walk_in l.model l.initial.cells l.initial.q)
    (all_from l.model Function-input l.initial.c.end l.initial.c.at)) l.initial.cells l.initial.q l.cells l.q l.c
    × Recalled l.model l.ix l.cells l.initial.extra l.extra

abbrev pub decreases-loop-name : goal.decreases-loop-name
decreases-loop-name l = l.initial.c.end - l.c.at
