use Prim.Native.Nat.{◌-◌}
use lib.ListN.{length}
use Rattle.varint.specs.Outcome.{each}
use Rattle.wire.proofs.Along.{all_from}
use Rattle.schema.specs.Numbers.{Node-output}
use Rattle.rules.specs.Verdict.{fills}
use Rattle.rules.specs.Node.{node_output}
use Rattle.scope.specs.Scope.{walk_in}
use Rattle.scope.specs.Recall.{Recalled}
use Rattle.scope.proofs.StepLaws.{Adding}
use Rattle.messages.specs.Again.{field_names}
use Rattle.nodes.proofs.outputs.node_outputs.Given as goal

abbrev pub invariant-loop-f : goal.invariant-loop-f
invariant-loop-f l =
    Adding l.model Node-output l.initial.c.end l.initial.c.at (field_names l.model) (λ n. node_output l.model (fills n))
    (each (node_output l.model (fills (length l.initial.cells))) (walk_in l.model l.initial.cells l.initial.q)
    (all_from l.model Node-output l.initial.c.end l.initial.c.at)) l.initial.cells l.initial.q l.cells l.q l.c
    × Recalled l.model l.ix l.cells l.initial.extra l.extra

abbrev pub decreases-loop-f : goal.decreases-loop-f
decreases-loop-f l = l.initial.c.end - l.c.at
