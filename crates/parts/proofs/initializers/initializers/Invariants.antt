use Prim.Native.Nat.{◌≤◌}
use Rattle.parts.proofs.ListsLaws.{Lists}
use Rattle.schema.specs.Numbers.{Tensor-name}
use Rattle.scope.specs.Scope.{Defaultable}
use Prim.Native.Nat.{◌-◌}
use lib.ListN.{length}
use Rattle.varint.specs.Outcome.{each}
use Rattle.wire.proofs.Along.{all_from}
use Rattle.schema.specs.Numbers.{Graph-initializer}
use Rattle.rules.specs.Verdict.{fills}
use Rattle.scope.specs.Scope.{walk_in}
use Rattle.messages.specs.Again.{tensor_names, initializer_again}
use Rattle.scope.proofs.StepLaws.{Adding}
use Rattle.parts.proofs.initializers.initializers.Given as goal

abbrev pub invariant-loop-f : goal.invariant-loop-f
invariant-loop-f l =
    Adding l.model Graph-initializer l.initial.c.end l.initial.c.at (tensor_names l.model)
    (λ n. initializer_again l.model (fills n) l.s l.graph) (each (initializer_again l.model
    (fills (length l.initial.cells)) l.s l.graph) (walk_in l.model l.initial.cells l.initial.q)
    (all_from l.model Graph-initializer l.initial.c.end l.initial.c.at)) l.initial.cells l.initial.q l.cells l.q
    l.c × Lists l.model l.ix l.top Graph-initializer Tensor-name l.graph l.initial.extra l.cells l.extra l.l l.c × Defaultable
    l.model l.graph l.cells l.inputs.outer l.inputs.inner × (l.inputs.inner ≤ l.q.used)

abbrev pub decreases-loop-f : goal.decreases-loop-f
decreases-loop-f l = l.initial.c.end - l.c.at
