use Prim.Native.Nat.{◌-◌}
use mathlib.Core.Path.{◌≡◌}
use Rattle.schema.specs.Numbers.{Node-input}
use Rattle.rules.specs.Walk.{Walk}
use Rattle.rules.specs.Node.{node_input}
use Rattle.values.proofs.TallyLaws.{Tallying}
use Rattle.scope.specs.Scope.{scope_in}
use Rattle.messages.specs.Again.{field_names}
use Rattle.nodes.proofs.nodes.node_inputs.Given as goal

abbrev pub invariant-loop-f : goal.invariant-loop-f
invariant-loop-f l =
    Tallying l.model Node-input l.initial.c.end l.initial.c.at (λ (w : Walk). w.scope ≡ scope_in l.model l.cells l.used)
    (field_names l.model) (node_input l.model) l.odd l.c

abbrev pub decreases-loop-f : goal.decreases-loop-f
decreases-loop-f l = l.initial.c.end - l.c.at
