use Prim.Native.Nat.{◌-◌}
use mathlib.Core.Path.{◌≡◌}
use Rattle.schema.specs.Numbers.{Graph-output}
use Rattle.rules.specs.Walk.{Walk}
use Rattle.rules.specs.Count.{value_names}
use Rattle.rules.specs.Graph.{output}
use Rattle.values.proofs.TallyLaws.{Tallying}
use Rattle.scope.specs.Scope.{scope_in}
use Rattle.scope.proofs.StepLaws.{plain}
use Rattle.nodes.proofs.outputs.graph_outputs.Given as goal

abbrev pub invariant-loop-f : goal.invariant-loop-f
invariant-loop-f l =
    Tallying l.model Graph-output l.initial.c.end l.initial.c.at (λ (w : Walk). w.scope ≡ scope_in l.model l.cells l.used)
    (value_names l.model l.main) (output l.model (plain l.main)) l.odd l.c

abbrev pub decreases-loop-f : goal.decreases-loop-f
decreases-loop-f l = l.initial.c.end - l.c.at
