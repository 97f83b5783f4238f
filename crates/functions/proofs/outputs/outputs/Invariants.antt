use Prim.Native.Nat.{◌-◌}
use mathlib.Core.Path.{◌≡◌}
use Rattle.schema.specs.Numbers.{Function-output}
use Rattle.rules.specs.Walk.{Walk}
use Rattle.rules.specs.Function.{function_output}
use Rattle.values.proofs.TallyLaws.{Tallying}
use Rattle.scope.specs.Scope.{scope_in}
use Rattle.messages.specs.Again.{field_names}
use Rattle.functions.proofs.outputs.outputs.Given as goal

abbrev pub invariant-loop-name : goal.invariant-loop-name
invariant-loop-name l =
    Tallying l.model Function-output l.initial.c.end l.initial.c.at (λ (w : Walk). w.scope ≡ scope_in l.model l.cells l.used)
    (field_names l.model) (function_output l.model) l.odd l.c

abbrev pub decreases-loop-name : goal.decreases-loop-name
decreases-loop-name l = l.initial.c.end - l.c.at
