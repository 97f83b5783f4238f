-- A visit to a body under no choices: it is run once.
use mathlib.Core.Path.{◌≡◌, refl}
use mathlib.Core.List.{[]}
use Rattle.varint.specs.Outcome.{pass, ◌>>=◌}
use Rattle.wire.specs.declared.Field.{Field}
use Rattle.rules.specs.Runner.{visits, Run, Ran, chosen, choose, forget, times, perform}

pub visit_once : (K : Run → Field → Ran) (r : Run) (f : Field) → r.choices ≡ [] → perform K r (visits f) ≡ (K (choose r) f >>= λ s. pass (forget (choose r) s))
unfolding perform chosen times
visit_once K r f h = rw (h, perform) refl
