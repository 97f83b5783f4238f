use mathlib.Core.Path.{ap₂, ◌∙◌}
use Rattle.varint.specs.Bytes.{same}
use Rattle.operators.proofs.domains.same_domain.Goals as goal

pub returns : goal.returns
returns c = c.same_bytes.ensures ∙ ap₂ same c.canonical.ensures c.canonical-2.ensures
