use mathlib.Core.Path.{◌∙◌}
use Rattle.wire.proofs.MessageLaws.{some_present}
use Rattle.headers.proofs.wholes.has.Goals as goal

pub returns : goal.returns
returns c = c.is_some.ensures ∙ some_present _ _ _ _ c.first_of.ensures
