use mathlib.Core.Path.{◌∙◌}
use Rattle.wire.proofs.MessageLaws.{number_in}
use Rattle.wire.proofs.Field.number_of.Goals as goal

pub returns : goal.returns
returns c = c.value_in.ensures ∙ number_in _ _ _ _ c.first_of.ensures
