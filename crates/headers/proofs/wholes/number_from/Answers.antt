use mathlib.Core.Path.{◌∙◌}
use Rattle.wire.proofs.OutlineLaws.{started_first}
use Rattle.wire.proofs.MessageLaws.{number_in}
use Rattle.headers.proofs.wholes.number_from.Goals as goal

pub returns : goal.returns
returns c = c.value_in.ensures ∙ number_in _ _ _ _ (started_first _ _ _ c.requires _ c.first_from.ensures)
