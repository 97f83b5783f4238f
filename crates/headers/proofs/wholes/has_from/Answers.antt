use Rattle.wire.proofs.OutlineLaws.{started_first}
use mathlib.Core.Path.{◌∙◌}
use Rattle.wire.proofs.MessageLaws.{some_present}
use Rattle.headers.proofs.wholes.has_from.Goals as goal

pub returns : goal.returns
returns c = c.is_some.ensures ∙ some_present _ _ _ _ (started_first _ _ _ c.requires _ c.first_from.ensures)
