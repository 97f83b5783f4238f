use Rattle.varint.specs.Answers.{outcome_of}
use Rattle.wire.proofs.QuickLaws.{value_answer}
use Rattle.wire.proofs.CursorLaws.{field_refused, field_read}
use mathlib.Core.Path.{ap, ◌∙◌}
use Rattle.varint.proofs.Answers.{erred}
use Rattle.wire.proofs.Cursor.any_field.Goals as goal

pub returns-in-Some : goal.returns-in-Some
returns-in-Some c = value_answer c.in-Some.ensures ∙ field_read _ _ _ c.any_tag.ensures c.in_ok-t.was

pub returns-in_err-t : goal.returns-in_err-t
unfolding outcome_of
returns-in_err-t c = ap outcome_of (erred c.from_residual.ensures.1) ∙ field_refused _ _ _ c.any_tag.ensures c.in_err-t.was

pub returns : goal.returns
returns c = c.any_value.ensures ∙ field_read _ _ _ c.any_tag.ensures c.in_ok-t.was
