use Rattle.varint.specs.Answers.{outcome_of}
use mathlib.Core.Path.{sym, ap, ◌∙◌}
use Rattle.varint.proofs.Answers.{erred}
use Rattle.wire.proofs.CursorLaws.{tag_refused, tag_bad, tag_read}
use Rattle.wire.proofs.Cursor.any_tag.Goals as goal

pub returns-then-is_bad_tag : goal.returns-then-is_bad_tag
unfolding outcome_of
returns-then-is_bad_tag c =
    ap outcome_of c.refused.ensures ∙ tag_bad _ _ _ c.read_shortest.ensures c.in_ok-v.was (sym c.is_bad_tag.ensures ∙ c.if-is_bad_tag.true)

pub returns-in_err-v : goal.returns-in_err-v
unfolding outcome_of
returns-in_err-v c = ap outcome_of (erred c.from_residual.ensures.1) ∙ tag_refused _ _ _ c.read_shortest.ensures c.in_err-v.was

pub returns : goal.returns
unfolding outcome_of
returns c = tag_read _ _ _ c.read_shortest.ensures c.in_ok-v.was (sym c.is_bad_tag.ensures ∙ c.if-is_bad_tag.false)
