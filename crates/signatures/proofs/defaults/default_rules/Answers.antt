use Rattle.varint.specs.Answers.{outcome_of}
use mathlib.Core.Path.{ap, ◌∙◌}
use Rattle.signatures.proofs.AttributeLaws.{default_refers, default_bad, default_good}
use Rattle.signatures.proofs.defaults.default_rules.Goals as goal

pub returns-then-reference-ne0 : goal.returns-then-reference-ne0
unfolding outcome_of
returns-then-reference-ne0 c = ap outcome_of c.refused.ensures ∙ default_refers _ _ c.bytes_of-reference.ensures c.if-reference-ne0.true

pub returns-then-is_bad_default : goal.returns-then-is_bad_default
unfolding outcome_of
returns-then-is_bad_default c =
    ap outcome_of c.refused-then-is_bad_default.ensures
    ∙ default_bad _ _ c.bytes_of-reference.ensures c.if-reference-ne0.false c.is_bad_default.ensures c.if-is_bad_default.true

pub returns : goal.returns
unfolding outcome_of
returns c =
    default_good _ _ c.bytes_of-reference.ensures c.if-reference-ne0.false c.is_bad_default.ensures c.if-is_bad_default.false
