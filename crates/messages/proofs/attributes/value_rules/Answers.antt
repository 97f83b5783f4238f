use mathlib.Core.Path.{ap, ◌∙◌}
use Rattle.varint.specs.Answers.{outcome_of}
use Rattle.values.proofs.NameLaws.{empty_some}
use Rattle.messages.proofs.AttributeLaws.{value_own, value_unresolved, value_refers}
use Rattle.messages.proofs.attributes.value_rules.Goals as goal

pub returns-then-reference-eq0 : goal.returns-then-reference-eq0
returns-then-reference-eq0 c =
    c.bad_value.ensures ∙ value_own _ _ _ c.bytes_of-reference.ensures c.if-reference-eq0.true c.is_bad_value.ensures

pub is_resolved-requires : goal.is_resolved-requires
is_resolved-requires c = record { listed = c.requires; name_value = empty_some _ c.if-reference-eq0.false }

pub returns-then-not-is_resolved : goal.returns-then-not-is_resolved
unfolding outcome_of
returns-then-not-is_resolved c =
    ap outcome_of c.refused.ensures ∙ value_unresolved _ _ _ c.bytes_of-reference.ensures c.if-reference-eq0.false c.is_resolved.ensures
    c.if-not-is_resolved.true

pub returns : goal.returns
returns c =
    c.bad_value-2.ensures ∙ value_refers _ _ _ c.bytes_of-reference.ensures c.if-reference-eq0.false c.is_resolved.ensures
    c.if-not-is_resolved.false c.is_bad_reference.ensures
