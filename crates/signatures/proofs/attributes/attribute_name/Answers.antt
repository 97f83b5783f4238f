use mathlib.Core.Path.{ap, ◌∙◌}
use Rattle.varint.proofs.Answers.{erred}
use Rattle.values.specs.Answers.{tally_says}
use Rattle.signatures.proofs.AttributeLaws.{attribute_misnamed, attribute_some, attribute_twice, attribute_once}
use Rattle.signatures.proofs.attributes.attribute_name.Goals as goal

pub returns-in_err-odd : goal.returns-in_err-odd
unfolding tally_says
returns-in_err-odd c =
    λ w. ap (tally_says w) (erred c.from_residual.ensures.1) ∙ attribute_misnamed _ _ _ c.test_name.ensures c.in_err-odd.was w

pub is_attribute-requires : goal.is_attribute-requires
is_attribute-requires c = record {
  listed = c.requires;
  name_value = rw c.text-name.ensures (attribute_some _ c.args.f _ c.test_name.ensures c.in_ok-odd.was);
}

pub returns-then-is_attribute : goal.returns-then-is_attribute
unfolding tally_says
returns-then-is_attribute c =
    λ w. ap (tally_says w) c.refused.ensures
    ∙ attribute_twice _ _ _ c.test_name.ensures c.in_ok-odd.was c.text-name.ensures c.is_attribute.ensures w
    c.if-is_attribute.true

pub returns : goal.returns
unfolding tally_says
returns c =
    λ w. attribute_once _ _ _ c.test_name.ensures c.in_ok-odd.was c.text-name.ensures c.is_attribute.ensures w
    c.if-is_attribute.false
