use mathlib.Core.Path.{ap, ◌∙◌}
use Rattle.headers.specs.Earlier.{earlier_in}
use Rattle.values.specs.Answers.{tally_says}
use Rattle.varint.proofs.Answers.{erred}
use Rattle.values.proofs.NameLaws.{named_some}
use Rattle.messages.proofs.AttributeLaws.{attribute_nameless, attribute_twice, attribute_bad, attribute_good}
use Rattle.messages.proofs.attributes.attribute_rules.Goals as goal

pub returns-in_err-name : goal.returns-in_err-name
unfolding tally_says
returns-in_err-name c =
    λ w. ap (tally_says w) (erred c.from_residual.ensures.1) ∙ attribute_nameless _ _ _ _ c.read_name.ensures w c.in_err-name.was

pub returns-then-is_listed : goal.returns-then-is_listed
unfolding earlier_in tally_says
returns-then-is_listed c =
    λ w. ap (tally_says w) c.refused.ensures
    ∙ attribute_twice _ _ _ _ c.read_name.ensures w c.in_ok-name.was c.text.ensures c.is_listed.ensures c.if-is_listed.true

pub value_rules-requires : goal.value_rules-requires
value_rules-requires c = c.requires.listed

pub returns-in_err-value_rules : goal.returns-in_err-value_rules
unfolding earlier_in tally_says
returns-in_err-value_rules c =
    λ w. ap (tally_says w) (erred c.from_residual-in_err-value_rules.ensures.1)
    ∙ attribute_bad _ _ _ _ c.read_name.ensures w c.in_ok-name.was c.text.ensures c.is_listed.ensures c.if-is_listed.false
    _ c.value_rules.ensures c.in_err-value_rules.was

pub returns : goal.returns
unfolding earlier_in tally_says
returns c =
    λ w. attribute_good _ _ _ _ c.read_name.ensures w c.in_ok-name.was c.text.ensures c.is_listed.ensures c.if-is_listed.false
    _ c.value_rules.ensures c.in_ok-value_rules.was

pub is_listed-requires : goal.is_listed-requires
unfolding earlier_in
is_listed-requires c = record {
  listed = c.requires.listed_2;
  text_value = rw c.text.ensures (named_some _ _ _ _ _ c.read_name.ensures c.in_ok-name.was);
}
