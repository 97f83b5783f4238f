use mathlib.Core.Path.{ap, ◌∙◌}
use Rattle.varint.proofs.Answers.{erred}
use Rattle.values.specs.Answers.{tally_says}
use Rattle.values.proofs.NameLaws.{named_some}
use Rattle.signatures.proofs.AttributeLaws.{default_nameless, default_twice, default_refused, default_kept}
use Rattle.signatures.proofs.defaults.default_name.Goals as goal

pub returns-in_err-name : goal.returns-in_err-name
unfolding tally_says
returns-in_err-name c =
    λ w. ap (tally_says w) (erred c.from_residual.ensures.1) ∙ default_nameless _ _ _ c.read_name.ensures w c.in_err-name.was

pub is_attribute-requires : goal.is_attribute-requires
is_attribute-requires c = record {
  listed = c.requires;
  name_value = rw c.text.ensures (named_some _ _ _ _ _ c.read_name.ensures c.in_ok-name.was);
}

pub returns-then-is_attribute : goal.returns-then-is_attribute
unfolding tally_says
returns-then-is_attribute c =
    λ w. ap (tally_says w) c.refused.ensures
    ∙ default_twice _ _ _ c.read_name.ensures w c.in_ok-name.was c.text.ensures c.is_attribute.ensures c.if-is_attribute.true

pub returns-in_err-default_rules : goal.returns-in_err-default_rules
unfolding tally_says
returns-in_err-default_rules c =
    λ w. ap (tally_says w) (erred c.from_residual-in_err-default_rules.ensures.1)
    ∙ default_refused _ _ _ c.read_name.ensures w c.in_ok-name.was c.text.ensures c.is_attribute.ensures
    c.if-is_attribute.false _ c.default_rules.ensures c.in_err-default_rules.was

pub returns : goal.returns
unfolding tally_says
returns c =
    λ w. default_kept _ _ _ c.read_name.ensures w c.in_ok-name.was c.text.ensures c.is_attribute.ensures
    c.if-is_attribute.false _ c.default_rules.ensures c.in_ok-default_rules.was
