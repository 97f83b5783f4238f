use Rattle.varint.proofs.Answers.{passed_on}
use mathlib.Core.Path.{ap, ◌∙◌}
use Rattle.varint.specs.Lists.{is_empty}
use Rattle.values.specs.Answers.{tally_says}
use Rattle.values.proofs.NameLaws.{field_some}
use Rattle.functions.proofs.InputLaws.{output_bad, output_visible, output_hidden}
use Rattle.functions.proofs.outputs.output.Goals as goal

pub returns-in_err-odd : goal.returns-in_err-odd
returns-in_err-odd c =
    rw (passed_on _ c.in_err-odd.was c.from_residual.ensures.1) (λ w s. output_bad _ _ _ c.test_name.ensures w c.in_err-odd.was)

pub sees-requires : goal.sees-requires
sees-requires c = record {
  recalling = c.requires;
  name_value = ap is_empty c.text.ensures ∙ field_some _ _ _ _ c.test_name.ensures c.in_ok-odd.was;
}

pub returns-then-sees : goal.returns-then-sees
unfolding tally_says
returns-then-sees c =
    λ w s. output_visible _ _ _ c.test_name.ensures w c.in_ok-odd.was c.text.ensures s c.sees.ensures c.if-sees.true

pub returns : goal.returns
unfolding tally_says
returns c =
    λ w s. ap (tally_says w) c.refused.ensures ∙ output_hidden _ _ _ c.test_name.ensures w c.in_ok-odd.was c.text.ensures s c.sees.ensures
    c.if-sees.false
