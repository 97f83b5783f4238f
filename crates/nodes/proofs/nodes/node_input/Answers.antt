use mathlib.Core.Path.{ap, ◌∙◌}
use Rattle.varint.proofs.Answers.{passed_on}
use Rattle.values.specs.Answers.{tally_says}
use Rattle.values.proofs.NameLaws.{empty_some}
use Rattle.nodes.proofs.NodeLaws.{input_out, input_bad, input_visible, input_hidden}
use Rattle.nodes.proofs.nodes.node_input.Goals as goal

pub returns-then-text-eq0 : goal.returns-then-text-eq0
unfolding tally_says
returns-then-text-eq0 c = λ w s. input_out _ w _ c.text-text.ensures c.if-text-eq0.true

pub returns-in_err-one : goal.returns-in_err-one
returns-in_err-one c =
    rw (passed_on _ c.in_err-one.was c.from_residual.ensures.1) (
    λ w s. input_bad _ w _ c.text-text.ensures c.if-text-eq0.false (c.tested.ensures w) c.in_err-one.was
    )

pub sees-requires : goal.sees-requires
sees-requires c = record { recalling = c.requires; name_value = empty_some _ c.if-text-eq0.false }

pub returns-then-sees : goal.returns-then-sees
unfolding tally_says
returns-then-sees c =
    λ w s. input_visible _ w _ c.text-text.ensures c.if-text-eq0.false (c.tested.ensures w) c.in_ok-one.was s c.sees.ensures
    c.if-sees.true

pub returns : goal.returns
unfolding tally_says
returns c =
    λ w s. ap (tally_says w) c.refused.ensures
    ∙ input_hidden _ w _ c.text-text.ensures c.if-text-eq0.false (c.tested.ensures w) c.in_ok-one.was s c.sees.ensures
    c.if-sees.false
