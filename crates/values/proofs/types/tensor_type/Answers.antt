use mathlib.Core.Path.{ap, ◌∙◌}
use Rattle.wire.proofs.MessageLaws.{missing, found}
use Rattle.values.specs.Answers.{tally_says}
use Rattle.values.proofs.TypeLaws.{elem_bad, shape_none, shape_some}
use Rattle.values.proofs.types.tensor_type.Goals as goal

pub returns-then-not-is_element : goal.returns-then-not-is_element
unfolding tally_says
returns-then-not-is_element c =
    λ w. ap (tally_says w) c.refused.ensures ∙ elem_bad _ _ w c.number_of.ensures c.is_element.ensures c.place_of.ensures
    c.if-not-is_element.true

pub returns-in-None : goal.returns-in-None
unfolding tally_says
returns-in-None c =
    λ w. ap (tally_says w) c.refused-in-None.ensures
    ∙ shape_none _ _ w c.number_of.ensures c.is_element.ensures c.if-not-is_element.false
    (missing _ _ _ _ c.first_of.ensures c.in-None.is)

pub returns-in-Some : goal.returns-in-Some
returns-in-Some c =
    λ w. c.dims.ensures w
    ∙ shape_some _ _ w c.number_of.ensures c.is_element.ensures c.if-not-is_element.false
    (found _ _ _ _ c.first_of.ensures c.in-Some.is)
