use mathlib.Core.Path.{ap, ◌∙◌}
use Rattle.wire.proofs.MessageLaws.{missing, found}
use Rattle.values.specs.Answers.{tally_says}
use Rattle.values.proofs.TypeLaws.{type_none, tensor_none, tensor_some}
use Rattle.values.proofs.types.declared_type.Goals as goal

pub returns-in_default : goal.returns-in_default
unfolding tally_says
returns-in_default c = λ w. ap (tally_says w) c.refused.ensures ∙ type_none _ _ w (missing _ _ _ _ c.first_of.ensures c.in_default.is)

pub returns-in-None : goal.returns-in-None
unfolding tally_says
returns-in-None c =
    λ w. ap (tally_says w) c.refused-in-None.ensures
    ∙ tensor_none _ _ w (found _ _ _ _ c.first_of.ensures c.in-Some.is)
    (missing _ _ _ _ c.first_of-2.ensures c.in-None.is)

pub returns-in-Some-first_of : goal.returns-in-Some-first_of
returns-in-Some-first_of c =
    λ w. c.tensor_type.ensures w
    ∙ tensor_some _ _ w (found _ _ _ _ c.first_of.ensures c.in-Some.is)
    (found _ _ _ _ c.first_of-2.ensures c.in-Some-first_of.is)
