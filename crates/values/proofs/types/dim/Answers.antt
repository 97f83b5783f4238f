use mathlib.Core.Path.{ap, ◌∙◌}
use Rattle.wire.proofs.MessageLaws.{missing, found}
use Rattle.values.specs.Answers.{tally_says}
use Rattle.values.proofs.TypeLaws.{dim_negative, dim_nameless, dim_empty, dim_tested}
use Rattle.values.proofs.types.dim.Goals as goal

pub returns-then-number_of-ge-SIGN_BIT : goal.returns-then-number_of-ge-SIGN_BIT
unfolding tally_says
returns-then-number_of-ge-SIGN_BIT c =
    λ w. ap (tally_says w) c.refused.ensures ∙ dim_negative _ _ w c.number_of.ensures c.place_of.ensures c.if-number_of-ge-SIGN_BIT.true

pub returns-in_default : goal.returns-in_default
unfolding tally_says
returns-in_default c =
    λ w. dim_nameless _ _ w c.number_of.ensures c.if-number_of-ge-SIGN_BIT.false
    (missing _ _ _ _ c.first_of.ensures c.in_default.is)

pub returns-then-text-eq0 : goal.returns-then-text-eq0
unfolding tally_says
returns-then-text-eq0 c =
    λ w. ap (tally_says w) c.refused-then-text-eq0.ensures
    ∙ dim_empty _ _ w c.number_of.ensures c.if-number_of-ge-SIGN_BIT.false (found _ _ _ _ c.first_of.ensures c.in-Some.is)
    c.text-text.ensures c.if-text-eq0.true

pub returns : goal.returns
returns c =
    λ w. c.tested.ensures w ∙ dim_tested _ _ w c.number_of.ensures c.if-number_of-ge-SIGN_BIT.false
    (found _ _ _ _ c.first_of.ensures c.in-Some.is)
    c.text-text.ensures c.if-text-eq0.false
