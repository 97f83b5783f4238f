use mathlib.Core.Path.{ap, ◌∙◌}
use Rattle.varint.proofs.Answers.{erred}
use Rattle.wire.proofs.MessageLaws.{missing, found}
use Rattle.values.specs.Answers.{naming_says}
use Rattle.values.proofs.NameLaws.{name_absent, name_empty, name_bad, name_good}
use Rattle.values.proofs.names.read_name.Goals as goal

pub returns-in_default : goal.returns-in_default
unfolding naming_says
returns-in_default c = λ w. ap (naming_says w) c.refused.ensures ∙ name_absent _ _ _ _ w (missing _ _ _ _ c.first_of.ensures c.in_default.is)

pub returns-then-text-eq0 : goal.returns-then-text-eq0
unfolding naming_says
returns-then-text-eq0 c =
    λ w. ap (naming_says w) c.refused-then-text-eq0.ensures
    ∙ name_empty _ _ _ _ w (found _ _ _ _ c.first_of.ensures c.in-Some.is) c.text-text.ensures c.if-text-eq0.true

pub returns-in_err-odd : goal.returns-in_err-odd
unfolding naming_says
returns-in_err-odd c =
    λ w. ap (naming_says w) (erred c.from_residual.ensures.1)
    ∙ name_bad _ _ _ _ w (found _ _ _ _ c.first_of.ensures c.in-Some.is) c.text-text.ensures c.if-text-eq0.false
    (c.tested.ensures w) c.in_err-odd.was

pub returns : goal.returns
unfolding naming_says
returns c =
    λ w. name_good _ _ _ _ w (found _ _ _ _ c.first_of.ensures c.in-Some.is) c.text-text.ensures c.if-text-eq0.false
    (c.tested.ensures w) c.in_ok-odd.was
