use mathlib.Core.Path.{ap, ◌∙◌}
use Rattle.wire.proofs.MessageLaws.{missing, found}
use Rattle.headers.specs.Earlier.{earlier_in}
use Rattle.values.specs.Answers.{tally_says}
use Rattle.varint.proofs.Answers.{erred}
use Rattle.values.proofs.NameLaws.{empty_some}
use Rattle.messages.proofs.NodeLaws.{node_nameless, node_unnamed, node_misnamed, node_twice, node_named}
use Rattle.messages.proofs.nodes.node_name.Goals as goal

pub returns-in_default : goal.returns-in_default
unfolding tally_says
returns-in_default c = λ w. node_nameless _ _ _ w (missing _ _ _ _ c.first_of.ensures c.in_default.is)

pub returns-then-text-eq0 : goal.returns-then-text-eq0
unfolding tally_says
returns-then-text-eq0 c =
    λ w. node_unnamed _ _ _ w (found _ _ _ _ c.first_of.ensures c.in-Some.is) c.text-text.ensures c.if-text-eq0.true

pub returns-in_err-odd : goal.returns-in_err-odd
unfolding tally_says
returns-in_err-odd c =
    λ w. ap (tally_says w) (erred c.from_residual.ensures.1)
    ∙ node_misnamed _ _ _ w (found _ _ _ _ c.first_of.ensures c.in-Some.is) c.text-text.ensures c.if-text-eq0.false
    (c.tested.ensures w) c.in_err-odd.was

pub returns-then-is_listed : goal.returns-then-is_listed
unfolding earlier_in tally_says
returns-then-is_listed c =
    λ w. ap (tally_says w) c.refused.ensures
    ∙ node_twice _ _ _ w (found _ _ _ _ c.first_of.ensures c.in-Some.is) c.text-text.ensures c.if-text-eq0.false
    (c.tested.ensures w) c.in_ok-odd.was c.is_listed.ensures c.if-is_listed.true

pub returns : goal.returns
unfolding tally_says earlier_in
returns c =
    λ w. node_named _ _ _ w (found _ _ _ _ c.first_of.ensures c.in-Some.is) c.text-text.ensures c.if-text-eq0.false
    (c.tested.ensures w) c.in_ok-odd.was c.is_listed.ensures c.if-is_listed.false

pub is_listed-requires : goal.is_listed-requires
unfolding earlier_in
is_listed-requires c = record { listed = c.requires; text_value = empty_some _ c.if-text-eq0.false }
