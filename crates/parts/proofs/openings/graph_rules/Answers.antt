use mathlib.Core.Path.{ap, ◌∙◌}
use Rattle.varint.proofs.Answers.{erred}
use Rattle.values.specs.Answers.{tally_says}
use Rattle.parts.proofs.OpeningLaws.{graph_misnamed, graph_sparse, graph_ruled}
use Rattle.parts.proofs.openings.graph_rules.Goals as goal

pub returns-in_err-odd : goal.returns-in_err-odd
unfolding tally_says
returns-in_err-odd c =
    λ w. ap (tally_says w) (erred c.from_residual.ensures.1) ∙ graph_misnamed _ _ w c.read_name.ensures c.in_err-odd.was

pub returns-then-has : goal.returns-then-has
unfolding tally_says
returns-then-has c =
    λ w. ap (tally_says w) c.refused.ensures
    ∙ graph_sparse _ _ w c.read_name.ensures c.in_ok-odd.was c.has.ensures c.if-has.true c.place_of.ensures

pub returns : goal.returns
unfolding tally_says
returns c = λ w. graph_ruled _ _ w c.read_name.ensures c.in_ok-odd.was c.has.ensures c.if-has.false
