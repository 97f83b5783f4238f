use mathlib.Core.Path.{ap, ◌∙◌}
use Rattle.varint.proofs.Answers.{passed_on}
use Rattle.values.specs.Answers.{more, tally_says}
use Rattle.nodes.proofs.NodeCounts.{head_few, inputs_most}
use Rattle.nodes.proofs.NodeLaws.{rules_headed, rules_inputs}
use Rattle.values.proofs.TallyLaws.{addable}
use Rattle.nodes.proofs.nodes.node_rules.Goals as goal

pub head-requires : goal.head-requires
head-requires c = record {
  split_in_bounds = c.requires.recalling.both.fits;
  imported = c.requires.imported;
  listed = c.requires.listed;
}

pub returns-in_err-odd : goal.returns-in_err-odd
returns-in_err-odd c =
    rw (passed_on _ c.in_err-odd.was c.from_residual.ensures.1) (λ w s. rules_headed _ _ _ _ w (c.head.ensures w) c.in_err-odd.was)

pub adding-requires : goal.adding-requires
adding-requires c =
    addable _ _ 2 _ (head_few _ _ _ _ c.head.ensures c.in_ok-odd.was) (λ l i. inputs_most _ _ _ c.node_inputs.ensures i)
    c.requires.f_bound

pub returns : goal.returns
unfolding more
returns c =
    λ w s. ap (tally_says w) c.adding.ensures
    ∙ rules_inputs _ _ _ _ w (c.head.ensures w) c.in_ok-odd.was _ (c.node_inputs.ensures (more w _) s)
