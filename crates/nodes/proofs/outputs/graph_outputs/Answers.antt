use Rattle.varint.proofs.Answers.{passed_on}
use native.Mathlib.Omega.{arith}
use mathlib.Core.Path.{refl, ◌∙◌}
use Rattle.wire.proofs.Along.{along_contents}
use Rattle.values.specs.Answers.{more, tally_says}
use Rattle.values.proofs.TallyLaws.{tallying_start, tallying_done, tallying_stops, tallying_goes, tallying_falls}
use Rattle.nodes.proofs.NodeCounts.{tallying_sum, tallying_room}
use Rattle.nodes.proofs.OutputLaws.{outputs_any, listed_few}
use Rattle.nodes.proofs.outputs.graph_outputs.Goals as goal

pub loop-f-init : goal.loop-f-init
loop-f-init c = tallying_start _ _ _ _ _ _

pub returns : goal.returns
unfolding tally_says
returns c =
    λ k w e s. tallying_done c.loop-f.invariant c.next_of.ensures c.in_default.is w s
    ∙ along_contents _ _ _ _ _ c.contents-c.ensures
    ∙ outputs_any _ _ _ k e _

pub graph_output-requires : goal.graph_output-requires
graph_output-requires c = record {
  recalling = c.requires.recalling;
  f_len_bound = tallying_room c.loop-f.invariant c.next_of.ensures c.in-Some.is _ c.contents-c.ensures
      c.requires.graph_len_bound;
}

pub returns-in_err-more : goal.returns-in_err-more
unfolding more
returns-in_err-more c =
    rw (passed_on _ c.in_err-more.was c.from_residual.ensures.1) (
    λ k w e s. tallying_stops c.loop-f.invariant c.next_of.ensures c.in-Some.is (λ v h. h)
    (λ v h. c.graph_output.ensures _ v refl h)
    c.in_err-more.was w s
    ∙ along_contents _ _ _ _ _ c.contents-c.ensures
    ∙ outputs_any _ _ _ k e _
    )

pub overflow_add-odd : goal.overflow_add-odd
overflow_add-odd c =
    let sum = tallying_sum c.loop-f.invariant c.next_of.ensures c.in-Some.is _ c.contents-c.ensures
    c.requires.graph_len_bound
    (listed_few _ _ _ _ _ c.graph_output.ensures c.in_ok-more.was) in
    omega arith

pub loop-f-smaller : goal.loop-f-smaller
loop-f-smaller c = tallying_falls c.loop-f.invariant c.next_of.ensures c.in-Some.is

pub loop-f-preserved : goal.loop-f-preserved
unfolding more
loop-f-preserved c =
    tallying_goes c.loop-f.invariant c.next_of.ensures c.in-Some.is (λ v h. h)
    (λ v h. c.graph_output.ensures _ v refl h)
    c.in_ok-more.was (listed_few _ _ _ _ _ c.graph_output.ensures c.in_ok-more.was)
