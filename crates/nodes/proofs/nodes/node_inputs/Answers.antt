use Rattle.varint.proofs.Answers.{passed_on}
use native.Mathlib.Omega.{arith}
use mathlib.Core.Path.{ap, ◌∙◌}
use Rattle.wire.specs.Answers.{contents_of}
use Rattle.wire.specs.declared.Cursor.{Cursor}
use Rattle.wire.proofs.Along.{along_contents}
use Rattle.schema.specs.Numbers.{Node-input}
use Rattle.values.specs.Answers.{more, tally_says}
use Rattle.values.proofs.TallyLaws.{tallying_start, tallying_done, tallying_stops, tallying_goes, tallying_fits, tallying_falls}
use Rattle.nodes.proofs.NodeCounts.{input_few, inputs_few}
use Rattle.nodes.proofs.nodes.node_inputs.Goals as goal

pub loop-f-init : goal.loop-f-init
loop-f-init c = tallying_start _ _ _ _ _ _

pub returns : goal.returns
unfolding tally_says
returns c =
    λ w s. tallying_done c.loop-f.invariant c.next_of.ensures c.in_default.is w s
    ∙ along_contents _ _ _ _ _ c.contents-c.ensures

pub returns-in_err-more : goal.returns-in_err-more
unfolding more
returns-in_err-more c =
    rw (passed_on _ c.in_err-more.was c.from_residual.ensures.1) (
    λ w s. tallying_stops c.loop-f.invariant c.next_of.ensures c.in-Some.is (λ v h. h) c.node_input.ensures
    c.in_err-more.was w s
    ∙ along_contents _ _ _ _ _ c.contents-c.ensures
    )

pub overflow_add-odd : goal.overflow_add-odd
unfolding contents_of
overflow_add-odd c =
    let few = tallying_fits c.loop-f.invariant c.next_of.ensures c.in-Some.is
    (input_few _ _ _ c.node_input.ensures c.in_ok-more.was) in
    let all = inputs_few c.args.model.now Node-input c.contents-c.result.end c.contents-c.result.at in
    let ends = ap (λ (x : Cursor). x.end) c.contents-c.ensures in
    let good = c.well_formed.1.1.1.1.1.0.1.1.1.1.1.1.1.0.1 in
    omega arith

pub loop-f-smaller : goal.loop-f-smaller
loop-f-smaller c = tallying_falls c.loop-f.invariant c.next_of.ensures c.in-Some.is

pub loop-f-preserved : goal.loop-f-preserved
unfolding more
loop-f-preserved c =
    tallying_goes c.loop-f.invariant c.next_of.ensures c.in-Some.is (λ v h. h) c.node_input.ensures c.in_ok-more.was
    (input_few _ _ _ c.node_input.ensures c.in_ok-more.was)
