use Rattle.varint.proofs.Answers.{passed_on}
use native.Mathlib.Omega.{arith}
use mathlib.Core.Path.{ap, ◌∙◌}
use Rattle.wire.specs.Answers.{contents_of}
use Rattle.wire.specs.declared.Cursor.{Cursor}
use Rattle.wire.proofs.Along.{along_contents}
use Rattle.schema.specs.Numbers.{Function-output}
use Rattle.values.specs.Answers.{more, tally_says}
use Rattle.values.proofs.TallyLaws.{tallying_start, tallying_done, tallying_stops, tallying_goes, tallying_fits, tallying_falls}
use Rattle.nodes.proofs.NodeCounts.{inputs_few}
use Rattle.functions.proofs.InputLaws.{output_few}
use Rattle.functions.proofs.outputs.outputs.Goals as goal

pub loop-name-init : goal.loop-name-init
loop-name-init c = tallying_start _ _ _ _ _ _

pub returns : goal.returns
unfolding tally_says
returns c =
    λ w s. tallying_done c.loop-name.invariant c.next_of.ensures c.in_default.is w s
    ∙ along_contents _ _ _ _ _ c.contents-c.ensures

pub returns-in_err-more : goal.returns-in_err-more
unfolding more
returns-in_err-more c =
    rw (passed_on _ c.in_err-more.was c.from_residual.ensures.1) (
    λ w s. tallying_stops c.loop-name.invariant c.next_of.ensures c.in-Some.is (λ v h. h) c.output.ensures
    c.in_err-more.was w s
    ∙ along_contents _ _ _ _ _ c.contents-c.ensures
    )

pub overflow_add-odd : goal.overflow_add-odd
unfolding contents_of
overflow_add-odd c =
    let few = tallying_fits c.loop-name.invariant c.next_of.ensures c.in-Some.is
    (output_few _ _ _ c.output.ensures c.in_ok-more.was) in
    let all = inputs_few c.args.model.now Function-output c.contents-c.result.end c.contents-c.result.at in
    let ends = ap (λ (x : Cursor). x.end) c.contents-c.ensures in
    let good = c.well_formed.1.1.1.1.1.0.1.1.1.1.1.1.1.0.1 in
    omega arith

pub loop-name-smaller : goal.loop-name-smaller
loop-name-smaller c = tallying_falls c.loop-name.invariant c.next_of.ensures c.in-Some.is

pub loop-name-preserved : goal.loop-name-preserved
unfolding more
loop-name-preserved c =
    tallying_goes c.loop-name.invariant c.next_of.ensures c.in-Some.is (λ v h. h) c.output.ensures c.in_ok-more.was
    (output_few _ _ _ c.output.ensures c.in_ok-more.was)
