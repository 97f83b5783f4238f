use native.Mathlib.Omega.{arith}
use mathlib.Core.Path.{◌∙◌, ap}
use Rattle.varint.proofs.Answers.{passed_on}
use Rattle.wire.specs.Answers.{contents_of}
use Rattle.wire.specs.declared.Cursor.{Cursor}
use Rattle.wire.proofs.Along.{along_contents}
use Rattle.schema.specs.Numbers.{Shape-dim}
use Rattle.values.specs.Answers.{tally_says}
use Rattle.values.proofs.TallyLaws.{tallying_start, tallying_done, tallying_stops, tallying_goes, tallying_fits, tallying_falls}
use Rattle.values.proofs.TypeLaws.{dims_few, dim_few}
use Rattle.values.proofs.types.dims.Goals as goal

pub loop-d-init : goal.loop-d-init
loop-d-init c = tallying_start _ _ _ _ _ _

pub returns : goal.returns
unfolding tally_says
returns c =
    λ w. tallying_done c.loop-d.invariant c.next_of.ensures c.in_default.is w tt
    ∙ along_contents _ _ _ _ _ c.contents-c.ensures

pub returns-in_err-more : goal.returns-in_err-more
returns-in_err-more c =
    λ w. ap (tally_says w) (passed_on c.dim.result c.in_err-more.was c.from_residual.ensures.1)
    ∙ tallying_stops c.loop-d.invariant c.next_of.ensures c.in-Some.is (λ v h. tt) (λ v h. c.dim.ensures v)
    c.in_err-more.was w tt ∙ along_contents _ _ _ _ _ c.contents-c.ensures

pub overflow_add-odd : goal.overflow_add-odd
unfolding contents_of
overflow_add-odd c =
    let few = tallying_fits c.loop-d.invariant c.next_of.ensures c.in-Some.is
    (dim_few _ _ c.dim.ensures c.in_ok-more.was) in
    let all = dims_few c.args.model.now Shape-dim c.contents-c.result.end c.contents-c.result.at in
    let ends = ap (λ (x : Cursor). x.end) c.contents-c.ensures in
    let good = c.well_formed.1.0.1.1.1.1.1.1.1.0.1 in
    omega arith

pub loop-d-smaller : goal.loop-d-smaller
loop-d-smaller c = tallying_falls c.loop-d.invariant c.next_of.ensures c.in-Some.is

pub loop-d-preserved : goal.loop-d-preserved
loop-d-preserved c =
    tallying_goes c.loop-d.invariant c.next_of.ensures c.in-Some.is (λ v h. tt) (λ v h. c.dim.ensures v)
    c.in_ok-more.was
    (dim_few _ _ c.dim.ensures c.in_ok-more.was)
