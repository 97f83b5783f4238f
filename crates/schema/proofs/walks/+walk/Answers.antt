use Rattle.varint.specs.Answers.{outcome_of}
use Rattle.schema.proofs.WalkLaws.{going_start, walk_done, walk_tag, walk_tagged, walk_wire, walk_repeat, walk_value, walk_turned, turn_falls, inner_falls, walk_closed, walk_deep, walk_inner, walk_bad, deeper_low}
use Rattle.schema.proofs.SlotLaws.{slot_low}
use mathlib.Core.Path.{ap, ◌∙◌}
use Rattle.varint.proofs.Answers.{erred}
use Rattle.schema.proofs.walks.+walk.Goals as goal

pub loop-c-init : goal.loop-c-init
loop-c-init t c = going_start _ _ _ _ _

pub returns : goal.returns
unfolding outcome_of
returns t c = walk_done c.loop-c.invariant c.loop-c-test.false

pub returns-in_err-tag : goal.returns-in_err-tag
unfolding outcome_of
returns-in_err-tag t c =
    ap outcome_of (erred c.from_residual.ensures.1) ∙ walk_tag c.loop-c.invariant c.loop-c-test.true _ c.tag.ensures c.in_err-tag.was

pub returns-then-not-wire_fits : goal.returns-then-not-wire_fits
unfolding outcome_of
returns-then-not-wire_fits t c =
    ap outcome_of c.refused.ensures ∙ walk_wire (walk_tagged c.loop-c.invariant c.loop-c-test.true _ c.tag.ensures c.in_ok-tag.was
    c.row_of-row.ensures) c.wire_fits.ensures c.if-not-wire_fits.true

pub returns-then-is_taken : goal.returns-then-is_taken
unfolding outcome_of
returns-then-is_taken t c =
    ap outcome_of c.refused-then-is_taken.ensures
    ∙ walk_repeat (walk_tagged c.loop-c.invariant c.loop-c-test.true _ c.tag.ensures c.in_ok-tag.was
    c.row_of-row.ensures) c.wire_fits.ensures c.if-not-wire_fits.false c.slot_of-slot.ensures c.is_taken.ensures
    c.if-is_taken.true

pub returns-in_err-field : goal.returns-in_err-field
unfolding outcome_of
returns-in_err-field t c =
    ap outcome_of (erred c.from_residual-in_err-field.ensures.1)
    ∙ walk_value (walk_tagged c.loop-c.invariant c.loop-c-test.true _ c.tag.ensures c.in_ok-tag.was c.row_of-row.ensures)
    c.wire_fits.ensures c.if-not-wire_fits.false c.slot_of-slot.ensures c.is_taken.ensures c.if-is_taken.false _
    c.value.ensures c.in_err-field.was

pub bounds-seen-slot : goal.bounds-seen-slot
bounds-seen-slot t c = slot_low _ _ c.slot_of-slot.ensures

pub loop-c-smaller-in_default : goal.loop-c-smaller-in_default
loop-c-smaller-in_default t c =
    turn_falls (walk_turned (walk_tagged c.loop-c.invariant c.loop-c-test.true _ c.tag.ensures c.in_ok-tag.was
    c.row_of-row.ensures) c.wire_fits.ensures c.if-not-wire_fits.false c.slot_of-slot.ensures c.is_taken.ensures
    c.if-is_taken.false
    _ c.value.ensures c.in_ok-field.was)

pub loop-c-preserved-in_default : goal.loop-c-preserved-in_default
loop-c-preserved-in_default t c =
    walk_closed (walk_turned (walk_tagged c.loop-c.invariant c.loop-c-test.true _ c.tag.ensures c.in_ok-tag.was
    c.row_of-row.ensures) c.wire_fits.ensures c.if-not-wire_fits.false c.slot_of-slot.ensures c.is_taken.ensures
    c.if-is_taken.false
    _ c.value.ensures c.in_ok-field.was) _ c.content_of.ensures c.in_default.is

pub returns-then-is_too_deep : goal.returns-then-is_too_deep
unfolding outcome_of
returns-then-is_too_deep t c =
    ap outcome_of c.refused-then-is_too_deep.ensures
    ∙ walk_deep (walk_turned (walk_tagged c.loop-c.invariant c.loop-c-test.true _ c.tag.ensures c.in_ok-tag.was
    c.row_of-row.ensures) c.wire_fits.ensures c.if-not-wire_fits.false c.slot_of-slot.ensures c.is_taken.ensures
    c.if-is_taken.false
    _ c.value.ensures c.in_ok-field.was) _ c.content_of.ensures c.in-Some.is c.is_too_deep.ensures c.if-is_too_deep.true

pub depth_in-requires : goal.depth_in-requires
depth_in-requires t c = c.requires

pub walk-requires : goal.walk-requires
walk-requires t c = (
  inner_falls (walk_turned (walk_tagged c.loop-c.invariant c.loop-c-test.true _ c.tag.ensures c.in_ok-tag.was
      c.row_of-row.ensures) c.wire_fits.ensures c.if-not-wire_fits.false c.slot_of-slot.ensures c.is_taken.ensures
      c.if-is_taken.false
      _ c.value.ensures c.in_ok-field.was) c.decreases,
  deeper_low _ c.requires c.is_too_deep.ensures c.if-is_too_deep.false c.depth_in.ensures,
)

pub loop-c-smaller : goal.loop-c-smaller
loop-c-smaller t c =
    turn_falls (walk_turned (walk_tagged c.loop-c.invariant c.loop-c-test.true _ c.tag.ensures c.in_ok-tag.was
    c.row_of-row.ensures) c.wire_fits.ensures c.if-not-wire_fits.false c.slot_of-slot.ensures c.is_taken.ensures
    c.if-is_taken.false
    _ c.value.ensures c.in_ok-field.was)

pub loop-c-preserved : goal.loop-c-preserved
loop-c-preserved t c =
    walk_inner (walk_turned (walk_tagged c.loop-c.invariant c.loop-c-test.true _ c.tag.ensures c.in_ok-tag.was
    c.row_of-row.ensures) c.wire_fits.ensures c.if-not-wire_fits.false c.slot_of-slot.ensures c.is_taken.ensures
    c.if-is_taken.false
    _ c.value.ensures c.in_ok-field.was) _ c.content_of.ensures c.in-Some.is c.is_too_deep.ensures c.if-is_too_deep.false
    c.depth_in.ensures _
    c.walk.ensures c.in_ok-walk.was

pub returns-in_err-walk : goal.returns-in_err-walk
unfolding outcome_of
returns-in_err-walk t c =
    ap outcome_of (erred c.from_residual-in_err-walk.ensures.1)
    ∙ walk_bad (walk_turned (walk_tagged c.loop-c.invariant c.loop-c-test.true _ c.tag.ensures c.in_ok-tag.was
    c.row_of-row.ensures) c.wire_fits.ensures c.if-not-wire_fits.false c.slot_of-slot.ensures c.is_taken.ensures
    c.if-is_taken.false
    _ c.value.ensures c.in_ok-field.was) _ c.content_of.ensures c.in-Some.is c.is_too_deep.ensures c.if-is_too_deep.false
    c.depth_in.ensures _
    c.walk.ensures c.in_err-walk.was
