use Rattle.varint.specs.Answers.{outcome_of}
use Prim.Native.Nat.{◌-◌}
use native.Mathlib.Omega.{arith}
use mathlib.Core.Path.{ap, ◌∙◌}
use Rattle.varint.proofs.VarintLaws.{reading_start, turn_past, one_byte, go_start, go_scale, go_small, go_last, go_more, go_stop, go_past, go_fits, go_tenth, go_end}
use Rattle.varint.proofs.varints.read_varint.Goals as goal

pub returns-then-end-from : goal.returns-then-end-from
unfolding outcome_of
returns-then-end-from c = ap outcome_of c.refused.ensures ∙ turn_past (reading_start _ _ _ _) c.if-end-from.true

pub returns-then-first-lt128 : goal.returns-then-first-lt128
unfolding outcome_of
returns-then-first-lt128 c = one_byte _ _ _ _ _ c.if-end-from.false c.byte_at-first.ensures.0 c.if-first-lt128.true

pub loop-pos-init : goal.loop-pos-init
loop-pos-init c = go_start _ _ _ _ _ c.if-end-from.false c.tenth_or_end-stop.ensures

pub overflow_mul-result : goal.overflow_mul-result
overflow_mul-result c = record {
  fits = omega (arith, go_small c.loop-pos.invariant c.loop-pos-test.true c.byte_at-b.result (omega arith));
}

pub overflow_add-result-then-b-lt128 : goal.overflow_add-result-then-b-lt128
overflow_add-result-then-b-lt128 c = record {
  fits = go_small c.loop-pos.invariant c.loop-pos-test.true c.byte_at-b.result (omega arith);
}

pub returns-then-b-lt128 : goal.returns-then-b-lt128
unfolding outcome_of
returns-then-b-lt128 c =
    go_last c.loop-pos.invariant c.loop-pos-test.true _ (omega (arith, c.byte_at-first.ensures.0, c.if-first-lt128.false))
    c.byte_at-b.ensures.0 c.if-b-lt128.true

pub overflow_mul-value : goal.overflow_mul-value
overflow_mul-value c = record {
  fits = omega (arith, go_small c.loop-pos.invariant c.loop-pos-test.true (c.byte_at-b.result - 128) (omega arith));
}

pub overflow_add-value : goal.overflow_add-value
overflow_add-value c = record {
  fits = go_small c.loop-pos.invariant c.loop-pos-test.true (c.byte_at-b.result - 128) (omega arith);
}

pub overflow_mul-scale : goal.overflow_mul-scale
overflow_mul-scale c = record { fits = go_scale c.loop-pos.invariant c.loop-pos-test.true }

pub loop-pos-preserved : goal.loop-pos-preserved
loop-pos-preserved c =
    go_more c.loop-pos.invariant c.loop-pos-test.true _ c.byte_at-b.ensures.0 c.if-b-lt128.false c.byte_at-b.ensures.1

pub returns-then-end-stop : goal.returns-then-end-stop
unfolding outcome_of
returns-then-end-stop c = ap outcome_of c.refused-then-end-stop.ensures ∙ go_past (go_stop c.loop-pos.invariant c.loop-pos-test.false) c.if-end-stop.true

pub returns-then-tenth-gt1 : goal.returns-then-tenth-gt1
unfolding outcome_of
returns-then-tenth-gt1 c =
    ap outcome_of c.refused-then-tenth-gt1.ensures
    ∙ go_tenth (go_stop c.loop-pos.invariant c.loop-pos-test.false) (omega arith) c.if-end-stop.false _ c.byte_at-tenth.ensures.0 c.if-tenth-gt1.true

pub overflow_mul-result-2 : goal.overflow_mul-result-2
overflow_mul-result-2 c = record {
  fits = omega (
    arith,
    go_fits (go_stop c.loop-pos.invariant c.loop-pos-test.false) (omega arith) c.if-end-stop.false c.byte_at-tenth.result
        c.if-tenth-gt1.false,
  );
}

pub overflow_add-result-2 : goal.overflow_add-result-2
overflow_add-result-2 c = record {
  fits = go_fits (go_stop c.loop-pos.invariant c.loop-pos-test.false) (omega arith) c.if-end-stop.false c.byte_at-tenth.result c.if-tenth-gt1.false;
}

pub returns : goal.returns
unfolding outcome_of
returns c = go_end (go_stop c.loop-pos.invariant c.loop-pos-test.false) (omega arith) c.if-end-stop.false _ c.byte_at-tenth.ensures.0 c.if-tenth-gt1.false
