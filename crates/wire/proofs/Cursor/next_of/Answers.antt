use Rattle.wire.proofs.QuickLaws.{quick_answer, long_value}
use Rattle.wire.proofs.CursorLaws.{seek_start, seek_done, seek_stop, seek_found, seek_next, seek_falls, seek_on}
use Rattle.wire.specs.Answers.{sought_says}
use mathlib.Core.Path.{refl}
use Rattle.wire.proofs.Cursor.next_of.Goals as goal

pub loop-at-init : goal.loop-at-init
loop-at-init c = seek_start _ _ _

pub returns : goal.returns
unfolding sought_says
returns c = seek_done c.loop-at.invariant c.loop-at-test.false

pub returns-then-number-f : goal.returns-then-number-f
unfolding sought_says
returns-then-number-f c =
    seek_found c.loop-at.invariant c.loop-at-test.true
    (quick_answer c.in-Some.ensures c.in-Some-quick_value.ensures) refl c.if-number-f.true

pub loop-at-smaller-in-Some-quick_value : goal.loop-at-smaller-in-Some-quick_value
loop-at-smaller-in-Some-quick_value c =
    seek_falls c.loop-at.invariant c.loop-at-test.true
    (quick_answer c.in-Some.ensures c.in-Some-quick_value.ensures) refl

pub loop-at-preserved-in-Some-quick_value : goal.loop-at-preserved-in-Some-quick_value
loop-at-preserved-in-Some-quick_value c =
    seek_next c.loop-at.invariant c.loop-at-test.true
    (quick_answer c.in-Some.ensures c.in-Some-quick_value.ensures) refl c.if-number-f.false

pub loop-at-smaller-then-number-t : goal.loop-at-smaller-then-number-t
loop-at-smaller-then-number-t c =
    seek_falls c.loop-at.invariant c.loop-at-test.true
    (quick_answer c.in-Some.ensures (long_value c.in-Some-long_end.ensures refl)) refl

pub loop-at-preserved-then-number-t : goal.loop-at-preserved-then-number-t
loop-at-preserved-then-number-t c =
    seek_next c.loop-at.invariant c.loop-at-test.true
    (quick_answer c.in-Some.ensures (long_value c.in-Some-long_end.ensures refl)) refl
    c.if-number-t.true

pub returns-in_default-quick_field : goal.returns-in_default-quick_field
unfolding sought_says
returns-in_default-quick_field c = seek_stop c.loop-at.invariant c.loop-at-test.true c.quick_field.ensures c.in_default-quick_field.is

pub returns-then-number-field : goal.returns-then-number-field
unfolding sought_says
returns-then-number-field c =
    seek_found c.loop-at.invariant c.loop-at-test.true c.quick_field.ensures c.in-Ok.is c.if-number-field.true

pub loop-at-smaller : goal.loop-at-smaller
loop-at-smaller c = seek_falls c.loop-at.invariant c.loop-at-test.true c.quick_field.ensures c.in-Ok.is

pub loop-at-preserved : goal.loop-at-preserved
loop-at-preserved c =
    seek_on (seek_next c.loop-at.invariant c.loop-at-test.true c.quick_field.ensures c.in-Ok.is c.if-number-field.false)
