use mathlib.Core.Path.{ap}
use Rattle.spelling.specs.Utf8.{ahead}
use Rattle.spelling.specs.Spelling.{lead_says}
use Rattle.spelling.proofs.Utf8Reading.{reading_start, reading_end, reading_ascii, reading_no_lead, reading_lead}
use Rattle.spelling.proofs.Utf8Reading.{reading_below, reading_above, reading_tail}
use Rattle.spelling.proofs.utf8.is_well_formed.Goals as goal

pub loop-b-init : goal.loop-b-init
loop-b-init c = reading_start _ 0

pub loop-b-preserved-then-b-lt128 : goal.loop-b-preserved-then-b-lt128
loop-b-preserved-then-b-lt128 c = reading_ascii c.loop-b.invariant c.if-tails-eq0.true c.loop-b-test.true c.if-b-lt128.true

pub returns-in_default : goal.returns-in_default
unfolding lead_says
returns-in_default c =
    reading_no_lead c.loop-b.invariant c.if-tails-eq0.true c.loop-b-test.true _ c.lead_of.ensures
    (ap lead_says c.in_default.is)

pub loop-b-preserved-then-tails-eq0 : goal.loop-b-preserved-then-tails-eq0
unfolding lead_says ahead
loop-b-preserved-then-tails-eq0 c =
    reading_lead c.loop-b.invariant c.if-tails-eq0.true c.loop-b-test.true _ c.lead_of.ensures _
    (ap lead_says c.in-Some.is)

pub returns-then-b-lo : goal.returns-then-b-lo
returns-then-b-lo c = reading_below c.loop-b.invariant c.if-tails-eq0.false c.loop-b-test.true c.if-b-lo.true

pub returns-then-b-hi : goal.returns-then-b-hi
returns-then-b-hi c = reading_above c.loop-b.invariant c.if-tails-eq0.false c.loop-b-test.true c.if-b-hi.true

pub loop-b-preserved : goal.loop-b-preserved
loop-b-preserved c = reading_tail c.loop-b.invariant c.if-tails-eq0.false c.loop-b-test.true c.if-b-lo.false c.if-b-hi.false

pub returns : goal.returns
returns c = reading_end c.loop-b.invariant c.loop-b-test.false
