use Rattle.index.proofs.TableLaws.{seek_start, seek_here, seek_less, seek_next, seek_end}
use native.Mathlib.Omega.{arith}
use Rattle.index.proofs.tables.find.Goals as goal

pub returns-then-below-le-FEW : goal.returns-then-below-le-FEW
returns-then-below-le-FEW c = c.scan.ensures

pub loop-i-init : goal.loop-i-init
loop-i-init c =
    seek_start c.requires.0 c.capacity-size.ensures.0 _ c.requires.1 (λ e. omega (arith, c.if-below-le-FEW.false))
    c.bucket_of.ensures.0 c.cell-i.ensures.0

pub returns-then-is_named : goal.returns-then-is_named
returns-then-is_named c = seek_here c.loop-i.invariant c.loop-i-test.true c.is_named.ensures c.if-is_named.true

pub loop-i-smaller : goal.loop-i-smaller
loop-i-smaller c =
    seek_less c.requires.0 c.capacity-size.ensures.0 c.loop-i.invariant c.loop-i-test.true c.cell-i-in-loop-i.ensures.0

pub loop-i-preserved : goal.loop-i-preserved
loop-i-preserved c =
    seek_next c.requires.0 c.capacity-size.ensures.0 c.loop-i.invariant c.loop-i-test.true c.cell-i-in-loop-i.ensures.0
    c.is_named.ensures c.if-is_named.false

pub returns : goal.returns
returns c = seek_end c.loop-i.invariant c.loop-i-test.false

pub scan-requires : goal.scan-requires
scan-requires c = omega (arith, c.requires.0.fits, c.requires.1)
