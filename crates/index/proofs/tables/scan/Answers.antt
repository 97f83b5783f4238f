use native.Mathlib.Omega.{arith}
use Rattle.index.proofs.ScanLaws.{scan_start, scan_end, scan_here, scan_next}
use Rattle.index.proofs.tables.scan.Goals as goal

pub loop-i-init : goal.loop-i-init
loop-i-init c = scan_start _ _ _ _

pub name_of-requires : goal.name_of-requires
name_of-requires c = omega (arith, c.loop-i.invariant.inside, c.loop-i-test.true, c.requires)

pub returns-then-same_bytes : goal.returns-then-same_bytes
returns-then-same_bytes c =
    scan_here c.loop-i.invariant c.loop-i-test.true c.name_of.ensures c.same_bytes.ensures c.if-same_bytes.true

pub loop-i-preserved : goal.loop-i-preserved
loop-i-preserved c = scan_next c.loop-i.invariant c.loop-i-test.true c.name_of.ensures c.same_bytes.ensures c.if-same_bytes.false

pub returns : goal.returns
returns c = scan_end c.loop-i.invariant c.loop-i-test.false
