use Rattle.index.proofs.ScanLaws.{Scanning}
use Rattle.index.proofs.tables.scan.Given as goal

abbrev pub invariant-loop-i : goal.invariant-loop-i
invariant-loop-i l = Scanning l.model l.table l.below l.name l.i
