use Rattle.index.proofs.TableLaws.{Seeking}
use Rattle.index.proofs.tables.find.Given as goal

abbrev pub invariant-loop-i : goal.invariant-loop-i
invariant-loop-i l = Seeking l.model l.seed l.table l.used l.below l.name l.i

abbrev pub decreases-loop-i : goal.decreases-loop-i
decreases-loop-i l = l.i
