use Rattle.index.proofs.StoreLaws.{Popping}
use Rattle.index.proofs.tables.pop_to.Given as goal

abbrev pub invariant-loop-i : goal.invariant-loop-i
invariant-loop-i l = Popping l.model l.seed l.used l.count l.initial.table l.table l.i
