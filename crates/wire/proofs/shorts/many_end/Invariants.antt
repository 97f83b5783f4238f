use Rattle.wire.proofs.QuickLaws.{Skipping}
use Rattle.wire.proofs.shorts.many_end.Given as goal

abbrev pub invariant-loop-i : goal.invariant-loop-i
invariant-loop-i l = Skipping l.s l.end l.at l.i
