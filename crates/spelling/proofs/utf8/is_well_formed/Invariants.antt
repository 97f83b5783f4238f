use Rattle.spelling.specs.Utf8.{well_formed}
use Rattle.spelling.proofs.Utf8Reading.{Reading}
use Rattle.spelling.proofs.utf8.is_well_formed.Given as goal

abbrev pub invariant-loop-b : goal.invariant-loop-b
invariant-loop-b l = Reading (well_formed l.s) l.s l.b-index l.tails l.lo l.hi
