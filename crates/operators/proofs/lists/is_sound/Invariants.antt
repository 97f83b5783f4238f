use Prim.Native.Nat.{◌-◌}
use lib.ListN.{length}
use Rattle.operators.proofs.SearchLaws.{Judging}
use Rattle.operators.proofs.lists.is_sound.Given as goal

abbrev pub invariant-loop-at : goal.invariant-loop-at
invariant-loop-at l = Judging l.list l.at

abbrev pub decreases-loop-at : goal.decreases-loop-at
decreases-loop-at l = length l.list - l.at
