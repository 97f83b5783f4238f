use Prim.Native.Nat.{◌-◌}
use lib.ListN.{length}
use Rattle.operators.proofs.SearchLaws.{Seeking}
use Rattle.operators.proofs.lists.entry_of.Given as goal

abbrev pub invariant-loop-at : goal.invariant-loop-at
invariant-loop-at l = Seeking l.list l.d l.from l.at

abbrev pub decreases-loop-at : goal.decreases-loop-at
decreases-loop-at l = length l.list - l.at
