use Rattle.wire.proofs.CursorLaws.{Seeking}
use Prim.Native.Nat.{◌-◌}
use Rattle.wire.proofs.Cursor.next_of.Given as goal

abbrev pub invariant-loop-at : goal.invariant-loop-at
invariant-loop-at l = Seeking l.s l.number l.end l.initial.at (record { at = l.at; end = l.end })

abbrev pub decreases-loop-at : goal.decreases-loop-at
decreases-loop-at l = l.end - l.at
