use Prim.Native.Nat.{◌-◌}
use Rattle.values.proofs.CarrierLaws.{Looking}
use Rattle.values.proofs.carriers.has_foreign.Given as goal

abbrev pub invariant-loop-c : goal.invariant-loop-c
invariant-loop-c l = Looking l.model l.mine l.initial.c.end l.initial.c.at l.c

abbrev pub decreases-loop-c : goal.decreases-loop-c
decreases-loop-c l = l.initial.c.end - l.c.at
