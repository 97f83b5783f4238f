use Prim.Native.Nat.{◌-◌}
use Rattle.wire.proofs.OutlineLaws.{Marks}
use Rattle.wire.proofs.Field.outline.Given as goal

abbrev pub invariant-loop-here : goal.invariant-loop-here
invariant-loop-here l = Marks l.s l.a l.b l.c l.d l.e l.f l.end l.initial.here l.here l.o

abbrev pub decreases-loop-here : goal.decreases-loop-here
decreases-loop-here l = l.end - l.here.at
