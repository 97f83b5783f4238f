use Prim.Native.Nat.{◌-◌}
use Rattle.schema.specs.Numbers.{Shape-dim}
use Rattle.rules.specs.Types.{dim}
use Rattle.rules.specs.Walk.{Walk}
use Rattle.values.proofs.TallyLaws.{Tallying}
use Rattle.values.proofs.TypeLaws.{dim_names}
use Rattle.varint.proofs.Tells.{Any}
use Rattle.values.proofs.types.dims.Given as goal

abbrev pub invariant-loop-d : goal.invariant-loop-d
invariant-loop-d l =
    Tallying l.model Shape-dim l.initial.c.end l.initial.c.at (Any {A = Walk}) (dim_names l.model) (dim l.model) l.odd l.c

abbrev pub decreases-loop-d : goal.decreases-loop-d
decreases-loop-d l = l.initial.c.end - l.c.at
