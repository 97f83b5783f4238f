-- The main graph as `second_walk_to` judges it, if there is one.
use Prim.Native.Nat.{ℕ}
use mathlib.Core.Bool.{Bool}
use mathlib.Core.Option.{Option, none, some}
use Rattle.varint.specs.Outcome.{Judged, refused}
use Rattle.wire.specs.declared.Field.{Field}
use Rattle.varint.specs.Bytes.{Bytes}
use Rattle.wire.specs.Message.{message, whole}
use Rattle.rules.specs.Walk.{Context, Walk, start}
use Rattle.rules.specs.Graph.{graph}

abbrev pub main_graph : (model : Bytes) → (full : ℕ → Bool) → (depth : ℕ) → Context → Option Field → Judged Walk
main_graph model full depth c o = elim o [ none ↦ refused 11 (message model (whole model)).place | some g ↦ graph model full depth c start g ]
