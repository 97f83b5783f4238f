-- Document 01, "Second walk: header, then graphs"; document 02, Req 01: then functions.
use Rattle.std.specs.Prelude.{ℕ, ◌-◌, Bool, true, not, List, []}
use Rattle.std.proofs.Math.Option.{none, some}
use Rattle.varint.specs.Outcome.{pass, ◌>>=◌, ◌>>◌, each, Judged, refused, refuse◌at:◌when:◌}
use Rattle.varint.specs.Lists.{is_empty, present, within}
use Rattle.varint.specs.Bytes.{Bytes}
use Rattle.wire.specs.Message.{Message, all_of, first_of, number_of, place_of, message, whole}
use Rattle.schema.specs.Numbers.{Model-ir_version, Model-graph, Model-opset_import, Model-functions}
use Rattle.rules.specs.Walk.{Context, Walk, start}
use Rattle.rules.specs.Import.{opset_import}
use Rattle.rules.specs.Graph.{graph}
use Rattle.rules.specs.Function.{functions, function, Function-computes}

-- What surrounds the main graph of a model.
unfoldable pub in_model : Message → (imports : List Bytes) → Context
in_model m imports = record { imports = imports; main = true; ir_version = number_of Model-ir_version m; attributes = [] }

module _ (model list : Bytes) where
  -- "Header order: 10, 11, 12, each import in order (13 then 14), 15." "Open Model field 25 and retire 15 for it." "Refusal 10 now means outside 3..11."
  unfoldable pub header : Message → Judged (List Bytes)
  header m = do
    refuse 10 at: place_of Model-ir_version m when: not (within 3 11 (number_of Model-ir_version m))
    refuse 11 at: m.place when: not (present (first_of Model-graph m))
    refuse 12 at: m.place when: is_empty (all_of Model-opset_import m)
    each (opset_import model list) [] (all_of Model-opset_import m)

  -- "Then the main graph." "Functions are judged in list order after the main graph". `full` says when names fill the cells, and graphs are judged
  -- to `depth`.
  unfoldable pub second_walk_to : (depth : ℕ) → (full : ℕ → Bool) → Judged Walk
  second_walk_to depth full = do
    let m = message model (whole model)
    imports ← header m
    w ← elim (first_of Model-graph m) [
      | none ↦ refused 11 m.place
      | some g ↦ graph model full depth (in_model m imports) start g
    ]
    f ← each (function model list full (depth - 1) (number_of Model-ir_version m)) (functions w) (all_of Model-functions m)
    pass f.walk

  -- "to depth 8, the main graph being depth 1"
  unfoldable pub second_walk : (full : ℕ → Bool) → Judged Walk
  second_walk full = second_walk_to 8 full

-- This file and what it is built on, for whoever computes with it.
unfoldable pub Header-computes : Unit {0}
unfolding Function-computes in_model header second_walk_to second_walk
Header-computes = tt
