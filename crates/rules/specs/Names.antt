-- Names with their places, and which parts of a graph hold them. The second walk and the runner both read models through this file, the
-- field numbers of `schema`, and Message.antt, Bytes.antt (`same`, `member`), Lists.antt (`keep`) and Outcome.antt (`each`) below them.
-- `SharedTrue` says what these do. How names become visible or bound, what is searched, and what a default is, each has of its own.
use Rattle.std.specs.Prelude.{ℕ, ◌||◌, eqb}
use mathlib.Core.List.{List, map, flat_map}
use Rattle.wire.specs.declared.Field.{Field}
use Rattle.varint.specs.Lists.{keep}
use Rattle.varint.specs.Bytes.{Bytes}
use Rattle.wire.specs.Message.{Message, all_of, place_of, text, bytes_of, message, Message-computes}
use Rattle.schema.specs.Numbers.{Graph-input, Node-attribute, ValueInfo-name, Attribute-g, Attribute-graphs}

-- A name, and "the tag of the field that holds it".
pub record Name : Type 0 where
  pub bytes : Bytes
  pub place : ℕ

-- The graphs that an attribute holds, alone or in a list: "its graphs in order".
unfoldable pub bodies_of : Message → List Field
bodies_of a = keep (λ f. eqb Attribute-g f.number || eqb Attribute-graphs f.number) a.fields

module _ (model : Bytes) where
  -- The name in a message's field of this number.
  unfoldable pub name_of : ℕ → Message → Name
  name_of n m = record { bytes = bytes_of model n m; place = place_of n m }

  -- The name that a field is: an input or an output of a node.
  unfoldable pub name_in : Field → Name
  name_in f = record { bytes = text model f; place = f.place }

  -- The names of a graph's inputs.
  unfoldable pub inputs_of : Message → List Bytes
  inputs_of g = map (λ f. bytes_of model ValueInfo-name (message model f)) (all_of Graph-input g)

  -- The bodies of a node, attribute by attribute.
  unfoldable pub bodies_in : (node : Field) → List Field
  bodies_in n = flat_map (λ a. bodies_of (message model a)) (all_of Node-attribute (message model n))

-- This file and what it is built on, for whoever computes with it.
unfoldable pub Names-computes : Unit {0}
unfolding Message-computes bodies_of name_of name_in inputs_of bodies_in flat_map
Names-computes = tt
