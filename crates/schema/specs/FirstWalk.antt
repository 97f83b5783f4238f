-- Document 01, "First walk: the wire": "The whole model is walked in byte order, depth first." First walk and second walk are the
-- document's terms.
use Rattle.std.specs.Prelude.{ℕ, zero, suc, ◌+◌, ◌-◌, Bool, true, false, not, ◌&&◌, ◌||◌, List, [], ◌∷◌, length, leb, eqb}
use Rattle.std.proofs.Math.Option.{Option, none, some}
use Rattle.varint.specs.Outcome.{pass, ◌>>=◌, ◌>>◌, Rule, refuse◌at:◌when:◌}
use Rattle.varint.specs.Lists.{contains}
use Rattle.varint.specs.Bytes.{Bytes}
use Rattle.wire.specs.Wire.{VARINT, LEN, I32, tag, value, Wire-computes}
use Rattle.wire.specs.declared.Field.{Field}
use Rattle.schema.specs.declared.Kind.{Kind}
use Rattle.schema.specs.declared.Kind.TheVariants.{Model}
use Rattle.schema.specs.declared.Holds.{Holds}
use Rattle.schema.specs.declared.Holds.TheVariants as holds
use Rattle.schema.specs.declared.Row.{Row}
use Rattle.schema.specs.declared.Row.TheVariants.{Once, Many, Packable, OneOf, Unknown}
use Rattle.schema.specs.Rows.{row_of, holds_of, opened, has_nodes, Rows-computes}

-- ---- what a row asks of a field; of a field that no row names nothing is asked, and nothing of it is opened

unfoldable pub wire_of : Holds → ℕ
wire_of holds.Varint = VARINT
wire_of holds.Bytes = LEN
wire_of holds.Four = I32
wire_of (holds.Message k) = LEN

-- "Fields 7 and 8 of Attribute may also come packed, wire type 2, contents unopened."
unfoldable pub fits : ℕ → Row → Bool
fits wire (Once h) = eqb wire (wire_of h)
fits wire (Many h) = eqb wire (wire_of h)
fits wire (Packable h) = eqb wire (wire_of h) || eqb wire LEN
fits wire (OneOf h) = eqb wire (wire_of h)
fits wire Unknown = true

-- What a field uses up in its message, and only one field may: its own number, or 0 for each member of a "one of", since "A
-- second member of a "one of" counts as a repeat."
unfoldable pub slot_of : ℕ → Row → Option ℕ
slot_of n (Once h) = some n
slot_of n (Many h) = none
slot_of n (Packable h) = none
slot_of n (OneOf h) = some 0
slot_of n Unknown = none

unfoldable pub taken : Option ℕ → List ℕ → Bool
taken none slots = false
taken (some k) slots = contains k slots

unfoldable pub take_up : Option ℕ → List ℕ → List ℕ
take_up none slots = slots
take_up (some k) slots = k ∷ slots

unfoldable pub kind_of : Row → Option Kind
kind_of r = elim (holds_of r) [ none ↦ none | some h ↦ opened h ]

-- The graph depth inside a message that stands at `depth`, "the main graph being depth 1" and "A function is at depth 1".
unfoldable pub deeper : Kind → ℕ → ℕ
deeper k depth = elim (has_nodes k) [ true ↦ depth + 1 | false ↦ depth ]

-- ---- the walk

module _ (model : Bytes) where
  -- Graph depth, then contents, of a field that opens a message of this kind or none; `inner` walks a message.
  unfoldable pub contents : (inner : Kind → (depth end pos : ℕ) → Rule) → (depth : ℕ) → Option Kind → Field → Rule
  contents inner depth none f = pass tt
  contents inner depth (some k) f = do
    refuse 6 at: f.place when: (has_nodes k && eqb depth 8)
    inner k (deeper k depth) f.next f.start

  -- "For each field, in this order: the tag; its wire kind; whether it is a repeat; its value or length; graph depth;
  -- contents." Then the rest of the message; `slots` are those that earlier fields took up.
  unfoldable pub turn : (inner : Kind → (depth end pos : ℕ) → Rule) → (rest : List ℕ → ℕ → Rule) → Kind → (depth : ℕ) → (slots : List ℕ) → (end pos : ℕ) → Rule
  turn inner rest kind depth slots end pos = do
    t ← tag model end pos
    let row = row_of kind t.number
    let slot = slot_of t.number row
    refuse 4 at: pos when: not (fits t.wire row)
    refuse 5 at: pos when: taken slot slots
    f ← value model t end
    (_ : Unit {0}) ← contents inner depth (kind_of row) f
    rest (take_up slot slots) f.next

  -- The fields of a message of this kind from `pos` to `end`. A field takes a byte at least and is longer than its contents, so
  -- `end - pos` is bound enough for the turns.
  unfoldable pub walk : (bound : ℕ) → Kind → (depth : ℕ) → (slots : List ℕ) → (end pos : ℕ) → Rule
  walk zero kind depth slots end pos = pass tt
  walk (suc bound) kind depth slots end pos = elim (leb end pos) [
    | true ↦ pass tt
    | false ↦ turn (λ k d e p. walk bound k d [] e p) (λ more p. walk bound kind depth more end p) kind depth slots end pos
  ]

  unfoldable pub walked : Kind → (depth : ℕ) → (slots : List ℕ) → (end pos : ℕ) → Rule
  walked kind depth slots end pos = walk (end - pos) kind depth slots end pos

  unfoldable pub first_walk : Rule
  first_walk = walked Model 0 [] (length model) 0

-- This file and what it is built on, for whoever computes with it.
unfoldable pub FirstWalk-computes : Unit {0}
unfolding Wire-computes Rows-computes wire_of fits slot_of taken take_up kind_of deeper contents turn walk walked first_walk
FirstWalk-computes = tt
