-- What is claimed of the definitions, as types. Each is proved in proofs/ under the name of its type in snake case.
use Rattle.std.specs.Prelude.{ℕ, ◌+◌, ◌-◌, ◌^◌, ◌≤◌, ◌<◌, min, ◌≡◌, ◌↔◌, ◌⊎◌, Bool, true, false, length, replicate, T}
use mathlib.Core.List.{List, [], ◌∷◌, ◌++◌, map, flat_map, Memᴰ}
use Rattle.std.proofs.Math.Option.{none, some}
use Rattle.varint.specs.Outcome.{pass, fail, refused, refused_with}
use Rattle.varint.specs.declared.Refusal.{Refusal}
use Rattle.varint.specs.declared.Varint.{Varint}
use Rattle.wire.specs.declared.Field.{Field}
use Rattle.varint.specs.Lists.{contains}
use Rattle.varint.specs.Bytes.{Bytes, byte, part, same, member}
use Rattle.varint.specs.Varint.{varint}
use Rattle.varint.specs.Encoding.{Octets}
use Rattle.wire.specs.Wire.{field, fields_from, fields}
use Rattle.wire.specs.Encoding.{said, encoded}
use Rattle.wire.specs.Plain.{plain_fields}
use Rattle.wire.specs.Message.{Message, all_of, first_of, text, message, whole}
use Rattle.wire.specs.Order.{Ordered, Gapless}
use Rattle.operators.specs.Operators.{sound, entries_from, entries_at}
use Rattle.schema.specs.declared.Kind.{Kind}
use Rattle.schema.specs.declared.Kind.TheVariants.{Model}
use Rattle.schema.specs.Numbers.{Graph-input, ValueInfo-name, Attribute-g, Attribute-graphs}
use Rattle.schema.specs.FirstWalk.{walk, walked, first_walk}
use Rattle.schema.specs.Opened.{Opened, innermost}
use Rattle.rules.specs.Names.{Name, bodies_of, name_of, name_in, inputs_of}
use Rattle.rules.specs.Walk.{Walk}
use Rattle.rules.specs.Header.{second_walk_to, second_walk}
use Rattle.rules.specs.Verdict.{LARGEST, Counts, counts, room, verdict}
use Rattle.rules.specs.Runner.{Read, binding, reading, Run, find, run_to, run}
use Rattle.rules.specs.Count.{nodes_to, node_count, odd_to, odd_in}
use Rattle.rules.specs.Refusals.{refusals}

-- ---- demand 2

-- "the list is sound, the model keeps the size, Protocol Buffers and ONNX IR rules that document 01 lists, and its greatest
-- count of names in scope fits the cells", of which a name takes two: the second walk here has no cells to fill.
pub record Acceptable (model list : Bytes) (cells : ℕ) (c : Counts) : Type 0 where
  pub list_sound : sound list ≡ true
  pub size_kept : length model ≤ LARGEST
  pub wire_kept : first_walk model ≡ pass tt
  pub rules_kept : (w : Walk) × (second_walk model list (λ visible. false) ≡ pass w) × (counts w ≡ c)
  pub names_fit : c.names ≤ room cells

-- "A model is accepted exactly when .." this holds, and with these counts.
unfoldable pub AcceptedExactly : Type 0
AcceptedExactly =
    (model list : Bytes) (cells : ℕ) (c : Counts) → (verdict model list cells ≡ pass c) ↔ Acceptable model list cells c

-- "Acceptance reports the true count of nodes and that greatest count": the plain count, and the most names bound together
-- at any moment of the run that enters every body once. The third count is a plain one too.
unfoldable pub CountsTrue : Type 0
CountsTrue =
    (model list : Bytes) (cells : ℕ) (c : Counts) → verdict model list cells ≡ pass c →
    (c.nodes ≡ node_count model) × ((r : Run) × (run model [] ≡ pass r) × (c.names ≡ r.most)) × (c.odd ≡ odd_in model)

-- "a numbered refusal with a byte place": a number of the table, and 0 or a place inside the model. The second number is 0, or of a
-- name defined twice a place inside the model, not always before the first: wire order is not list order.
unfoldable pub RefusedProperly : Type 0
RefusedProperly =
    (model list : Bytes) (cells : ℕ) (r : Refusal) → verdict model list cells ≡ fail r →
    T (contains r.number refusals) × ((r.place ≡ 0) ⊎ (r.place < length model)) × ((r.first ≡ 0) ⊎ ((r.number ≡ 23) × (r.first < length model)))

-- "visible names already equal the cells": with more cells an answer stays what it is, unless it is a 40. So whoever lends more after each 40
-- ends with the answer of every greater number of them.
unfoldable pub EnoughCells : Type 0
EnoughCells =
    (model list : Bytes) (cells more : ℕ) → cells ≤ more →
    (verdict model list cells ≡ verdict model list more) ⊎ ((p : ℕ) × (verdict model list cells ≡ refused 40 p))

-- "Places and lengths stay below 2^31."
unfoldable pub PlacesShort : Type 0
PlacesShort =
    (model list : Bytes) (cells : ℕ) →
    ((r : Refusal) → verdict model list cells ≡ fail r → (r.place < 2 ^ 31) × (r.first < 2 ^ 31)) ×
    ((c : Counts) → verdict model list cells ≡ pass c → length model < 2 ^ 31)

-- "67,108,864 / 67,108,865 bytes, all `00`" are "3 at 0 / 7 at 0", at the limit as it now is: too many bytes for a sample to compute with.
unfoldable pub ZerosAtLimit : Type 0
ZerosAtLimit =
    (list : Bytes) (cells : ℕ) → sound list ≡ true →
    (verdict (replicate LARGEST 0) list cells ≡ refused 3 0) × (verdict (replicate (LARGEST + 1) 0) list cells ≡ refused 7 0)

-- ---- demand 3

-- Of an accepted model: "For every list of such choices the run, begun with no name bound, reaches its end", and "Any two reads of
-- the same field, in one run or in two runs under different lists of choices, find the same defining place." Of one refused "for a
-- name defined twice, a name not defined or an output not defined, the run that enters every body once stops at that very
-- place", and the name that it finds bound there has the second number as its defining place.
pub record Faithful (model list : Bytes) (cells : ℕ) : Type 0 where
  pub ends : (c : Counts) → verdict model list cells ≡ pass c → (choices : List ℕ) → (r : Run) × (run model choices ≡ pass r)
  pub agrees :
      (c : Counts) → verdict model list cells ≡ pass c →
      (choices₁ choices₂ : List ℕ) (r₁ r₂ : Run) → run model choices₁ ≡ pass r₁ → run model choices₂ ≡ pass r₂ →
      (x₁ x₂ : Read) → Memᴰ x₁ r₁.trace → Memᴰ x₂ r₂.trace → x₁.field ≡ x₂.field → x₁.found ≡ x₂.found
  pub stops_binding : (p first : ℕ) → verdict model list cells ≡ refused_with 23 p first → run model [] ≡ fail (binding p first)
  pub stops_reading : (p : ℕ) → verdict model list cells ≡ refused 30 p → run model [] ≡ fail (reading p)
  pub stops_output : (p : ℕ) → verdict model list cells ≡ refused 35 p → run model [] ≡ fail (reading p)

unfoldable pub Demand3 : Type 0
Demand3 = (model list : Bytes) (cells : ℕ) → Faithful model list cells

-- ---- one content, one encoding

-- Document 02, Req 07: "Padding alone defeats our content hash."
pub record OneEncoding : Type 0 where
  -- "Padded: more than one byte and the last is 0."
  pub padded_exactly :
      (model : Bytes) (place end pos : ℕ) (v : Varint) → varint model place end pos ≡ pass v →
      (v.shortest ≡ false) ↔ ((pos + 1 < v.next) × (byte model (v.next - 1) ≡ 0))
  -- what a field's bytes are follows from its number, wire type, value and contents, in a model whose elements are bytes
  pub of_field :
      (model : Bytes) (end pos : ℕ) (f : Field) → Octets model → end ≤ length model → field model end pos ≡ pass f →
      part pos (f.next - pos) model ≡ encoded (said model f)
  -- after a passed first walk, what the bytes of each opened message are follows from its fields
  pub of_message :
      (model : Bytes) → Octets model → first_walk model ≡ pass tt → (path : List Field) → Opened model Model (whole model) path →
      let f = innermost (whole model) path in text model f ≡ flat_map encoded (map (said model) (message model f).fields)
  -- and so two models that passed are the same bytes if their fields say the same
  pub of_model :
      (a b : Bytes) → Octets a → Octets b → first_walk a ≡ pass tt → first_walk b ≡ pass tt →
      map (said a) (message a (whole a)).fields ≡ map (said b) (message b (whole b)).fields → a ≡ b

-- ---- the definitions themselves

-- Wherever `verdict`, `run` or the plain count recurses on a bound, any larger bound gives the same. (The ten bytes of a varint are a rule
-- and no such bound. `spell` of `report` and `count_from` of `walk_c` have laws of their own there.)
pub record BoundsNeverDecide : Type 0 where
  pub of_fields : (model : Bytes) (bound end pos : ℕ) → end ≤ pos + bound → fields_from model bound end pos ≡ fields model end pos
  pub of_entries : (list : Bytes) (bound pos : ℕ) → length list ≤ pos + bound → entries_from list bound pos ≡ entries_at list pos
  pub of_first_walk :
      (model : Bytes) (bound : ℕ) (kind : Kind) (depth : ℕ) (slots : List ℕ) (end pos : ℕ) → end ≤ pos + bound →
      walk model bound kind depth slots end pos ≡ walked model kind depth slots end pos
  pub of_second_walk :
      (model list : Bytes) (full : ℕ → Bool) (depth : ℕ) → first_walk model ≡ pass tt → 8 ≤ depth →
      second_walk_to model list depth full ≡ second_walk model list full
  pub of_run : (model : Bytes) (bound : ℕ) (choices : List ℕ) → length model ≤ bound → run_to model bound choices ≡ run model choices
  pub of_nodes : (model : Bytes) (bound : ℕ) → length model ≤ bound → nodes_to model bound ≡ node_count model
  pub of_odd : (model : Bytes) (bound : ℕ) → length model ≤ bound → odd_to model bound ≡ odd_in model

-- No name in the list has these bytes.
abbrev pub Absent : Bytes → List Name → Type 0
Absent x names = (n : Name) → Memᴰ n names → n.bytes ≡ x → ⊥

-- What judge and runner share does what its name says, since demand 3 cannot tell.
pub record SharedTrue : Type 0 where
  pub same_is_equal : (a b : Bytes) → T (same a b) ↔ (a ≡ b)
  pub member_is_membership : (x : Bytes) (l : List Bytes) → T (member x l) ↔ Memᴰ x l
  pub find_finds_newest :
      (x : Bytes) (names : List Name) (p : ℕ) → find x names ≡ some p →
      (newer older : List Name) × (n : Name) × (names ≡ newer ++ (n ∷ older)) × (n.bytes ≡ x) × (n.place ≡ p) × Absent x newer
  pub find_misses_none : (x : Bytes) (names : List Name) → find x names ≡ none → Absent x names
  pub fields_apart : (model : Bytes) (f : Field) → Ordered f.start f.next (message model f).fields
  -- and after a passed first walk those of each opened message run without a gap from its start to its end
  pub fields_whole :
      (model : Bytes) → first_walk model ≡ pass tt → (path : List Field) → Opened model Model (whole model) path →
      let f = innermost (whole model) path in Gapless f.start f.next (message model f).fields
  -- by a reader that lets padding pass, too: "The runner's own reading does not change."
  pub fields_plain :
      (model : Bytes) → first_walk model ≡ pass tt → (path : List Field) → Opened model Model (whole model) path →
      let f = innermost (whole model) path in plain_fields model f.next f.start ≡ (message model f).fields
  pub all_of_lem : (n : ℕ) (m : Message) (f : Field) → Memᴰ f (all_of n m) ↔ (Memᴰ f m.fields × (f.number ≡ n))
  pub all_apart : (model : Bytes) (n : ℕ) (f : Field) → Ordered f.start f.next (all_of n (message model f))
  pub bodies_of_lem :
      (a : Message) (f : Field) →
      Memᴰ f (bodies_of a) ↔ (Memᴰ f a.fields × ((f.number ≡ Attribute-g) ⊎ (f.number ≡ Attribute-graphs)))
  pub bodies_apart : (model : Bytes) (f : Field) → Ordered f.start f.next (bodies_of (message model f))
  pub text_reads : (model : Bytes) (f : Field) (i : ℕ) → i < f.next - f.start → byte (text model f) i ≡ byte model (f.start + i)
  pub text_ends : (model : Bytes) (f : Field) → length (text model f) ≡ min (f.next - f.start) (length model - f.start)
  pub first_of_lem : (n : ℕ) (m : Message) (f : Field) → first_of n m ≡ some f → (more : List Field) × (all_of n m ≡ f ∷ more)
  pub none_of : (n : ℕ) (m : Message) → first_of n m ≡ none → all_of n m ≡ []
  pub name_of_lem : (model : Bytes) (n : ℕ) (m : Message) (f : Field) → first_of n m ≡ some f → name_of model n m ≡ name_in model f
  pub inputs_of_lem :
      (model : Bytes) (g : Message) (x : Bytes) →
      Memᴰ x (inputs_of model g) ↔ ((f : Field) × Memᴰ f (all_of Graph-input g) × ((name_of model ValueInfo-name (message model f)).bytes ≡ x))
