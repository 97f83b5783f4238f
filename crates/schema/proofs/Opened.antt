-- What a passed first walk says of every message that it opened: it was walked too and passed, no graph stands at
-- depth 9, its fields have the wire types of their rows and leave no gap.
use Prim.Native.Nat.{ℕ, zero, suc, ◌+◌, ◌-◌, ◌≤◌, ◌<◌}
use native.Mathlib.Omega.{arith}
use mathlib.Core.Path.{◌≡◌, refl, sym, ◌∙◌}
use mathlib.Core.Logic.{◌⊎◌, inl, inr}
use mathlib.Core.Bool.{Bool, true, false, not, ◌&&◌, ◌||◌}
use mathlib.Core.List.{List, [], ◌∷◌, Memᴰ}
use mathlib.Core.Option.{Option, none, some}
use lib.Dec.{T, leb, eqb, eqb→eq}
use borrow.Author.Tests.{leb-true}
use Rattle.varint.specs.Outcome.{pass, fail, ◌>>=◌, Rule, refuse◌at:◌when:◌}
use Rattle.varint.specs.Bytes.{Bytes}
use Rattle.wire.specs.Wire.{tag, value, field, fields_from, fields}
use Rattle.wire.specs.Message.{all_of, message, whole}
use Rattle.wire.specs.Order.{Gapless}
use Rattle.wire.specs.declared.Tag.{Tag}
use Rattle.wire.specs.declared.Field.{Field}
use Rattle.varint.proofs.Lists.{All, If, or_cases, all_member, keep_exactly}
use Rattle.varint.proofs.Passing.{passed_bind, passed_seq, passed_rule, passed_tells}
use Rattle.wire.proofs.Reading.{Fits, AtTag, Follows, tag_tells, value_tells, field_tells, field_placed}
use Rattle.wire.proofs.Fields.{fields_ordered, ordered_all}
use Rattle.schema.specs.declared.Kind.{Kind}
use Rattle.schema.specs.declared.Kind.TheVariants.{Model, Function, Graph, Node, Attribute, Tensor, ValueInfo}
use Rattle.schema.specs.Numbers.{Model-graph, Model-functions, Function-node, Graph-node, Graph-initializer, Graph-input, Node-attribute, Attribute-g, Attribute-graphs}
use Rattle.schema.specs.Rows.{row_of, has_nodes, Rows-computes}
use Rattle.schema.specs.FirstWalk.{fits, slot_of, taken, take_up, kind_of, deeper, contents, turn, walk, walked, first_walk}
use Rattle.schema.specs.Opened.{Opened, innermost, Walked}
use Rattle.schema.proofs.Bound.{walk_bound}

module _ (model : Bytes) where
  -- a field has the wire type of its row, and opens no message, or one that is sound at its depth
  abbrev pub Sound : (depth : ℕ) → Field → Kind → Type 0
  Sound depth f k = T (not (has_nodes k && eqb depth 8)) × (walked model k (deeper k depth) [] f.next f.start ≡ pass tt)

  abbrev pub Opens : Kind → (depth : ℕ) → Field → Type 0
  Opens kind depth f = T (fits f.wire (row_of kind f.number)) × If (Sound depth f) (kind_of (row_of kind f.number))

  contents_passed : (n depth : ℕ) (o : Option Kind) (f : Field) → f.next ≤ f.start + n
      → contents model (λ k d e p. walk model n k d [] e p) depth o f ≡ pass tt
      → If (Sound depth f) o
  unfolding contents
  contents_passed n depth none f h e = tt
  contents_passed n depth (some k) f h e =
      let p = passed_seq (refuse 6 at: f.place when: (has_nodes k && eqb depth 8)) (walk model n k (deeper k depth) [] f.next f.start) tt e in
      (passed_rule 6 f.place (has_nodes k && eqb depth 8) p.0, sym (walk_bound model n k (deeper k depth) [] f.next f.start h) ∙ p.1)

  field_of : (end pos : ℕ) (t : Tag) (f : Field) → tag model end pos ≡ pass t → value model t end ≡ pass f → field model end pos ≡ pass f
  unfolding field ◌>>=◌
  field_of end pos t f e e' = rw (e, field) e'

  turn_passed : (n : ℕ) (kind : Kind) (depth : ℕ) (slots : List ℕ) (end pos : ℕ) → end ≤ suc (pos + n)
      → turn model (λ k d e p. walk model n k d [] e p) (λ more p. walk model n kind depth more end p) kind depth slots end pos ≡ pass tt
      → (f : Field) × (field model end pos ≡ pass f) × (pos < f.next) × Opens kind depth f × ((more : List ℕ) × (walk model n kind depth more end f.next ≡ pass tt))
  unfolding turn
  turn_passed n kind depth slots end pos h e =
      let a = passed_bind (tag model end pos) _ tt e in
      let t = a.0 in
      let row = row_of kind t.number in
      let b = passed_seq (refuse 4 at: pos when: not (fits t.wire row)) _ tt a.2 in
      let c = passed_seq (refuse 5 at: pos when: taken (slot_of t.number row) slots) _ tt b.1 in
      let d = passed_bind (value model t end) _ tt c.1 in
      let f = d.0 in
      let g = passed_bind (contents model (λ k d e p. walk model n k d [] e p) depth (kind_of row) f) _ tt d.2 in
      let at' = passed_tells (λ t. (t.place ≡ pos) × (pos < t.next)) (AtTag pos) (tag model end pos) t (tag_tells model end pos) a.1 in
      let on = passed_tells (Follows t end) (AtTag t.place) (value model t end) f (value_tells model t end) d.1 in
      let wire = not_not (fits t.wire row) (passed_rule 4 pos (not (fits t.wire row)) b.0) in
      let opens : Opens kind depth f = (rw (on.5, on.1) wire, rw on.1 (contents_passed n depth (kind_of row) f (omega arith) g.1)) in
      (f, field_of end pos t f a.1 d.1, omega arith, opens, (take_up (slot_of t.number row) slots, g.2))
    where
      not_not : (b : Bool) → T (not (not b)) → T b
      not_not true h = tt
      not_not false h = absurd h

  walk_passed : (n : ℕ) (kind : Kind) (depth : ℕ) (slots : List ℕ) (end pos : ℕ)
      → end ≤ pos + n → walk model n kind depth slots end pos ≡ pass tt
      → All (Opens kind depth) (fields_from model n end pos)
  unfolding walk fields_from
  walk_passed zero kind depth slots end pos h e = tt
  walk_passed (suc n) kind depth slots end pos h e = go (leb end pos) e (λ more p l w. walk_passed n kind depth more end p l w)
    where
      go : (b : Bool)
          → elim b as (λ _. Rule) [
            | true ↦ pass tt
            | false ↦ turn model (λ k d e p. walk model n k d [] e p) (λ more p. walk model n kind depth more end p) kind depth
                slots end pos
          ] ≡ pass tt
          → ((more : List ℕ) (p : ℕ) → end ≤ p + n → walk model n kind depth more end p ≡ pass tt → All (Opens kind depth) (fields_from model n end p))
          → All (Opens kind depth) (elim b [ true ↦ [] | false ↦ elim (field model end pos) [ pass f ↦ f ∷ fields_from model n end f.next | fail r ↦ [] ] ])
      go true w ih = tt
      go false w ih = let p = turn_passed n kind depth slots end pos (omega arith) w in rw p.1 (p.3, ih p.4.0 p.0.next (omega arith) p.4.1)

  pub walked_opens : (kind : Kind) (depth : ℕ) (end pos : ℕ) → walked model kind depth [] end pos ≡ pass tt → All (Opens kind depth) (fields model end pos)
  unfolding walked fields
  walked_opens kind depth end pos e = walk_passed (end - pos) kind depth [] end pos (omega arith) e

  -- ---- no gap

  walk_gapless : (n : ℕ) (kind : Kind) (depth : ℕ) (slots : List ℕ) (end pos : ℕ) → end ≤ pos + n → pos ≤ end
      → walk model n kind depth slots end pos ≡ pass tt → Gapless pos end (fields_from model n end pos)
  unfolding walk fields_from
  walk_gapless zero kind depth slots end pos h l e = omega arith
  walk_gapless (suc n) kind depth slots end pos h l e = go (leb end pos) (leb-true end pos) e (λ more p i j w. walk_gapless n kind depth more end p i j w)
    where
      go : (b : Bool) → (b ≡ true → end ≤ pos)
          → elim b as (λ _. Rule) [
            | true ↦ pass tt
            | false ↦ turn model (λ k d e p. walk model n k d [] e p) (λ more p. walk model n kind depth more end p) kind depth
                slots end pos
          ] ≡ pass tt
          → ((more : List ℕ) (p : ℕ) → end ≤ p + n → p ≤ end → walk model n kind depth more end p ≡ pass tt → Gapless p end (fields_from model n end p))
          → Gapless pos end (elim b [ true ↦ [] | false ↦ elim (field model end pos) [ pass f ↦ f ∷ fields_from model n end f.next | fail r ↦ [] ] ])
      go true g w ih = let done = g refl in omega arith
      go false g w ih =
          let p = turn_passed n kind depth slots end pos (omega arith) w in
          let placed = passed_tells (λ (f : Field). f.place ≡ pos) (AtTag pos) (field model end pos) p.0 (field_placed model end pos) p.1 in
          let fits = passed_tells (Fits pos end) (AtTag pos) (field model end pos) p.0 (field_tells model end pos) p.1 in
          rw p.1 (placed, ih p.4.0 p.0.next (omega arith) fits.3 p.4.1)

  walked_gapless : (kind : Kind) (depth : ℕ) (end pos : ℕ) → pos ≤ end → walked model kind depth [] end pos ≡ pass tt → Gapless pos end (fields model end pos)
  unfolding walked fields
  walked_gapless kind depth end pos l e = walk_gapless (end - pos) kind depth [] end pos (omega arith) l e

  -- a field of a message lies in it
  field_fits : (f : Field) {g : Field} → Memᴰ g (fields model f.next f.start) → Fits f.start f.next g
  field_fits f m =
      all_member (Fits f.start f.next) (fields model f.next f.start)
      (ordered_all f.start f.next (fields model f.next f.start) (fields_ordered model f.next f.start)) m

  pub opened_gapless : (kind : Kind) (depth : ℕ) (f : Field) → f.start ≤ f.next → walked model kind depth [] f.next f.start ≡ pass tt
      → (path : List Field) → Opened model kind f path
      → Gapless (innermost f path).start (innermost f path).next (message model (innermost f path)).fields
  unfolding innermost message
  opened_gapless kind depth f l w [] o = walked_gapless kind depth f.next f.start l w
  opened_gapless kind depth f l w (g ∷ inner) (m, (k, e, o)) =
      let inside = field_fits f m in
      let sound : If (Sound depth g) (some k) = rw e at (all_member (Opens kind depth) (fields model f.next f.start) (walked_opens kind depth f.next f.start w) m).1 in
      opened_gapless k (deeper k depth) g inside.2 sound.1 inner o

  -- an opened message lies inside the one around it
  pub opened_within : (kind : Kind) (f : Field) (size : ℕ) → f.start ≤ f.next → f.next ≤ size
      → (path : List Field) → Opened model kind f path
      → ((innermost f path).start ≤ (innermost f path).next) × ((innermost f path).next ≤ size)
  unfolding innermost message
  opened_within kind f size l h [] o = (l, h)
  opened_within kind f size l h (g ∷ inner) (m, (k, e, o)) = let fits = field_fits f m in let stop = fits.3 in opened_within k g size fits.2 (omega arith) inner o

-- ---- the fields of one number of a message that was walked

module _ {model : Bytes} {kind : Kind} {m : Field} (w : Walked model kind m) (n : ℕ) {g : Field} (here : Memᴰ g (all_of n (message model m))) where
  found : Memᴰ g (fields model m.next m.start) × T (eqb n g.number)
  unfolding all_of message
  found = (keep_exactly (λ f. eqb n f.number) g (fields model m.next m.start)).0 here

  pub walked_number : g.number ≡ n
  walked_number = sym (eqb→eq n g.number found.1)

  opens : Opens model kind w.passed.0 g
  opens = all_member (Opens model kind w.passed.0) (fields model m.next m.start) (walked_opens model kind w.passed.0 m.next m.start w.passed.1) found.0

  -- it has the wire type of its row
  pub walked_fits : T (fits g.wire (row_of kind n))
  walked_fits = rw walked_number at opens.0

  -- and holds a message that was walked, where its row opens it
  pub walked_inner : {k : Kind} → kind_of (row_of kind n) ≡ some k → Walked model k g
  walked_inner {k} e =
      let sound : If (Sound model w.passed.0 g) (kind_of (row_of kind n)) = rw walked_number at opens.1 in
      let inner : If (Sound model w.passed.0 g) (some k) = rw e at sound in
      let last = (field_fits model m found.0).3 in
      let size = w.inside in
      record { inside = omega arith; passed = (_, inner.1) }

-- the model itself
pub walked_whole : (model : Bytes) → first_walk model ≡ pass tt → Walked model Model (whole model)
unfolding first_walk whole
walked_whole model e = record { inside = omega arith; passed = (0, e) }

-- ---- rows that open the messages of a graph or a function

pub model_graph : kind_of (row_of Model Model-graph) ≡ some Graph
unfolding kind_of Rows-computes
model_graph = refl

pub model_functions : kind_of (row_of Model Model-functions) ≡ some Function
unfolding kind_of Rows-computes
model_functions = refl

pub function_node : kind_of (row_of Function Function-node) ≡ some Node
unfolding kind_of Rows-computes
function_node = refl

pub graph_input : kind_of (row_of Graph Graph-input) ≡ some ValueInfo
unfolding kind_of Rows-computes
graph_input = refl

pub graph_initializer : kind_of (row_of Graph Graph-initializer) ≡ some Tensor
unfolding kind_of Rows-computes
graph_initializer = refl

pub graph_node : kind_of (row_of Graph Graph-node) ≡ some Node
unfolding kind_of Rows-computes
graph_node = refl

pub node_attribute : kind_of (row_of Node Node-attribute) ≡ some Attribute
unfolding kind_of Rows-computes
node_attribute = refl

pub attribute_body : (n : ℕ) → T (eqb Attribute-g n || eqb Attribute-graphs n) → kind_of (row_of Attribute n) ≡ some Graph
unfolding kind_of Rows-computes
attribute_body n t = go (or_cases (eqb Attribute-g n) (eqb Attribute-graphs n) t)
  where
    go : T (eqb Attribute-g n) ⊎ T (eqb Attribute-graphs n) → kind_of (row_of Attribute n) ≡ some Graph
    go (inl h) = rw (← (eqb→eq Attribute-g n h)) refl
    go (inr h) = rw (← (eqb→eq Attribute-graphs n h)) refl
