-- The first walk refuses with 1 to 6 and 9, inside the message that it walks.
use Prim.Native.Nat.{ℕ, zero, suc, ◌≤◌, ◌<◌}
use native.Mathlib.Omega.{arith}
use mathlib.Core.Path.{◌≡◌, refl}
use mathlib.Core.List.{List, [], ◌∷◌}
use mathlib.Core.Option.{Option, none, some}
use lib.ListN.{length}
use lib.Dec.{leb, nleb→lt}
use Rattle.varint.specs.Outcome.{Rule}
use Rattle.varint.specs.declared.Refusal.{Refusal}
use Rattle.varint.specs.Lists.{contains}
use Rattle.varint.specs.Bytes.{Bytes}
use Rattle.wire.specs.Wire.{tag, value}
use Rattle.wire.specs.declared.Field.{Field}
use Rattle.varint.proofs.Lists.{subset, contains_subset}
use Rattle.varint.proofs.Tells.{Tells, Any, Among, tells_bind, tells_weaken, tells_rule, tells_if}
use Rattle.wire.proofs.Reading.{Wire-refusals, AtTag, Follows, tag_tells, value_tells}
use Rattle.schema.specs.declared.Kind.{Kind}
use Rattle.schema.specs.Rows.{row_of}
use Rattle.schema.specs.FirstWalk.{kind_of, deeper, contents, turn, walk, walked, first_walk}

abbrev pub FirstWalk-refusals : List ℕ
FirstWalk-refusals = 1 ∷ 2 ∷ 9 ∷ 3 ∷ 4 ∷ 5 ∷ 6 ∷ []

abbrev pub Before : ℕ → Refusal → Type 0
Before end = Among FirstWalk-refusals (λ p. p < end)

of_reader : (place end : ℕ) → place < end → (r : Refusal) → AtTag place r → Before end r
unfolding subset contains
of_reader place end h r a = let e = a.1 in (contains_subset Wire-refusals FirstWalk-refusals r.number tt a.0, omega arith, a.2)

module _ (model : Bytes) where
  contents_tells : (inner : Kind → (depth end pos : ℕ) → Rule) → ((k : Kind) (d e p : ℕ) → Tells Any (Before e) (inner k d e p))
      → (end depth : ℕ) (o : Option Kind) (f : Field) → f.place < end → f.next ≤ end
      → Tells Any (Before end) (contents model inner depth o f)
  unfolding contents contains
  contents_tells inner h end depth none f l k = tt
  contents_tells inner h end depth (some kind) f l k =
      tells_rule Any (Before end) 6 _ _ _ (λ b. (tt, l, refl))
      (λ b. tells_weaken Any Any (Before f.next) (Before end) (inner kind (deeper kind depth) f.next f.start) (λ u x. tt)
      (λ r x. let y = x.1 in (x.0, omega arith, x.2)) (h kind (deeper kind depth) f.next f.start))

  walk_tells : (n : ℕ) (kind : Kind) (depth : ℕ) (slots : List ℕ) (end pos : ℕ) → Tells Any (Before end) (walk model n kind depth slots end pos)
  unfolding walk turn contains
  walk_tells zero kind depth slots end pos = tt
  walk_tells (suc n) kind depth slots end pos = tells_if Any (Before end) (leb end pos) _ _ (λ b. tt) (λ b. let l = nleb→lt end pos b in
      tells_bind (λ t. (t.place ≡ pos) × (pos < t.next)) Any (Before end) _ _
      (tells_weaken _ _ (AtTag pos) (Before end) (tag model end pos) (λ t x. x) (of_reader pos end l) (tag_tells model end pos)) (λ t q.
      tells_rule Any (Before end) 4 _ _ _ (λ b. (tt, l, refl)) (λ b. tells_rule Any (Before end) 5 _ _ _ (λ b. (tt, l, refl)) (λ b.
      tells_bind (Follows t end) Any (Before end) _ _
      (tells_weaken _ _ (AtTag t.place) (Before end) (value model t end) (λ f x. x) (of_reader t.place end (omega arith))
      (value_tells model t end)) (λ f on.
      tells_bind Any Any (Before end) _ _ (contents_tells _ (λ k d e p. walk_tells n k d [] e p) end depth (kind_of (row_of kind t.number)) f (omega arith) (omega arith)) (λ u x.
      walk_tells n kind depth _ end f.next))))))

  pub first_walk_tells : Tells Any (Before (length model)) (first_walk model)
  unfolding first_walk walked
  first_walk_tells = walk_tells _ _ _ _ _ _
