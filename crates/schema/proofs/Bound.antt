-- The first walk: a bound from the bytes left on changes nothing.
use Prim.Native.Nat.{ℕ, zero, suc, ◌+◌, ◌-◌, ◌≤◌, ◌<◌}
use native.Mathlib.Omega.{arith}
use mathlib.Core.Path.{◌≡◌, refl, sym, ap, ◌∙◌}
use mathlib.Core.Bool.{true, false, ◌&&◌}
use mathlib.Core.List.{List, []}
use mathlib.Core.Option.{Option, none, some}
use lib.Dec.{leb, le→leb, eqb}
use mir.Facts.{no_leb}
use Rattle.varint.specs.Outcome.{pass, fail, ◌>>=◌, ◌>>◌, Judged, Rule, refuse◌at:◌when:◌}
use Rattle.varint.specs.declared.Refusal.{Refusal}
use Rattle.varint.specs.Bytes.{Bytes}
use Rattle.wire.specs.Wire.{tag, value}
use Rattle.wire.specs.declared.Field.{Field}
use Rattle.varint.proofs.Lists.{T_true, T_false}
use Rattle.varint.proofs.Tells.{Tells}
use Rattle.wire.proofs.Reading.{AtTag, Follows, tag_tells, value_tells}
use Rattle.schema.specs.declared.Kind.{Kind}
use Rattle.schema.specs.Rows.{row_of, has_nodes}
use Rattle.schema.specs.FirstWalk.{slot_of, take_up, kind_of, deeper, contents, turn, walk, walked}

-- two continuations that agree on what a reading tells
module _ {A B : Type 0} (Q : A → Type 0) (P : Refusal → Type 0) where
  bind_agrees : (j : Judged A) (f g : A → Judged B) → Tells Q P j → ((a : A) → Q a → f a ≡ g a) → (j >>= f) ≡ (j >>= g)
  unfolding ◌>>=◌
  bind_agrees (pass a) f g t h = h a t
  bind_agrees (fail r) f g t h = refl

seq_agrees : {B : Type 0} (j : Rule) (k l : Judged B) → k ≡ l → (j >> k) ≡ (j >> l)
seq_agrees j k l e = ap (λ (x : Judged _). j >> x) e

-- two ways to walk what a turn opens and what follows it, which agree on what lies inside
module _ (model : Bytes) (inner inner' : Kind → (depth end pos : ℕ) → Rule) (rest rest' : List ℕ → ℕ → Rule) (end pos : ℕ)
    (within : (k : Kind) (d e p : ℕ) → e ≤ end → pos < p → inner k d e p ≡ inner' k d e p)
    (onward : (slots : List ℕ) (p : ℕ) → pos < p → rest slots p ≡ rest' slots p) where
  contents_agree : (depth : ℕ) (o : Option Kind) (f : Field) → pos < f.start → f.next ≤ end → contents model inner depth o f ≡ contents model inner' depth o f
  unfolding contents
  contents_agree depth none f h l = refl
  contents_agree depth (some k) f h l = seq_agrees (refuse 6 at: f.place when: (has_nodes k && eqb depth 8)) _ _ (within k (deeper k depth) f.next f.start l h)

  turn_agrees : (kind : Kind) (depth : ℕ) (slots : List ℕ) → turn model inner rest kind depth slots end pos ≡ turn model inner' rest' kind depth slots end pos
  unfolding turn
  turn_agrees kind depth slots =
      bind_agrees (λ t. (t.place ≡ pos) × (pos < t.next)) (AtTag pos) (tag model end pos) _ _ (tag_tells model end pos) (λ t at.
      seq_agrees (refuse 4 at: pos when: _) _ _ (seq_agrees (refuse 5 at: pos when: _) _ _
      (bind_agrees (Follows t end) (AtTag t.place) (value model t end) _ _ (value_tells model t end) (λ f on.
      ap (λ (o : Rule). o >>= λ (_ : Unit {0}). rest (take_up (slot_of t.number (row_of kind t.number)) slots) f.next)
      (contents_agree depth (kind_of (row_of kind t.number)) f (omega arith) (omega arith))
      ∙ ap (λ (r : Rule). contents model inner' depth (kind_of (row_of kind t.number)) f >>= λ (_ : Unit {0}). r)
      (onward (take_up (slot_of t.number (row_of kind t.number)) slots) f.next (omega arith))))))

module _ (model : Bytes) where
  walk_end : (n : ℕ) (kind : Kind) (depth : ℕ) (slots : List ℕ) (end pos : ℕ) → end ≤ pos → walk model n kind depth slots end pos ≡ pass tt
  unfolding walk
  walk_end zero kind depth slots end pos h = refl
  walk_end (suc n) kind depth slots end pos h = rw (T_true (leb end pos) (le→leb end pos h), walk) refl

  walk_agree : (n m : ℕ) (kind : Kind) (depth : ℕ) (slots : List ℕ) (end pos : ℕ)
      → end ≤ pos + n → end ≤ pos + m
      → walk model n kind depth slots end pos ≡ walk model m kind depth slots end pos
  unfolding walk
  walk_agree zero zero kind depth slots end pos h k = refl
  walk_agree zero (suc m) kind depth slots end pos h k = sym (walk_end (suc m) kind depth slots end pos (omega arith))
  walk_agree (suc n) zero kind depth slots end pos h k = walk_end (suc n) kind depth slots end pos (omega arith)
  walk_agree (suc n) (suc m) kind depth slots end pos h k =
      ap (λ (r : Rule). elim (leb end pos) [ true ↦ pass tt | false ↦ r ])
      (turn_agrees model _ _ _ _ end pos (λ o d e p a b. walk_agree n m o d [] e p (omega arith) (omega arith))
      (λ more p a. walk_agree n m kind depth more end p (omega arith) (omega arith)) kind depth slots)

  pub walk_bound : (bound : ℕ) (kind : Kind) (depth : ℕ) (slots : List ℕ) (end pos : ℕ)
      → end ≤ pos + bound
      → walk model bound kind depth slots end pos ≡ walked model kind depth slots end pos
  unfolding walked
  walk_bound bound kind depth slots end pos h = walk_agree bound (end - pos) kind depth slots end pos h (omega arith)

  -- ---- the walk of a message, turn by turn and with no bound in sight

  pub walked_done : (kind : Kind) (depth : ℕ) (slots : List ℕ) (end pos : ℕ) → end ≤ pos → walked model kind depth slots end pos ≡ pass tt
  unfolding walked
  walked_done kind depth slots end pos h = walk_end (end - pos) kind depth slots end pos h

  unfoldable pub step : Kind → (depth : ℕ) → (slots : List ℕ) → (end pos : ℕ) → Rule
  step kind depth slots end pos = turn model (λ k d e p. walked model k d [] e p) (λ more p. walked model kind depth more end p) kind depth slots end pos

  pub walked_step : (kind : Kind) (depth : ℕ) (slots : List ℕ) (end pos : ℕ) → pos < end → walked model kind depth slots end pos ≡ step kind depth slots end pos
  unfolding walk step
  walked_step kind depth slots end pos h =
      sym (walk_bound (suc (end - pos)) kind depth slots end pos (omega arith))
      ∙ rw (T_false (leb end pos) (no_leb h), walk)
      (turn_agrees model _ _ _ _ end pos (λ k d e p a b. walk_bound (end - pos) k d [] e p (omega arith))
      (λ more p a. walk_bound (end - pos) kind depth more end p (omega arith)) kind depth slots)
