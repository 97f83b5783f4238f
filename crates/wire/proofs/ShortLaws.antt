-- A short field is the field that is read.
use Rattle.std.specs.Prelude.{Ok}
use Rattle.varint.specs.Answers.{outcome_of}
use Prim.Native.Nat.{ℕ, ◌+◌, ◌/◌, ◌%◌, ◌^◌, ◌≤◌, ◌<◌}
use native.Mathlib.Omega.{arith}
use mathlib.Core.Path.{◌≡◌, refl, sym, ap, ◌∙◌}
use mathlib.Core.Bool.{true, false}
use mathlib.Core.List.{[], ◌∷◌}
use lib.Dec.{eqb}
use lib.ListN.{length}
use borrow.Author.Tests.{le-ltb, ne_eqb, lt-leb}
use Rattle.varint.specs.Outcome.{pass, ◌>>=◌, ◌>>◌, Judged, refuse◌at:◌when:◌}
use Rattle.varint.specs.Lists.{contains}
use Rattle.varint.specs.Bytes.{Bytes, byte}
use Rattle.varint.specs.Varint.{shortest_varint}
use Rattle.wire.specs.Wire.{bad_tag, tag, sized, value, field}
use Rattle.wire.specs.Answers.{with_cursor, after}
use Rattle.wire.specs.Short.{Short, short_field}
use Rattle.wire.specs.declared.Tag.{Tag}
use Rattle.wire.specs.declared.Field.{Field}
use Rattle.varint.proofs.ShortestLaws.{shortest_byte}

pub good_tag : (t w : ℕ) → 8 ≤ t → t < 2 ^ 32 → t % 8 ≡ w → contains w (0 ∷ 1 ∷ 2 ∷ 5 ∷ []) ≡ true → bad_tag t ≡ false
unfolding bad_tag
good_tag t w low small e k =
    let some_number : t / 8 ≡ 0 → ⊥ = λ z. omega arith in
    rw (lt-leb _ _ small, ne_eqb _ _ some_number, e, k, bad_tag) refl

pub sized_made : (t : Tag) (end v start size : ℕ) → start + size ≤ end
    → sized t end v start size ≡ pass (record { place = t.place; number = t.number; wire = t.wire; value = v; start = start; next = start + size })
unfolding sized ◌>>◌ refuse◌at:◌when:◌
sized_made t end v start size h = simp (le-ltb _ _ h)

-- the value of a short field: the byte after its tag, where that says a number
pub value_number : (wire n : ℕ) → wire ≡ 0 → ◌≡◌ {A = ℕ} n (elim (eqb wire 0) [ true ↦ n | false ↦ 0 ])
value_number wire n e = rw e refl

pub value_other : (wire n : ℕ) → (wire ≡ 0 → ⊥) → ◌≡◌ {A = ℕ} 0 (elim (eqb wire 0) [ true ↦ n | false ↦ 0 ])
value_other wire n e = rw (ne_eqb wire 0 e) refl

module _ (s : Bytes) (end pos : ℕ) where
  made : (v start next : ℕ) → Field
  made v start next = record { place = pos; number = byte s pos / 8; wire = byte s pos % 8; value = v; start = start; next = next }

  made_same : {v v' start start' next next' : ℕ} → v ≡ v' → start ≡ start' → next ≡ next' → ◌≡◌ {A = Judged Field} (pass (made v start next)) (pass (made v' start' next'))
  made_same a b c = cc

  first : Tag
  first = record { place = pos; number = byte s pos / 8; wire = byte s pos % 8; next = pos + 1 }

  module _ (room : pos + 2 ≤ end) (low : 8 ≤ byte s pos) (high : byte s pos < 128) (near : byte s (pos + 1) < 128) where
    tag_short : (w : ℕ) → byte s pos % 8 ≡ w → contains w (0 ∷ 1 ∷ 2 ∷ 5 ∷ []) ≡ true → pass first ≡ tag s end pos
    unfolding tag first ◌>>=◌ ◌>>◌ refuse◌at:◌when:◌
    tag_short w e k = rw (← shortest_byte s pos end pos (byte s pos) (omega arith) refl high, good_tag (byte s pos) w low (omega arith) e k)

    after_short : pass (record { value = byte s (pos + 1); next = pos + 1 + 1; shortest = true }) ≡ shortest_varint s pos end (pos + 1)
    after_short = shortest_byte s pos end (pos + 1) (byte s (pos + 1)) (omega arith) refl near

    number_short : byte s pos % 8 ≡ 0 → pass (made (byte s (pos + 1)) (pos + 1 + 1) (pos + 1 + 1 + 0)) ≡ field s end pos
    unfolding field value first made contains ◌>>=◌
    number_short e = rw (← tag_short 0 e refl) (rw (e, ← after_short) (sym (sized_made _ end _ _ 0 (omega arith))))

    length_short : byte s pos % 8 ≡ 2 → pos + 2 + byte s (pos + 1) ≤ end → pass (made 0 (pos + 1 + 1) (pos + 1 + 1 + byte s (pos + 1))) ≡ field s end pos
    unfolding field value first made contains ◌>>=◌
    length_short e h = rw (← tag_short 2 e refl) (rw (e, ← after_short) (sym (sized_made _ end _ _ _ (omega arith))))

    pub short_number : {next : ℕ} → next ≡ pos + 2 → byte s pos % 8 ≡ 0 → next ≤ length s → Short s end pos next
    unfolding short_field made
    short_number {next} k e l = record {
      room = omega arith;
      inside = omega arith;
      there = l;
      read = sym (number_short e) ∙ made_same (value_number _ _ e) (omega arith) (omega arith);
    }

    pub short_length : {next : ℕ} → next ≡ pos + (byte s (pos + 1) + 2) → byte s pos % 8 ≡ 2 → next ≤ end → next ≤ length s → Short s end pos next
    unfolding short_field made
    short_length {next} k e h l = record {
      room = omega arith;
      inside = h;
      there = l;
      read = sym (length_short e (omega arith)) ∙ made_same (value_other (byte s pos % 8) _ (λ z. omega arith)) (omega arith) (omega arith);
    }

-- ---- as code makes and answers it

said : (pos next t n : ℕ) → Field
said pos next t n = record { place = pos; number = t / 8; wire = t % 8; value = elim (eqb (t % 8) 0) [ true ↦ n | false ↦ 0 ]; start = pos + 2; next = next }

pub field_said : (s : Bytes) (pos next t n v : ℕ) → t ≡ byte s pos → n ≡ byte s (pos + 1) → v ≡ elim (eqb (t % 8) 0) [ true ↦ n | false ↦ 0 ]
    → record { place = pos; number = t / 8; wire = t % 8; value = v; start = pos + 2; next = next } ≡ short_field s pos next
unfolding short_field said
field_said s pos next t n v a b e =
    ap (λ (x : ℕ). record { place = pos; number = t / 8; wire = t % 8; value = x; start = pos + 2; next = next }) e
    ∙ ap (λ (x : ℕ). said pos next x n) a
    ∙ ap (λ (y : ℕ). said pos next (byte s pos) y) b

pub short_answer : {s : Bytes} {end pos next : ℕ} → Short s end pos next → {f : Field} → f ≡ short_field s pos next
    → outcome_of (Ok (f, (record { at = next; end = end }))) ≡ with_cursor end (field s end pos)
unfolding outcome_of with_cursor after short_field ◌>>=◌
short_answer q e = rw q.read (rw e refl)
