-- Each case of a tag, a value and a field, with what a reader knows there.
use Rattle.std.specs.Prelude.{Err, Ok}
use Rattle.varint.specs.Answers.{Answer, outcome_of}
use Prim.Native.Nat.{ℕ, ◌+◌, ◌-◌, ◌/◌, ◌%◌, ◌<◌, ◌≤◌}
use native.Mathlib.Omega.{arith}
use mathlib.Core.Path.{◌≡◌, refl, sym, ap, ◌∙◌}
use mathlib.Core.Bool.{true, false}
use mathlib.Core.Option.{none, some}
use borrow.Author.Tests.{lt-ltb, le-ltb, eq-eqb, ne_eqb}
use Rattle.varint.specs.Outcome.{pass, fail, ◌>>=◌, ◌>>◌, Judged, refused, refuse◌at:◌when:◌}
use Rattle.varint.specs.Lists.{first, keep}
use Rattle.varint.specs.Bytes.{Bytes}
use Rattle.varint.specs.Varint.{shortest_varint}
use Rattle.wire.specs.Wire.{bad_tag, tag, sized, value, field}
use Rattle.wire.specs.Answers.{after, with_cursor, found_in, sought_in}
use Rattle.varint.specs.declared.Refusal.{Refusal}
use Rattle.varint.specs.declared.Varint.{Varint}
use Rattle.wire.specs.declared.Tag.{Tag}
use Rattle.wire.specs.declared.Field.{Field}
use Rattle.wire.specs.declared.Cursor.{Cursor}
use Rattle.varint.proofs.Answers.{says}
use Rattle.varint.proofs.Passing.{fail_no_pass, pass_same}
use Rattle.wire.proofs.Reading.{Fits, field_tells}
use Rattle.wire.proofs.Fields.{fields_done, fields_step, fields_stop}

-- ---- a tag

module _ (s : Bytes) (end pos : ℕ) {r : Answer Varint} (read : outcome_of r ≡ shortest_varint s pos end pos) where
  pub tag_refused : {q : Refusal} → r ≡ Err q → fail q ≡ tag s end pos
  unfolding tag outcome_of ◌>>=◌
  tag_refused e = rw (← says outcome_of read e)

  pub tag_bad : {v : Varint} → r ≡ Ok v → bad_tag v.value ≡ true → refused 3 pos ≡ tag s end pos
  unfolding tag outcome_of ◌>>=◌ ◌>>◌ refuse◌at:◌when:◌
  tag_bad e b = rw (← says outcome_of read e, b)

  pub tag_read : {v : Varint} → r ≡ Ok v → bad_tag v.value ≡ false
      → pass (record { place = pos; number = v.value / 8; wire = v.value % 8; next = v.next }) ≡ tag s end pos
  unfolding tag outcome_of ◌>>=◌ ◌>>◌ refuse◌at:◌when:◌
  tag_read e b = rw (← says outcome_of read e, b)

-- ---- a value or a length

module _ (t : Tag) (end v start size : ℕ) where
  pub sized_past : end < start + size → refused 1 t.place ≡ with_cursor end (sized t end v start size)
  unfolding with_cursor sized ◌>>=◌ ◌>>◌ refuse◌at:◌when:◌
  sized_past h = simp (lt-ltb _ _ h)

  pub sized_in : start + size ≤ end
      → pass (after end (record { place = t.place; number = t.number; wire = t.wire; value = v; start = start; next = start + size }))
      ≡ with_cursor end (sized t end v start size)
  unfolding with_cursor sized ◌>>=◌ ◌>>◌ refuse◌at:◌when:◌
  sized_in h = simp (le-ltb _ _ h)

module _ (s : Bytes) (t : Tag) (end : ℕ) where
  module _ {r : Answer Varint} (read : outcome_of r ≡ shortest_varint s t.place end t.next) where
    pub number_refused : {q : Refusal} → t.wire ≡ 0 → r ≡ Err q → fail q ≡ with_cursor end (value s t end)
    unfolding value with_cursor outcome_of ◌>>=◌
    number_refused w e = rw w (rw (← says outcome_of read e))

    pub number_read : {v : Varint} → t.wire ≡ 0 → r ≡ Ok v → with_cursor end (sized t end v.value v.next 0) ≡ with_cursor end (value s t end)
    unfolding value outcome_of ◌>>=◌
    number_read w e = rw w (rw (← says outcome_of read e))

    pub length_refused : {q : Refusal} → t.wire ≡ 2 → r ≡ Err q → fail q ≡ with_cursor end (value s t end)
    unfolding value with_cursor outcome_of ◌>>=◌
    length_refused w e = rw w (rw (← says outcome_of read e))

    pub length_read : {v : Varint} → t.wire ≡ 2 → r ≡ Ok v → with_cursor end (sized t end 0 v.next v.value) ≡ with_cursor end (value s t end)
    unfolding value outcome_of ◌>>=◌
    length_read w e = rw w (rw (← says outcome_of read e))

  pub eight_read : t.wire ≡ 1 → with_cursor end (sized t end 0 t.next 8) ≡ with_cursor end (value s t end)
  unfolding value
  eight_read w = rw w

  pub four_read : (t.wire ≡ 0 → ⊥) → (t.wire ≡ 2 → ⊥) → (t.wire ≡ 1 → ⊥) → with_cursor end (sized t end 0 t.next 4) ≡ with_cursor end (value s t end)
  unfolding value
  four_read a b c = rw (ne_eqb t.wire 0 a, ne_eqb t.wire 2 b, ne_eqb t.wire 1 c, value) refl

-- ---- a field

module _ (s : Bytes) (end pos : ℕ) {r : Answer Tag} (read : outcome_of r ≡ tag s end pos) where
  pub field_refused : {q : Refusal} → r ≡ Err q → fail q ≡ with_cursor end (field s end pos)
  unfolding field with_cursor outcome_of ◌>>=◌
  field_refused e = rw (← says outcome_of read e)

  pub field_read : {t : Tag} → r ≡ Ok t → with_cursor end (value s t end) ≡ with_cursor end (field s end pos)
  unfolding field outcome_of ◌>>=◌
  field_read e = rw (← says outcome_of read e)

-- what an answer says of the field itself
pub with_cursor_read : (end : ℕ) {f : Field} {next : Cursor} (o : Judged Field) → pass (f, next) ≡ with_cursor end o → (o ≡ pass f) × (next ≡ record { at = f.next; end = end })
unfolding with_cursor after ◌>>=◌
with_cursor_read end {f} {next} (pass g) e =
    let q : ◌≡◌ {A = Field × Cursor} (f, next) (after end g) = pass_same (f, next) (after end g) e in
    let k : f ≡ g = ap (λ (p : Field × Cursor). p.0) q in
    (ap pass (sym k), ap (λ (p : Field × Cursor). p.1) q ∙ ap (λ (x : Field). record { at = x.next; end = end }) (sym k))
with_cursor_read end {f} {next} (fail r) e = absurd (fail_no_pass r (f, next) (sym e))

pub with_cursor_refused : (end : ℕ) {r : Refusal} (o : Judged Field) → fail r ≡ with_cursor end o → o ≡ fail r
unfolding with_cursor ◌>>=◌
with_cursor_refused end {r} (pass g) e = absurd (fail_no_pass r (after end g) e)
with_cursor_refused end {r} (fail q) e = let k : r ≡ q = cc in ap fail (sym k)

-- an answer that was read at a cursor, as a field and its cursor or as a refusal
module _ (s : Bytes) (c : Cursor) {r : Answer (Field × Cursor)} (read : outcome_of r ≡ with_cursor c.end (field s c.end c.at)) where
  pub answer_read : {f : Field} {next : Cursor} → r ≡ Ok (f, next) → (field s c.end c.at ≡ pass f) × (next ≡ record { at = f.next; end = c.end })
  unfolding outcome_of
  answer_read e = with_cursor_read c.end (field s c.end c.at) (says outcome_of read e)

  pub answer_refused : {q : Refusal} → r ≡ Err q → field s c.end c.at ≡ fail q
  unfolding outcome_of
  answer_refused e = with_cursor_refused c.end (field s c.end c.at) (says outcome_of read e)

-- ---- looking for a field

module _ (s : Bytes) (number end pos : ℕ) where
  sought_done : end ≤ pos → sought_in s number end pos ≡ none
  unfolding sought_in found_in keep first
  sought_done h = rw (fields_done s end pos h, sought_in) refl

  module _ (h : pos < end) where
    sought_stop : (r : Refusal) → field s end pos ≡ fail r → sought_in s number end pos ≡ none
    unfolding sought_in found_in keep first
    sought_stop r e = rw (fields_stop s end pos r h e, sought_in) refl

    module _ (f : Field) (e : field s end pos ≡ pass f) where
      sought_here : number ≡ f.number → sought_in s number end pos ≡ some (after end f)
      unfolding sought_in found_in keep first
      sought_here k = rw (fields_step s end pos f h e, sought_in) (rw (eq-eqb number f.number k, keep) refl)

      sought_on : (number ≡ f.number → ⊥) → sought_in s number end pos ≡ sought_in s number end f.next
      unfolding sought_in found_in keep first
      sought_on k = rw (fields_step s end pos f h e, sought_in) (rw (ne_eqb number f.number k, keep) refl)

-- what is sought from `from` on is sought from the cursor on
pub record Seeking (s : Bytes) (number end from : ℕ) (c : Cursor) : Type 0 where
  pub ends : c.end ≡ end
  pub rest : sought_in s number end c.at ≡ sought_in s number end from

pub seek_start : (s : Bytes) (number : ℕ) (c : Cursor) → Seeking s number c.end c.at c
seek_start s number c = record { ends = refl; rest = refl }

module _ {s : Bytes} {number end from : ℕ} {c : Cursor} (q : Seeking s number end from c) where
  -- at a place, where the end is known
  pub seek_on : Seeking s number end from (record { at = c.at; end = end })
  seek_on = record { ends = refl; rest = q.rest }

  pub seek_done : end ≤ c.at → none ≡ sought_in s number end from
  seek_done h = sym (sought_done s number end c.at h) ∙ q.rest

  module _ (h : c.at < end) {r : Answer (Field × Cursor)} (read : outcome_of r ≡ with_cursor c.end (field s c.end c.at)) where
    pub seek_stop : {x : Refusal} → r ≡ Err x → none ≡ sought_in s number end from
    unfolding outcome_of
    seek_stop {x} e = sym (sought_stop s number end c.at h x (with_cursor_refused end (field s end c.at) (says outcome_of (rw q.ends at read) e))) ∙ q.rest

    module _ {f : Field} {next : Cursor} (e : r ≡ Ok (f, next)) where
      went : (field s end c.at ≡ pass f) × (next ≡ record { at = f.next; end = end })
      unfolding outcome_of
      went = with_cursor_read end (field s end c.at) (says outcome_of (rw q.ends at read) e)

      pub seek_found : number ≡ f.number → some (f, next) ≡ sought_in s number end from
      unfolding after
      seek_found k = ap (λ (x : Cursor). some (f, x)) went.1 ∙ sym (sought_here s number end c.at h f went.0 k) ∙ q.rest

      pub seek_next : (number ≡ f.number → ⊥) → Seeking s number end from next
      seek_next k = record {
        ends = ap (λ (x : Cursor). x.end) went.1;
        rest = ap (λ (x : Cursor). sought_in s number end x.at) went.1 ∙ sym (sought_on s number end c.at h f went.0 k) ∙ q.rest;
      }

      -- the cursor moves on
      pub seek_falls : end - next.at < end - c.at
      seek_falls =
          let g : Fits c.at end f = rw went.0 at (field_tells s end c.at) in
          let n : next.at ≡ f.next = ap (λ (x : Cursor). x.at) went.1 in
          omega arith
