-- One reading of a message: where the fields of a number begin, as far as it has come.
use Rattle.std.specs.Prelude.{Err, Ok}
use Rattle.varint.specs.Answers.{Answer, outcome_of}
use Prim.Native.Nat.{ℕ, ◌-◌, ◌≤◌, ◌<◌}
use native.Mathlib.Omega.{arith}
use mathlib.Core.Path.{◌≡◌, refl, sym, ap, ◌∙◌}
use mathlib.Core.Bool.{Bool, true, false}
use mathlib.Core.List.{List, [], ◌∷◌}
use mathlib.Core.Option.{none, some}
use lib.Dec.{eqb, ltb}
use borrow.Author.Tests.{ltb-true, ltb-false, lt-ltb, le-ltb, eq-eqb, ne_eqb}
use Rattle.varint.specs.Outcome.{pass}
use Rattle.varint.specs.Lists.{first, keep}
use Rattle.varint.specs.Bytes.{Bytes}
use Rattle.wire.specs.Wire.{field, fields}
use Rattle.wire.specs.Message.{all_of, first_of, message}
use Rattle.wire.specs.Answers.{sought_says, contents_of, with_cursor, found_in, sought_in, Sought}
use Rattle.wire.specs.Outline.{start_of, Starts, Outlines, marked}
use Rattle.varint.specs.declared.Refusal.{Refusal}
use Rattle.wire.specs.declared.Field.{Field}
use Rattle.wire.specs.declared.Cursor.{Cursor}
use Rattle.wire.specs.declared.outlines.Outline.{Outline}
use Rattle.wire.proofs.Fields.{fields_done, fields_step, fields_stop}
use Rattle.wire.proofs.Reading.{Fits, AtTag, field_tells, field_placed}
use Rattle.varint.proofs.Passing.{passed_tells}
use Rattle.wire.proofs.CursorLaws.{answer_read, answer_refused}

-- the fields of a number from a place on
abbrev From : (s : Bytes) (end number pos : ℕ) → List Field
From s end number pos = keep (λ f. eqb number f.number) (fields s end pos)

-- where the first of some fields stands, or the end
abbrev Front : (end : ℕ) → List Field → ℕ
Front end l = elim (first l) [ none ↦ end | some f ↦ f.place ]

-- ---- one number: `met` is where its first field was met, or the end

pub record Marking (s : Bytes) (end start number pos met : ℕ) : Type 0 where
  pub inside : met ≤ end
  pub found : met < end → From s end number met ≡ From s end number start
  pub front : met < end → met ≡ Front end (From s end number start)
  pub ahead : end ≤ met → From s end number pos ≡ From s end number start

module _ (s : Bytes) (end start number : ℕ) where
  pub marking_start : Marking s end start number start end
  marking_start = record { inside = omega arith; found = λ h. absurd (omega arith); front = λ h. absurd (omega arith); ahead = λ h. refl }

  none_from : From s end number end ≡ []
  unfolding keep
  none_from = ap (keep (λ f. eqb number f.number)) (fields_done s end end (omega arith))

  -- nothing is left at `pos`
  pub marking_done : {pos met : ℕ} → fields s end pos ≡ [] → Marking s end start number pos met
      → (met ≡ Front end (From s end number start)) × (From s end number met ≡ From s end number start)
  unfolding keep first
  marking_done {pos} {met} e k = go (ltb met end) (ltb-true met end) (ltb-false met end)
    where
      go : (b : Bool) → (b ≡ true → met < end) → (b ≡ false → end ≤ met) → (met ≡ Front end (From s end number start)) × (From s end number met ≡ From s end number start)
      go true h l = (k.front (h refl), k.found (h refl))
      go false h l =
          let far = l refl in
          let near = k.inside in
          let at-end : met ≡ end = omega arith in
          let no_more : From s end number start ≡ [] = sym (k.ahead far) ∙ ap (keep (λ f. eqb number f.number)) e in
          (at-end ∙ ap (Front end) (sym no_more), ap (From s end number) at-end ∙ none_from ∙ sym no_more)

  pub marking_next : {pos met : ℕ} → Marking s end start number pos met → pos < end → {f : Field} → field s end pos ≡ pass f → {n : ℕ}
      → n ≡ marked met end pos f.number number
      → Marking s end start number f.next n
  unfolding marked keep first
  marking_next {pos} {met} k h {f} e {n} en = rw en (go (ltb met end) (ltb-true met end) (ltb-false met end) (eqb number f.number) refl)
    where
      step : From s end number pos ≡ elim (eqb number f.number) [ true ↦ f ∷ From s end number f.next | false ↦ From s end number f.next ]
      step = ap (keep (λ g. eqb number g.number)) (fields_step s end pos f h e)

      stepped : {t : Bool} → eqb number f.number ≡ t → From s end number pos ≡ elim t [ true ↦ f ∷ From s end number f.next | false ↦ From s end number f.next ]
      stepped et = step ∙ ap (λ (b : Bool). elim b [ true ↦ f ∷ From s end number f.next | false ↦ From s end number f.next ]) et

      placed : f.place ≡ pos
      placed = passed_tells (λ (g : Field). g.place ≡ pos) (AtTag pos) (field s end pos) f (field_placed s end pos) e

      go : (b : Bool) → (b ≡ true → met < end) → (b ≡ false → end ≤ met) → (t : Bool) → eqb number f.number ≡ t
          → Marking s end start number f.next (elim b [ true ↦ met | false ↦ elim t [ true ↦ pos | false ↦ met ] ])
      go true i l t et = let low = i refl in record { inside = k.inside; found = k.found; front = k.front; ahead = λ far. absurd (omega arith) }
      go false i l true et = record {
        inside = omega arith;
        found = λ low. k.ahead (l refl);
        front = λ low. sym placed ∙ ap (Front end) (sym (stepped et) ∙ k.ahead (l refl));
        ahead = λ far. absurd (omega arith);
      }
      go false i l false et = record {
        inside = k.inside;
        found = λ low. absurd (let far = l refl in omega arith);
        front = λ low. absurd (let far = l refl in omega arith);
        ahead = λ far. sym (stepped et) ∙ k.ahead far;
      }

pub marked_set : (met end pos number wanted : ℕ) → met < end → met ≡ marked met end pos number wanted
unfolding marked
marked_set met end pos number wanted h = ap (λ (b : Bool). elim b [ true ↦ met | false ↦ elim (eqb wanted number) [ true ↦ pos | false ↦ met ] ]) (sym (lt-ltb met end h))

module _ (met end pos number wanted : ℕ) (h : end ≤ met) where
  unmet : {b : Bool} → eqb wanted number ≡ b → elim b [ true ↦ pos | false ↦ met ] ≡ marked met end pos number wanted
  unfolding marked
  unmet e =
      ap (λ (b : Bool). elim b [ true ↦ pos | false ↦ met ]) (sym e)
      ∙ ap (λ (b : Bool). elim b [ true ↦ met | false ↦ elim (eqb wanted number) [ true ↦ pos | false ↦ met ] ]) (sym (le-ltb met end h))

  pub marked_here : wanted ≡ number → pos ≡ marked met end pos number wanted
  marked_here e = unmet (eq-eqb wanted number e)

  pub marked_not : (wanted ≡ number → ⊥) → met ≡ marked met end pos number wanted
  marked_not e = unmet (ne_eqb wanted number e)

-- ---- six numbers, from the cursor `here` on, in the message from `begin` on

pub record Marks (s : Bytes) (a b c d e f end : ℕ) (begin : Cursor) (here : Cursor) (o : Outline) : Type 0 where
  pub ends : here.end ≡ end
  pub first : Marking s end begin.at a here.at o.first
  pub second : Marking s end begin.at b here.at o.second
  pub third : Marking s end begin.at c here.at o.third
  pub fourth : Marking s end begin.at d here.at o.fourth
  pub fifth : Marking s end begin.at e here.at o.fifth
  pub sixth : Marking s end begin.at f here.at o.sixth

pub marks_start : (s : Bytes) (a b c d e f : ℕ) {end : ℕ} (begin : Cursor)
    → begin.end ≡ end
    → Marks s a b c d e f end begin begin (record { first = end; second = end; third = end; fourth = end; fifth = end; sixth = end })
marks_start s a b c d e f {end} begin h = record {
  ends = h;
  first = marking_start s end begin.at a;
  second = marking_start s end begin.at b;
  third = marking_start s end begin.at c;
  fourth = marking_start s end begin.at d;
  fifth = marking_start s end begin.at e;
  sixth = marking_start s end begin.at f;
}

begins : {s : Bytes} (m : Field) {begin : Cursor} → begin ≡ contents_of m → {number met : ℕ}
    → (met ≡ Front m.next (From s m.next number begin.at)) × (From s m.next number met ≡ From s m.next number begin.at) → Starts s m number met
unfolding start_of first_of all_of message contents_of
begins {s} m e {number} {met} k = record {
  place = k.0 ∙ ap (λ (c : Cursor). Front m.next (From s m.next number c.at)) e;
  same = k.1 ∙ ap (λ (c : Cursor). From s m.next number c.at) e;
}

-- what the whole says when nothing is left
module _ {s : Bytes} {a b c d e f : ℕ} (m : Field) {begin here : Cursor} {o : Outline} (q : Marks s a b c d e f m.next begin here o) (is : begin ≡ contents_of m) where
  done : fields s m.next here.at ≡ [] → Outlines s m a b c d e f o
  done h = (
    begins m is (marking_done s m.next begin.at a h q.first),
    begins m is (marking_done s m.next begin.at b h q.second),
    begins m is (marking_done s m.next begin.at c h q.third),
    begins m is (marking_done s m.next begin.at d h q.fourth),
    begins m is (marking_done s m.next begin.at e h q.fifth),
    begins m is (marking_done s m.next begin.at f h q.sixth),
  )

  pub marks_end : m.next ≤ here.at → Outlines s m a b c d e f o
  marks_end h = done (fields_done s m.next here.at h)

  pub marks_stop : here.at < m.next → {r : Answer (Field × Cursor)} → outcome_of r ≡ with_cursor here.end (field s here.end here.at) → {x : Refusal}
      → r ≡ Err x
      → Outlines s m a b c d e f o
  marks_stop h {r} read {x} k = done (fields_stop s m.next here.at x h (ap (λ (n : ℕ). field s n here.at) (sym q.ends) ∙ answer_refused s here read k))

-- a field more
module _ {s : Bytes} {a b c d e f end : ℕ} {begin here : Cursor} {o : Outline} (q : Marks s a b c d e f end begin here o) (h : here.at < end)
    {r : Answer (Field × Cursor)} (read : outcome_of r ≡ with_cursor here.end (field s here.end here.at)) {g : Field} {next : Cursor}
    (k : r ≡ Ok (g, next)) where
  got : (field s here.end here.at ≡ pass g) × (next ≡ record { at = g.next; end = here.end })
  got = answer_read s here read k

  got_here : field s end here.at ≡ pass g
  got_here = ap (λ (n : ℕ). field s n here.at) (sym q.ends) ∙ got.0

  next_at : next.at ≡ g.next
  next_at = ap (λ (c : Cursor). c.at) got.1

  pub marks_falls : end - next.at < end - here.at
  marks_falls =
      let fits = passed_tells (Fits here.at end) (AtTag here.at) (field s end here.at) g (field_tells s end here.at) got_here in
      let l = next_at in
      let x = fits.1 in let y = fits.2 in let z = fits.3 in let w = fits.0 in omega arith

  pub marks_next : {p u v w x y : ℕ} → p ≡ marked o.first end here.at g.number a → u ≡ marked o.second end here.at g.number b
      → v ≡ marked o.third end here.at g.number c → w ≡ marked o.fourth end here.at g.number d
      → x ≡ marked o.fifth end here.at g.number e → y ≡ marked o.sixth end here.at g.number f
      → Marks s a b c d e f end begin next (record { first = p; second = u; third = v; fourth = w; fifth = x; sixth = y })
  marks_next ep eu ev ew ex ey = record {
    ends = ap (λ (n : Cursor). n.end) got.1 ∙ q.ends;
    first = rw next_at (marking_next s end begin.at a q.first h got_here ep);
    second = rw next_at (marking_next s end begin.at b q.second h got_here eu);
    third = rw next_at (marking_next s end begin.at c q.third h got_here ev);
    fourth = rw next_at (marking_next s end begin.at d q.fourth h got_here ew);
    fifth = rw next_at (marking_next s end begin.at e q.fifth h got_here ex);
    sixth = rw next_at (marking_next s end begin.at f q.sixth h got_here ey);
  }

-- ---- from where they begin

pub started_first : (s : Bytes) (number : ℕ) (m : Field) {pos : ℕ} → Starts s m number pos → (r : Sought) → sought_says r ≡ sought_in s number m.next pos
    → sought_says r ≡ found_in m.next (first_of number (message s m))
unfolding sought_in first_of
started_first s number m k r e = e ∙ ap (λ (l : List Field). found_in m.next (first l)) k.same
