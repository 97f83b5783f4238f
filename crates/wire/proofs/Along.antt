-- A loop over the fields with one number: what is left of `each` over them, from a cursor on.
use Rattle.std.specs.Prelude.{None, Some}
use Prim.Native.Nat.{ℕ, zero, suc, ◌+◌, ◌-◌, ◌≤◌, ◌<◌}
use native.Mathlib.Omega.{arith}
use mathlib.Core.Path.{◌≡◌, refl, sym, ap, ◌∙◌}
use mathlib.Core.Bool.{Bool, true, false}
use mathlib.Core.List.{List, [], ◌∷◌, Memᴰ}
use mathlib.Core.Option.{Option, none, some}
use lib.Dec.{leb, eqb}
use Rattle.varint.specs.Outcome.{pass, fail, ◌>>=◌, each, Judged}
use Rattle.varint.specs.Lists.{first, keep}
use Rattle.varint.specs.Bytes.{Bytes}
use Rattle.wire.specs.Wire.{field, fields_from, fields}
use Rattle.wire.specs.Message.{all_of, message}
use Rattle.wire.specs.Answers.{sought_says, contents_of, after, found_in, sought_in, Sought}
use Rattle.varint.specs.declared.Refusal.{Refusal}
use Rattle.wire.specs.declared.Field.{Field}
use Rattle.wire.specs.declared.Cursor.{Cursor}
use Rattle.varint.proofs.Tells.{Tells}
use Rattle.wire.proofs.Reading.{Fits, AtTag, field_tells, field_placed}
use Rattle.wire.proofs.Fields.{fields_bound}
use Rattle.varint.proofs.Answers.{says}

module _ (s : Bytes) (number end : ℕ) where
  -- the fields with this number from `pos` on
  unfoldable pub all_from : (pos : ℕ) → List Field
  all_from pos = keep (λ f. eqb number f.number) (fields s end pos)

  -- what stands after the first of them
  record After (pos : ℕ) (f : Field) (rest : List Field) : Type 0 where
    more : rest ≡ all_from f.next
    onward : pos < f.next
    inside : f.next ≤ end
    read : field s end f.place ≡ pass f
    placed : f.place < f.next
    from : pos ≤ f.place

  After? : (pos : ℕ) → List Field → Type 0
  After? pos [] = Unit {0}
  After? pos (f ∷ rest) = After pos f rest

  after_kept : (n pos : ℕ) → end ≤ pos + n → After? pos (keep (λ f. eqb number f.number) (fields_from s n end pos))
  unfolding keep fields_from After? all_from
  after_kept zero pos h = tt
  after_kept (suc n) pos h = go (leb end pos) (field s end pos) refl (field_tells s end pos) (field_placed s end pos) (λ p k. after_kept n p k)
    where
      kept : (b : Bool) (g : Field) → field s end g.place ≡ pass g → Fits pos end g → After? g.next (keep (λ f. eqb number f.number) (fields_from s n end g.next))
          → After? pos (elim b [
            | true ↦ g ∷ keep (λ f. eqb number f.number) (fields_from s n end g.next)
            | false ↦ keep (λ f. eqb number f.number) (fields_from s n end g.next)
          ])
      kept true g d e ih =
          record {
            more = ap (λ (l : List Field). keep (λ f. eqb number f.number) l) (fields_bound s n end g.next (omega arith));
            onward = omega arith;
            inside = omega arith;
            read = d;
            placed = omega arith;
            from = omega arith;
          }
      kept false g d e ih = later (keep (λ f. eqb number f.number) (fields_from s n end g.next)) ih
        where
          later : (l : List Field) → After? g.next l → After? pos l
          later [] a = tt
          later (f ∷ l) a =
              record {
                more = a.more;
                onward = (let k = a.onward in omega arith);
                inside = a.inside;
                read = a.read;
                placed = a.placed;
                from = (let k = a.from in omega arith);
              }

      go : (b : Bool) (o : Judged Field) → field s end pos ≡ o → Tells (Fits pos end) (AtTag pos) o
          → Tells (λ (f : Field). f.place ≡ pos) (AtTag pos) o
          → ((p : ℕ) → end ≤ p + n → After? p (keep (λ f. eqb number f.number) (fields_from s n end p)))
          → After? pos (keep (λ f. eqb number f.number) (elim b [ true ↦ [] | false ↦ elim o [ pass f ↦ f ∷ fields_from s n end f.next | fail r ↦ [] ] ]))
      go true o d e k ih = tt
      go false (fail r) d e k ih = tt
      go false (pass g) d e k ih = kept (eqb number g.number) g (ap (field s end) k ∙ d) e (ih g.next (omega arith))

  after_first : (pos : ℕ) → After? pos (all_from pos)
  unfolding all_from fields
  after_first pos = after_kept (end - pos) pos (omega arith)

  -- what a search tells of the list that it searched
  Told : List Field → Option (Field × Cursor) → Type 0
  Told [] none = Unit {0}
  Told [] (some p) = ⊥
  Told (f ∷ rest) none = ⊥
  Told (f ∷ rest) (some p) = p ≡ after end f

  told : (l : List Field) → Told l (elim (first l) [ none ↦ none | some f ↦ some (after end f) ])
  unfolding Told first
  told [] = tt
  told (f ∷ rest) = refl

  told_sought : (pos : ℕ) {o : Option (Field × Cursor)} → o ≡ sought_in s number end pos → Told (all_from pos) o
  unfolding all_from sought_in found_in
  told_sought pos e = rw e (told (all_from pos))

  pub all_none : (pos : ℕ) → none ≡ sought_in s number end pos → all_from pos ≡ []
  unfolding Told
  all_none pos e = go (all_from pos) (told_sought pos e)
    where
      go : (l : List Field) → Told l none → l ≡ []
      go [] h = refl
      go (f ∷ rest) h = absurd h

  -- the first of them, and the cursor after it
  pub record Onward (pos : ℕ) (f : Field) (next : Cursor) : Type 0 where
    pub list : all_from pos ≡ f ∷ all_from next.at
    pub ends : next.end ≡ end
    pub onward : pos < next.at
    pub inside : next.at ≤ end
    pub read : field s end f.place ≡ pass f
    pub placed : f.place < next.at
    pub from : pos ≤ f.place
    pub past : next.at ≡ f.next

  pub all_some : (pos : ℕ) {f : Field} {next : Cursor} → some (f, next) ≡ sought_in s number end pos → Onward pos f next
  unfolding Told After? after
  all_some pos {f} {next} e = go (all_from pos) refl (told_sought pos e) (after_first pos)
    where
      go : (l : List Field) → all_from pos ≡ l → Told l (some (f, next)) → After? pos l → Onward pos f next
      go [] k h a = absurd h
      go (g ∷ rest) k h a =
          let x : f ≡ g = ap (λ (p : Field × Cursor). p.0) h in
          let n : next ≡ record { at = g.next; end = end } = ap (λ (p : Field × Cursor). p.1) h in
          let at_next : next.at ≡ g.next = ap (λ (y : Cursor). y.at) n in
          let far = a.onward in
          let near = a.inside in
          let here : f.place ≡ g.place = ap (λ (y : Field). y.place) x in
          let short = a.placed in
          let low = a.from in
          record {
            list = k ∙ ap (λ (l : List Field). g ∷ l) (a.more ∙ ap all_from (sym at_next)) ∙ ap (λ (y : Field). y ∷ all_from next.at) (sym x);
            ends = ap (λ (y : Cursor). y.end) n;
            onward = omega arith;
            inside = omega arith;
            read = ap (λ (y : Field). field s end y.place) x ∙ a.read ∙ ap pass (sym x);
            placed = omega arith;
            from = omega arith;
            past = at_next ∙ ap (λ (y : Field). y.next) (sym x);
          }

  -- what a search found, from a cursor on
  module _ {c : Cursor} (ends : c.end ≡ end) {r : Sought} (read : sought_says r ≡ sought_in s number c.end c.at) {f : Field} {next : Cursor}
      (e : r ≡ Some (f, next)) where
    pub found_onward : Onward c.at f next
    unfolding sought_says
    found_onward = all_some c.at (says sought_says (rw ends at read) e)

-- a loop that has come to the state `t` and the cursor `c`, where the whole of it answers `o`
pub record Along {S : Type 0} (s : Bytes) (number end : ℕ) (step : S → Field → Judged S) (o : Judged S) (t : S) (c : Cursor) : Type 0 where
  pub ends : c.end ≡ end
  pub rest : each step t (all_from s number end c.at) ≡ o

pub along_start : {S : Type 0} (s : Bytes) (number : ℕ) (step : S → Field → Judged S) (t : S) (c : Cursor)
    → Along s number c.end step (each step t (all_from s number c.end c.at)) t c
along_start s number step t c = record { ends = refl; rest = refl }

-- the loop over the message that a field holds
pub along_contents : {S : Type 0} (s : Bytes) (number : ℕ) (step : S → Field → Judged S) (t : S) (m : Field) {c : Cursor}
    → c ≡ contents_of m
    → each step t (all_from s number c.end c.at) ≡ each step t (all_of number (message s m))
unfolding all_from all_of message contents_of
along_contents s number step t m e = rw e refl

module _ {S : Type 0} {s : Bytes} {number end : ℕ} {step : S → Field → Judged S} {o : Judged S} {t : S} {c : Cursor} (q : Along s number end step o t c) where
  module _ {r : Sought} (read : sought_says r ≡ sought_in s number c.end c.at) where
    pub along_done : r ≡ None → o ≡ pass t
    unfolding sought_says each
    along_done e = sym q.rest ∙ ap (each step t) (all_none s number end c.at (says sought_says (rw q.ends at read) e))

    module _ {f : Field} {next : Cursor} (e : r ≡ Some (f, next)) where
      went : Onward s number end c.at f next
      went = found_onward s number end q.ends read e

      pub along_fails : {x : Refusal} → step t f ≡ fail x → o ≡ fail x
      unfolding each ◌>>=◌
      along_fails k = sym q.rest ∙ ap (each step t) went.list ∙ ap (λ (j : Judged S). j >>= λ u. each step u (all_from s number end next.at)) k

      pub along_goes : {u : S} → step t f ≡ pass u → Along s number end step o u next
      unfolding each ◌>>=◌
      along_goes {u} k = record {
        ends = went.ends;
        rest = sym (ap (each step t) went.list ∙ ap (λ (j : Judged S). j >>= λ v. each step v (all_from s number end next.at)) k) ∙ q.rest;
      }

      pub along_falls : end - next.at < end - c.at
      along_falls = let far = went.onward in let near = went.inside in omega arith

      -- the field was read where it lies
      pub along_read : field s end f.place ≡ pass f
      along_read = went.read

      -- it is one of those that were left, as are those after it
      pub along_here : Memᴰ f (all_from s number end c.at)
      along_here = rw went.list (Memᴰ.head refl)

      pub along_later : {g : Field} → Memᴰ g (all_from s number end next.at) → Memᴰ g (all_from s number end c.at)
      along_later m = rw went.list (Memᴰ.tail m)

      -- it stands where the cursor was, or later, and the next one after it
      pub along_from : c.at ≤ f.place
      along_from = went.from

      pub along_past : next.at ≡ f.next
      along_past = went.past
