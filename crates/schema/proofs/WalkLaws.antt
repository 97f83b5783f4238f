-- A turn of the loop of the first walk, for each way through it.
use Rattle.std.specs.Prelude.{Err, None, Ok, Some}
use Rattle.varint.specs.Answers.{Answer, outcome_of, option_of}
use Rattle.std.specs.declared.option.Option as code
use Prim.Native.Nat.{ℕ, ◌+◌, ◌-◌, ◌≤◌, ◌<◌}
use native.Mathlib.Omega.{arith}
use mathlib.Core.Path.{◌≡◌, refl, sym, ap, ◌∙◌}
use mathlib.Core.Bool.{Bool, true, false, ◌&&◌}
use mathlib.Core.List.{List, []}
use lib.ListN.{set, replicate}
use lib.Dec.{eqb}
use borrow.Author.Tests.{eqb-false}
use Rattle.varint.specs.Outcome.{pass, fail, ◌>>=◌, ◌>>◌, Rule, refused, refuse◌at:◌when:◌}
use Rattle.varint.specs.Bytes.{Bytes}
use Rattle.wire.specs.Wire.{tag, value}
use Rattle.wire.specs.Answers.{with_cursor}
use Rattle.varint.specs.declared.Refusal.{Refusal}
use Rattle.wire.specs.declared.Tag.{Tag}
use Rattle.wire.specs.declared.Field.{Field}
use Rattle.wire.specs.declared.Cursor.{Cursor}
use Rattle.varint.proofs.Passing.{passed_tells}
use Rattle.wire.proofs.Reading.{AtTag, Follows, tag_tells, value_tells}
use Rattle.varint.proofs.Answers.{says}
use Rattle.wire.proofs.CursorLaws.{with_cursor_read, with_cursor_refused}
use Rattle.schema.specs.declared.Kind.{Kind}
use Rattle.schema.specs.declared.Row.{Row}
use Rattle.schema.specs.Rows.{row_of, has_nodes}
use Rattle.schema.specs.FirstWalk.{fits, slot_of, taken, take_up, kind_of, deeper, contents, turn, walked}
use Rattle.schema.specs.Answers.{slot_index, taken_in}
use Rattle.schema.proofs.SlotLaws.{low_slot, Slots, slots_none, slots_taken, slots_more}
use Rattle.schema.proofs.Bound.{walked_done, step, walked_step}

-- ---- the definition of a turn, case by case

module _ (s : Bytes) (kind : Kind) (depth : ℕ) (slots : List ℕ) (end pos : ℕ) where
  step_tag : (r : Refusal) → tag s end pos ≡ fail r → fail r ≡ step s kind depth slots end pos
  unfolding step turn ◌>>=◌
  step_tag r e = rw e

  module _ (t : Tag) (e : tag s end pos ≡ pass t) where
    step_wire : fits t.wire (row_of kind t.number) ≡ false → refused 4 pos ≡ step s kind depth slots end pos
    unfolding step turn ◌>>=◌ ◌>>◌ refuse◌at:◌when:◌
    step_wire w = rw (e, w)

    module _ (w : fits t.wire (row_of kind t.number) ≡ true) where
      step_repeat : taken (slot_of t.number (row_of kind t.number)) slots ≡ true → refused 5 pos ≡ step s kind depth slots end pos
      unfolding step turn ◌>>=◌ ◌>>◌ refuse◌at:◌when:◌
      step_repeat n = rw (e, w, n)

      module _ (n : taken (slot_of t.number (row_of kind t.number)) slots ≡ false) where
        step_value : (r : Refusal) → value s t end ≡ fail r → fail r ≡ step s kind depth slots end pos
        unfolding step turn ◌>>=◌ ◌>>◌ refuse◌at:◌when:◌
        step_value r v = rw (e, w, n, v)

        module _ (f : Field) (v : value s t end ≡ pass f) where
          step_inside : (r : Refusal) → contents s (λ k d e p. walked s k d [] e p) depth (kind_of (row_of kind t.number)) f ≡ fail r → fail r ≡ step s kind depth slots end pos
          unfolding step turn ◌>>=◌ ◌>>◌ refuse◌at:◌when:◌
          step_inside r i = rw (e, w, n, v, i)

          step_on : contents s (λ k d e p. walked s k d [] e p) depth (kind_of (row_of kind t.number)) f ≡ pass tt
              → walked s kind depth (take_up (slot_of t.number (row_of kind t.number)) slots) end f.next ≡ step s kind depth slots end pos
          unfolding step turn ◌>>=◌ ◌>>◌ refuse◌at:◌when:◌
          step_on i = rw (e, w, n, v, i)

-- ---- the loop

-- The walk of a message is under way: what is left from the cursor on is the whole answer.
pub record Going (s : Bytes) (kind : Kind) (depth start end : ℕ) (seen : List ℕ) (c : Cursor) : Type 0 where
  pub ends : c.end ≡ end
  pub past : start ≤ c.at
  pub slots : List ℕ
  pub taking : Slots seen slots
  pub whole : walked s kind depth slots end c.at ≡ walked s kind depth [] end start

pub going_start : (s : Bytes) (kind : Kind) (depth start end : ℕ) → Going s kind depth start end (replicate 27 0) (record { at = start; end = end })
going_start s kind depth start end = record { ends = refl; past = omega arith; slots = []; taking = slots_none; whole = refl }

-- A turn at a field whose tag was read and whose row is known.
pub record Tagged (s : Bytes) (kind : Kind) (depth start end : ℕ) (seen : List ℕ) (c : Cursor) (t : Tag) (row : Row) : Type 0 where
  pub going : Going s kind depth start end seen c
  pub here : c.at < end
  pub read : tag s end c.at ≡ pass t
  pub rowed : row ≡ row_of kind t.number

-- A turn at a field that fits its row, is no repeat, and was read.
pub record Turned (s : Bytes) (kind : Kind) (depth start end : ℕ) (seen : List ℕ) (c : Cursor) (row : Row) (slot : ℕ) (f : Field) (next : Cursor) : Type 0 where
  pub t : Tag
  pub tagged : Tagged s kind depth start end seen c t row
  pub fitting : fits t.wire (row_of kind t.number) ≡ true
  pub slotted : slot ≡ slot_index (slot_of t.number (row_of kind t.number))
  pub free : taken (slot_of t.number (row_of kind t.number)) tagged.going.slots ≡ false
  pub found : value s t end ≡ pass f
  pub onto : next ≡ record { at = f.next; end = end }
  pub placed : f.place ≡ c.at
  pub inside : (c.at < f.start) × (f.start ≤ f.next) × (f.next ≤ end)

module _ {s : Bytes} {kind : Kind} {depth start end : ℕ} {seen : List ℕ} {c : Cursor} where
  module _ (g : Going s kind depth start end seen c) where
    pub walk_done : end ≤ c.at → pass tt ≡ walked s kind depth [] end start
    walk_done h = sym (walked_done s kind depth g.slots end c.at h) ∙ g.whole

    on : c.at < end → step s kind depth g.slots end c.at ≡ walked s kind depth [] end start
    on h = sym (walked_step s kind depth g.slots end c.at h) ∙ g.whole

    module _ (h : c.at < end) (a : Answer Tag) (read : outcome_of a ≡ tag s c.end c.at) where
      pub walk_tag : {r : Refusal} → a ≡ Err r → fail r ≡ walked s kind depth [] end start
      unfolding outcome_of
      walk_tag e = step_tag s kind depth g.slots end c.at _ (sym (says outcome_of (rw g.ends at read) e)) ∙ on h

      pub walk_tagged : {t : Tag} {row : Row} → a ≡ Ok t → row ≡ row_of kind t.number → Tagged s kind depth start end seen c t row
      unfolding outcome_of
      walk_tagged e q = record { going = g; here = h; read = sym (says outcome_of (rw g.ends at read) e); rowed = q }

  module _ {t : Tag} {row : Row} (g : Tagged s kind depth start end seen c t row) where
    pub walk_wire : {b : Bool} → b ≡ fits t.wire row → b ≡ false → refused 4 c.at ≡ walked s kind depth [] end start
    walk_wire w e = step_wire s kind depth g.going.slots end c.at t g.read (ap (fits t.wire) (sym g.rowed) ∙ sym w ∙ e) ∙ on g.going g.here

    module _ {b : Bool} (w : b ≡ fits t.wire row) (e : b ≡ true) {slot : ℕ} (q : slot ≡ slot_index (slot_of t.number row)) where
      fitted : fits t.wire (row_of kind t.number) ≡ true
      fitted = ap (fits t.wire) (sym g.rowed) ∙ sym w ∙ e

      in_slot : slot ≡ slot_index (slot_of t.number (row_of kind t.number))
      in_slot = q ∙ ap (λ (r : Row). slot_index (slot_of t.number r)) g.rowed

      repeated : taken_in seen slot ≡ taken (slot_of t.number (row_of kind t.number)) g.going.slots
      repeated = slots_taken slot _ g.going.taking in_slot (low_slot kind t.number)

      pub walk_repeat : {d : Bool} → d ≡ taken_in seen slot → d ≡ true → refused 5 c.at ≡ walked s kind depth [] end start
      walk_repeat k l = step_repeat s kind depth g.going.slots end c.at t g.read fitted (sym repeated ∙ sym k ∙ l) ∙ on g.going g.here

      module _ {d : Bool} (k : d ≡ taken_in seen slot) (l : d ≡ false) (a : Answer (Field × Cursor)) (got : outcome_of a ≡ with_cursor c.end (value s t c.end)) where
        pub walk_value : {r : Refusal} → a ≡ Err r → fail r ≡ walked s kind depth [] end start
        unfolding outcome_of
        walk_value e =
            step_value s kind depth g.going.slots end c.at t g.read fitted (sym repeated ∙ sym k ∙ l) _
            (with_cursor_refused end (value s t end) (says outcome_of (rw g.going.ends at got) e))
            ∙ on g.going g.here

        pub walk_turned : {f : Field} {next : Cursor} → a ≡ Ok (f, next) → Turned s kind depth start end seen c row slot f next
        unfolding outcome_of
        walk_turned {f} e =
            let o = with_cursor_read end (value s t end) (says outcome_of (rw g.going.ends at got) e) in
            let x = passed_tells (λ t. (t.place ≡ c.at) × (c.at < t.next)) (AtTag c.at) (tag s end c.at) t (tag_tells s end c.at) g.read in
            let y = passed_tells (Follows t end) (AtTag t.place) (value s t end) f (value_tells s t end) o.0 in
            record {
              t = t;
              tagged = g;
              fitting = fitted;
              slotted = in_slot;
              free = sym repeated ∙ sym k ∙ l;
              found = o.0;
              onto = o.1;
              placed = omega arith;
              inside = (omega arith, omega arith, omega arith);
            }

  module _ {row : Row} {slot : ℕ} {f : Field} {next : Cursor} (u : Turned s kind depth start end seen c row slot f next) where
    -- what is left is less, and so is what a walk of the contents has before it
    pub turn_falls : end - next.at < end - c.at
    turn_falls = let n : next.at ≡ f.next = ap (λ (x : Cursor). x.at) u.onto in let i = u.inside in let h = u.tagged.here in omega arith

    pub inner_falls : {left : ℕ} → end - start ≡ left → f.next - f.start < left
    inner_falls e = let i = u.inside in let h = u.tagged.here in let p = u.tagged.going.past in omega arith

    inner : Rule
    inner = contents s (λ k d e p. walked s k d [] e p) depth (kind_of (row_of kind u.t.number)) f

    stops : (r : Refusal) → inner ≡ fail r → fail r ≡ walked s kind depth [] end start
    unfolding inner
    stops r z =
        step_inside s kind depth u.tagged.going.slots end c.at u.t u.tagged.read u.fitting u.free f u.found r z
        ∙ on u.tagged.going u.tagged.here

    goes : inner ≡ pass tt → Going s kind depth start end (set seen slot 1) next
    unfolding inner
    goes z =
        let n : next.at ≡ f.next = ap (λ (x : Cursor). x.at) u.onto in
        let i = u.inside in
        let p = u.tagged.going.past in
        record {
          ends = ap (λ (x : Cursor). x.end) u.onto;
          past = omega arith;
          slots = take_up (slot_of u.t.number (row_of kind u.t.number)) u.tagged.going.slots;
          taking = slots_more slot _ u.tagged.going.taking u.slotted (low_slot kind u.t.number);
          whole = rw n (step_on s kind depth u.tagged.going.slots end c.at u.t u.tagged.read u.fitting u.free f u.found z
              ∙ on u.tagged.going u.tagged.here);
        }

    module _ (x : code.Option Kind) (e : option_of x ≡ kind_of row) where
      kinded : kind_of (row_of kind u.t.number) ≡ option_of x
      kinded = ap kind_of (sym u.tagged.rowed) ∙ sym e

      pub walk_closed : x ≡ None → Going s kind depth start end (set seen slot 1) next
      unfolding inner contents option_of
      walk_closed q = goes (rw (kinded ∙ ap option_of q, inner) refl)

      module _ {k : Kind} (q : x ≡ Some k) {b : Bool} (deep : b ≡ (has_nodes k && eqb depth 8)) where
        pub walk_deep : b ≡ true → refused 6 c.at ≡ walked s kind depth [] end start
        unfolding inner contents option_of ◌>>◌ refuse◌at:◌when:◌
        walk_deep t = ap (λ (p : ℕ). refused 6 p) (sym u.placed) ∙ stops _ (rw (kinded ∙ ap option_of q, inner) (rw (sym deep ∙ t) refl))

        module _ (l : b ≡ false) {d : ℕ} (m : d ≡ deeper k depth) (w : Answer (Unit {0})) (z : outcome_of w ≡ walked s k d [] f.next f.start) where
          inner_is : inner ≡ outcome_of w
          unfolding inner contents option_of ◌>>◌ refuse◌at:◌when:◌
          inner_is = rw (kinded ∙ ap option_of q, inner) (rw (sym deep ∙ l, ← m) (sym z))

          pub walk_inner : w ≡ (Ok tt) → Going s kind depth start end (set seen slot 1) next
          unfolding outcome_of
          walk_inner v = goes (inner_is ∙ ap outcome_of v)

          pub walk_bad : {r : Refusal} → w ≡ Err r → fail r ≡ walked s kind depth [] end start
          unfolding outcome_of
          walk_bad v = stops _ (inner_is ∙ ap outcome_of v)

-- what is opened and not too deep is at most at depth 8
pub deeper_low : (k : Kind) {depth d : ℕ} {b : Bool} → depth ≤ 8 → b ≡ (has_nodes k && eqb depth 8) → b ≡ false → d ≡ deeper k depth → d ≤ 8
unfolding deeper
deeper_low k {depth} {d} {b} l e f m = go (has_nodes k) (sym e ∙ f) m
  where
    go : (g : Bool) → (g && eqb depth 8) ≡ false → d ≡ elim g as (λ _. ℕ) [ true ↦ depth + 1 | false ↦ depth ] → d ≤ 8
    go true q n = let x = eqb-false depth 8 q in omega arith
    go false q n = omega arith
