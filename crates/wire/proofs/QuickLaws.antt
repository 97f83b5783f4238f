-- What is read with few tests is what is read.
use Rattle.std.specs.Prelude.{Err, Ok}
use Rattle.varint.specs.Answers.{Answer, outcome_of}
use Prim.Native.Nat.{ℕ, ◌+◌, ◌-◌, ◌*◌, ◌/◌, ◌%◌, ◌≤◌, ◌<◌}
use native.Mathlib.Omega.{arith}
use mathlib.Core.Path.{◌≡◌, refl, sym, ap, ◌∙◌}
use mathlib.Core.Logic.{inr}
use mathlib.Core.Bool.{true}
use Rattle.varint.specs.Outcome.{pass, ◌>>=◌, ◌>>◌, Judged, refuse◌at:◌when:◌}
use Rattle.varint.specs.Lists.{contains}
use Rattle.varint.specs.Bytes.{Bytes, byte}
use Rattle.varint.specs.Varint.{varint, shortest_varint}
use Rattle.wire.specs.Wire.{tag, sized, value, field}
use Rattle.wire.specs.Answers.{with_cursor, after}
use Rattle.wire.specs.Quick.{Few, Many, wires, QuickTag, Fixed, QuickValue, field_of, Long}
use Rattle.varint.specs.declared.Refusal.{Refusal}
use Rattle.varint.specs.declared.Varint.{Varint}
use Rattle.wire.specs.declared.shorts.Number.{Number}
use Rattle.wire.specs.declared.Tag.{Tag}
use Rattle.wire.specs.declared.Field.{Field}
use Rattle.varint.proofs.Passing.{fail_no_pass, pass_same}
use Rattle.varint.proofs.Answers.{says}
use Rattle.wire.proofs.ShortLaws.{good_tag, sized_made}
use Rattle.varint.proofs.VarintLaws.{one_byte, Reading, reading_start, turn_more, turn_shortest, Going, go_start, go_more, go_shortest, go_end}
use Rattle.varint.proofs.ShortestLaws.{shortest_of, shortest_is}

-- ---- a varint of one to three bytes

varint_same : (s : Bytes) (place end pos : ℕ) {x y x' y' : ℕ} → x' ≡ x → y' ≡ y → pass (record { value = x; next = y; shortest = true }) ≡ varint s place end pos
    → pass (record { value = x'; next = y'; shortest = true }) ≡ shortest_varint s place end pos
varint_same s place end pos e f h = shortest_of s place end pos (rw (e, f) h) refl

module _ (s : Bytes) (end pos a : ℕ) (first : a ≡ byte s pos) where
  pub few_one : {next : ℕ} → next ≡ pos + 1 → next ≤ end → a < 128 → Few s end pos (record { value = a; next = next })
  few_one e h k = record { inside = h; small = omega arith; read = λ place. varint_same s place end pos refl e (one_byte s place end pos a (omega arith) first k) }

  module _ (more : 128 ≤ a) (byte_a : a < 256) (b : ℕ) (second : b ≡ byte s (pos + 1)) where
    two : (place : ℕ) → pos + 2 ≤ end → Reading s place end pos (0 + 1 * (a - 128)) (1 * 128) (10 - 1) (pos + 1)
    two place h = turn_more (reading_start s place end pos) a (omega arith) (omega arith) first more byte_a

    pub few_two : {value next : ℕ} → value ≡ a - 128 + 128 * b → next ≡ pos + 2 → next ≤ end → 0 < b → b < 128
        → Few s end pos (record { value = value; next = next })
    few_two v e h l k = record {
      inside = h;
      small = omega arith;
      read = λ place. varint_same s place end pos (omega arith) (omega arith) (turn_shortest (two place (omega arith)) b l (omega arith) (inr (λ z. omega arith)) second k);
    }

    module _ (again : 128 ≤ b) (byte_b : b < 256) (c : ℕ) (third : c ≡ byte s (pos + 2)) where
      pub few_three : {value next : ℕ} → value ≡ a - 128 + 128 * (b - 128) + 16384 * c → next ≡ pos + 3 → next ≤ end → 0 < c → c < 128
          → Few s end pos (record { value = value; next = next })
      few_three v e h l k = record {
        inside = h;
        small = omega arith;
        read = λ place. varint_same s place end pos (omega arith) (omega arith)
            (turn_shortest (turn_more (two place (omega arith)) b (omega arith) (omega arith) second again byte_b) c l (omega arith)
            (inr (λ z. omega arith)) (third ∙ ap (λ (x : ℕ). byte s x) (omega arith)) k);
      }

-- ---- a varint with room for ten bytes: `i` of them were read, and all go on

pub record Skipping (s : Bytes) (end pos i : ℕ) : Type 0 where
  pub at_most : i ≤ 9
  pub room : pos + 10 ≤ end
  pub value : ℕ
  pub scale : ℕ
  pub here : ℕ
  pub there : here ≡ pos + i
  pub going : (place : ℕ) → Going s place end pos (pos + 9) here value scale

pub skip_start : (s : Bytes) (end pos : ℕ) → pos + 10 ≤ end → Skipping s end pos 0
skip_start s end pos h = record {
  at_most = omega arith;
  room = h;
  value = 0;
  scale = 1;
  here = pos;
  there = omega arith;
  going = λ place. go_start s place end pos (pos + 9) (omega arith) (omega arith);
}

module _ {s : Bytes} {end pos i : ℕ} (q : Skipping s end pos i) {b : ℕ} (read : b ≡ byte s (pos + i)) where
  at_here : b ≡ byte s q.here
  at_here = read ∙ ap (λ (x : ℕ). byte s x) (sym q.there)

  pub skip_more : i < 9 → 128 ≤ b → b < 256 → Skipping s end pos (i + 1)
  skip_more h k hi = record {
    at_most = omega arith;
    room = q.room;
    value = q.value + q.scale * (b - 128);
    scale = q.scale * 128;
    here = q.here + 1;
    there = omega (arith, q.there);
    going = λ place. go_more (q.going place) (omega (arith, q.there)) b at_here k hi;
  }

  pub skip_last : {next : ℕ} → i < 9 → 0 < b → b < 128 → next ≡ pos + i + 1 → Many s end pos next
  skip_last {next} h l k e = record {
    value = q.value + q.scale * b;
    inside = omega (arith, q.room);
    read = λ place. varint_same s place end pos refl (omega (arith, q.there)) (go_shortest (q.going place) (omega (arith, q.there)) b l at_here k);
  }

pub skip_tenth : {s : Bytes} {end pos i : ℕ} (q : Skipping s end pos i) {b next : ℕ} → 9 ≤ i → b ≡ byte s (pos + 9) → b ≡ 1 → next ≡ pos + 10 → Many s end pos next
skip_tenth {s} {end} {pos} {i} q {b} {next} h read k e =
    let same : pos + 9 ≡ pos + i = omega (arith, q.at_most) in
    record {
      value = q.value + q.scale * 1;
      inside = omega (arith, q.room);
      read = λ place. varint_same s place end pos refl (omega (arith, q.there))
          (go_end (q.going place) (omega (arith, q.there)) (omega (arith, q.there, q.room)) 1 (sym k ∙ at_here q (read ∙ ap (λ (x : ℕ). byte s x) same))
          (omega arith));
    }

-- ---- a tag and its value

pub quick_tag : (s : Bytes) (end pos : ℕ) (v : Number) → Few s end pos v → 8 ≤ v.value → contains (v.value % 8) wires ≡ true
    → pass (record { place = pos; number = v.value / 8; wire = v.value % 8; next = v.next }) ≡ tag s end pos
unfolding tag ◌>>=◌ ◌>>◌ refuse◌at:◌when:◌
quick_tag s end pos v q low k = rw (← q.read pos, good_tag v.value (v.value % 8) low q.small refl k)

module _ (s : Bytes) (t : Tag) (end : ℕ) where
  as_number : t.wire ≡ 0 → (v : Varint) → pass v ≡ shortest_varint s t.place end t.next → sized t end v.value v.next 0 ≡ value s t end
  unfolding value ◌>>=◌
  as_number w v e = rw w (rw (← e))

  as_length : t.wire ≡ 2 → (v : Varint) → pass v ≡ shortest_varint s t.place end t.next → sized t end 0 v.next v.value ≡ value s t end
  unfolding value ◌>>=◌
  as_length w v e = rw w (rw (← e))

  as_four : t.wire ≡ 5 → sized t end 0 t.next 4 ≡ value s t end
  unfolding value
  as_four w = rw w

  as_eight : t.wire ≡ 1 → sized t end 0 t.next 8 ≡ value s t end
  unfolding value
  as_eight w = rw w

  a_wire : (w : ℕ) → t.wire ≡ w → contains w wires ≡ true → contains t.wire wires ≡ true
  a_wire w e k = rw e k

  fits_there : (v start size next : ℕ) → next ≡ start + size → next ≤ end → pass (field_of t v start next) ≡ sized t end v start size
  fits_there v start size next e h = rw e (sym (sized_made t end v start size (omega arith)))

  module _ {f : Field} where
    pub quick_number : (v : Varint) → pass v ≡ shortest_varint s t.place end t.next → t.wire ≡ 0 → v.next ≤ end → f ≡ field_of t v.value v.next v.next → QuickValue s t end f
    unfolding contains
    quick_number v e w h k = record {
      good = a_wire 0 w refl;
      read = ap pass k ∙ fits_there v.value v.next 0 v.next (omega arith) h ∙ as_number w v e;
    }

    pub quick_length : (v : Number) → Few s end t.next v → t.wire ≡ 2 → {next : ℕ} → next ≡ v.next + v.value → next ≤ end
        → f ≡ field_of t 0 v.next next
        → QuickValue s t end f
    unfolding contains
    quick_length v q w {next} e h k = record {
      good = a_wire 2 w refl;
      read = ap pass k ∙ fits_there 0 v.next v.value next e h ∙ as_length w (record { value = v.value; next = v.next; shortest = true }) (q.read t.place);
    }

    pub quick_fixed : {size : ℕ} → Fixed t.wire size → {next : ℕ} → next ≡ t.next + size → next ≤ end → f ≡ field_of t 0 t.next next → QuickValue s t end f
    quick_fixed {size} q {next} e h k = record {
      good = q.good;
      read = ap pass k ∙ fits_there 0 t.next size next e h ∙ q.read s t end refl;
    }

pub fixed_four : {wire : ℕ} → wire ≡ 5 → Fixed wire 4
unfolding contains
fixed_four e = record { good = rw e refl; read = λ s t end w. as_four s t end (w ∙ e) }

pub fixed_eight : {wire : ℕ} → wire ≡ 1 → Fixed wire 8
unfolding contains
fixed_eight e = record { good = rw e refl; read = λ s t end w. as_eight s t end (w ∙ e) }

pub long_value : {s : Bytes} {t : Tag} {end next : ℕ} (q : Long s t end next) {f : Field} → f ≡ field_of t q.number.value next next → QuickValue s t end f
long_value {s} {t} {end} {next} q e =
    quick_number s t end (record { value = q.number.value; next = next; shortest = true }) (q.number.read t.place) q.zero q.number.inside e

-- ---- as answers say it

pub quick_field : {s : Bytes} {end pos : ℕ} {t : Tag} {f : Field} → QuickTag s end pos t → QuickValue s t end f → field s end pos ≡ pass f
unfolding field ◌>>=◌
quick_field a b = rw (← a.read b.good) (sym b.read)

pub quick_answer : {s : Bytes} {end pos : ℕ} {t : Tag} {f : Field} → QuickTag s end pos t → QuickValue s t end f
    → outcome_of (Ok (f, (record { at = f.next; end = end }))) ≡ with_cursor end (field s end pos)
unfolding outcome_of with_cursor after ◌>>=◌
quick_answer a b = rw (quick_field a b) refl

pub value_answer : {s : Bytes} {t : Tag} {end : ℕ} {f : Field} → QuickValue s t end f
    → outcome_of (Ok (f, (record { at = f.next; end = end }))) ≡ with_cursor end (value s t end)
unfolding outcome_of with_cursor after ◌>>=◌
value_answer b = rw (← b.read) refl

-- a long number, with what the code knows of its value
pub long_answer : {s : Bytes} {t : Tag} {end far : ℕ} → Long s t end far → {n : ℕ}
    → ((v : Varint) → pass v ≡ varint s t.place end t.next → n ≡ v.value) → {f : Field}
    → f ≡ field_of t n far far
    → outcome_of (Ok (f, (record { at = far; end = end }))) ≡ with_cursor end (value s t end)
long_answer {s} {t} {end} {far} q known {f} e =
    let v : Varint = record { value = q.number.value; next = far; shortest = true } in
    let there : f.next ≡ far = ap (λ (g : Field). g.next) e in
    let same : f ≡ field_of t q.number.value far far =
    e ∙ ap (λ (x : ℕ). field_of t x far far) (known v (sym (shortest_is s t.place end t.next v (sym (q.number.read t.place))).0)) in
    ap (λ (x : ℕ). outcome_of (Ok (f, (record { at = x; end = end })))) (sym there) ∙ value_answer (long_value q same)

-- the number that is read
module _ {r : Answer Varint} {o : Judged Varint} (read : outcome_of r ≡ o) (v : Varint) (e : pass v ≡ o) where
  pub number_of_read : {w : Varint} → r ≡ Ok w → w.value ≡ v.value
  unfolding outcome_of
  number_of_read {w} k = ap (λ (x : Varint). x.value) (pass_same w v (says outcome_of read k ∙ sym e))

  pub number_of_refused : {q : Refusal} → r ≡ Err q → 0 ≡ v.value
  unfolding outcome_of
  number_of_refused {q} k = absurd (fail_no_pass q v (says outcome_of read k ∙ sym e))
