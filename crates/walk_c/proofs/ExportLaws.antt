-- Each case of the walk's answer, and varints counted by a loop.
use Rattle.std.specs.Prelude.{Err, Ok}
use Rattle.varint.specs.Answers.{Answer, outcome_of}
use Prim.Native.Nat.{ℕ, zero, suc, ◌+◌, ◌≤◌, ◌<◌}
use native.Mathlib.Omega.{arith}
use mathlib.Core.Path.{◌≡◌, refl, sym, ap}
use mathlib.Core.Bool.{Bool, true, false}
use lib.ListN.{length}
use lib.Dec.{leb, le→leb}
use mir.Facts.{no_leb}
use borrow.Author.Tests.{leb-true, leb-false}
use Rattle.varint.specs.Outcome.{pass, fail, Judged, Rule}
use Rattle.varint.specs.Bytes.{Bytes}
use Rattle.varint.specs.Varint.{varint}
use Rattle.varint.specs.declared.Refusal.{Refusal}
use Rattle.varint.specs.declared.Varint.{Varint}
use Rattle.varint.proofs.Lists.{T_true, T_false}
use Rattle.varint.proofs.VarintLaws.{reading_start, turn_past}
use Rattle.varint.proofs.Tells.{Tells}
use Rattle.varint.proofs.Passing.{passed_tells}
use Rattle.wire.proofs.Reading.{AtTag, varint_tells}
use Rattle.varint.proofs.Answers.{says}
use Rattle.walk_c.specs.Exports.{answered, count_from, varint_count}

module _ {o : Rule} {r : Answer (Unit {0})} (walked : outcome_of r ≡ o) where
  pub answer_sound : r ≡ (Ok tt) → record { number = 0; place = 0 } ≡ answered o
  unfolding answered outcome_of
  answer_sound e = ap answered (says outcome_of walked e)

  pub answer_refused : {q : Refusal} → r ≡ Err q → record { number = q.number; place = q.place } ≡ answered o
  unfolding answered outcome_of
  answer_refused e = ap answered (says outcome_of walked e)

-- ---- counting

module _ (bytes : Bytes) (pos : ℕ) where
  count_end : (bound : ℕ) → length bytes ≤ pos → count_from bytes bound pos ≡ 0
  unfolding count_from
  count_end zero h = refl
  count_end (suc bound) h = rw (T_true (leb (length bytes) pos) (le→leb (length bytes) pos h), count_from) refl

  count_refused : (bound : ℕ) (r : Refusal) → varint bytes pos (length bytes) pos ≡ fail r → count_from bytes bound pos ≡ 0
  unfolding count_from
  count_refused zero r e = refl
  count_refused (suc bound) r e = go (leb (length bytes) pos) (varint bytes pos (length bytes) pos) e
    where
      go : (t : Bool) (o : Judged Varint) → o ≡ fail r
          → ◌≡◌ {A = ℕ} (elim t [ true ↦ 0 | false ↦ elim o [ pass v ↦ suc (count_from bytes bound v.next) | fail q ↦ 0 ] ]) 0
      go true o k = refl
      go false o k = rw k refl

  -- a varint that is read begins before the end
  read_inside : {v : Varint} → varint bytes pos (length bytes) pos ≡ pass v → pos < length bytes
  read_inside e = go (leb (length bytes) pos) refl
    where
      go : (t : Bool) → leb (length bytes) pos ≡ t → pos < length bytes
      go true h = let past = turn_past (reading_start bytes pos (length bytes) pos) (leb-true _ _ h) in let no : ⊥ = cc in absurd no
      go false h = leb-false _ _ h

  count_read : (bound : ℕ) (v : Varint) → varint bytes pos (length bytes) pos ≡ pass v → count_from bytes (suc bound) pos ≡ suc (count_from bytes bound v.next)
  unfolding count_from
  count_read bound v e = rw (T_false (leb (length bytes) pos) (no_leb (read_inside e)), e, count_from) refl

-- a bound from the bytes left on changes nothing
module _ (bytes : Bytes) where
  count_agree : (a b pos : ℕ) → length bytes ≤ pos + a → length bytes ≤ pos + b → count_from bytes a pos ≡ count_from bytes b pos
  unfolding count_from varint
  count_agree zero zero pos h k = refl
  count_agree zero (suc b) pos h k = sym (count_end bytes pos (suc b) (omega arith))
  count_agree (suc a) zero pos h k = count_end bytes pos (suc a) (omega arith)
  count_agree (suc a) (suc b) pos h k =
      go (leb (length bytes) pos) (varint bytes pos (length bytes) pos) (varint_tells bytes 10 pos (length bytes) pos) (λ p i j. count_agree a b p i j)
    where
      go : (t : Bool) (o : Judged Varint) → Tells (λ v. pos < v.next) (AtTag pos) o
          → ((p : ℕ) → length bytes ≤ p + a → length bytes ≤ p + b → count_from bytes a p ≡ count_from bytes b p)
          → ◌≡◌ {A = ℕ} (elim t [ true ↦ 0 | false ↦ elim o [ pass v ↦ suc (count_from bytes a v.next) | fail r ↦ 0 ] ])
          (elim t [ true ↦ 0 | false ↦ elim o [ pass v ↦ suc (count_from bytes b v.next) | fail r ↦ 0 ] ])
      go true o e ih = refl
      go false (fail r) e ih = refl
      go false (pass v) e ih = ap suc (ih v.next (omega arith) (omega arith))

  pub count_bound : (bound : ℕ) → length bytes ≤ bound → count_from bytes bound 0 ≡ varint_count bytes
  unfolding varint_count
  count_bound bound h = count_agree bound (length bytes) 0 (omega arith) (omega arith)

-- `count` varints stand before `pos`, and those from there on make up the whole
pub record Counting (bytes : Bytes) (pos count : ℕ) : Type 0 where
  pub few : count ≤ pos
  pub bound : ℕ
  pub enough : length bytes ≤ pos + bound
  pub rest : count + count_from bytes bound pos ≡ varint_count bytes

pub count_start : (bytes : Bytes) → Counting bytes 0 0
unfolding varint_count
count_start bytes = record { few = omega arith; bound = length bytes; enough = omega arith; rest = omega arith }

pub count_done : {bytes : Bytes} {pos count : ℕ} → Counting bytes pos count → length bytes ≤ pos → count ≡ varint_count bytes
count_done {bytes} {pos} q h = omega (arith, count_end bytes pos q.bound h, q.rest)

module _ {bytes : Bytes} {pos count : ℕ} (q : Counting bytes pos count)
    {r : Answer Varint} (read : outcome_of r ≡ varint bytes pos (length bytes) pos) where
  pub count_stop : {x : Refusal} → r ≡ Err x → count ≡ varint_count bytes
  unfolding outcome_of
  count_stop {x} e = omega (arith, count_refused bytes pos q.bound x (sym (says outcome_of read e)), q.rest)

  module _ {v : Varint} (e : r ≡ Ok v) where
    went : varint bytes pos (length bytes) pos ≡ pass v
    unfolding outcome_of
    went = sym (says outcome_of read e)

    pub count_inside : pos < length bytes
    count_inside = read_inside bytes pos went

    pub count_moves : pos < v.next
    unfolding varint
    count_moves = passed_tells (λ (w : Varint). pos < w.next) (AtTag pos) (varint bytes pos (length bytes) pos) v (varint_tells bytes 10 pos (length bytes) pos) went

    pub count_next : Counting bytes v.next (count + 1)
    count_next = go q.bound q.enough q.rest count_moves
      where
        go : (bound : ℕ) → length bytes ≤ pos + bound → count + count_from bytes bound pos ≡ varint_count bytes → pos < v.next → Counting bytes v.next (count + 1)
        go zero l k m = absurd (omega (arith, count_inside))
        go (suc bound) l k m = record {
          few = omega (arith, q.few);
          bound = bound;
          enough = omega arith;
          rest = omega (arith, count_read bytes pos bound v went);
        }
