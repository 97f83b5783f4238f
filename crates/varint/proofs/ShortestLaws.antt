-- A varint that must have its shortest form: each case, with what a reader knows there.
use Rattle.std.specs.Prelude.{Err, Ok}
use Rattle.varint.specs.Answers.{Answer, outcome_of}
use Prim.Native.Nat.{ℕ, suc, ◌+◌, ◌-◌, ◌*◌, ◌%◌, ◌≤◌, ◌<◌}
use native.Mathlib.Omega.{arith}
use mathlib.Core.Path.{◌≡◌, refl, sym, ap, ◌∙◌}
use mathlib.Core.Logic.{◌↔◌}
use mathlib.Core.Bool.{Bool, true, false, not, ◌||◌, true≢false}
use lib.Dec.{T, leb, ltb, eqb, leb→le, nleb→lt, nltb→le}
use borrow.Author.Tests.{ne_eqb}
use Rattle.varint.specs.Outcome.{pass, ◌>>=◌, ◌>>◌, Judged, refused, refuse◌at:◌when:◌}
use Rattle.varint.specs.Bytes.{Bytes, byte}
use Rattle.varint.specs.Varint.{varint, shortest_varint}
use Rattle.varint.specs.declared.Refusal.{Refusal}
use Rattle.varint.specs.declared.Varint.{Varint}
use Rattle.varint.proofs.Answers.{says}
use Rattle.varint.proofs.Passing.{passed_bind, passed_seq, passed_rule, pass_same}
use Rattle.varint.proofs.VarintLaws.{one_byte, varint_each}

-- the rule on what was read
ruled : (place : ℕ) → Judged Varint → Judged Varint
ruled place o = o >>= λ v. refuse 9 at: place when: not v.shortest >> pass v

ruled_short : (place : ℕ) (v : Varint) → v.shortest ≡ true → ruled place (pass v) ≡ pass v
unfolding ruled ◌>>=◌ ◌>>◌ refuse◌at:◌when:◌
ruled_short place v k = ap (λ (b : Bool). refuse 9 at: place when: not b >> pass v) k

ruled_padded : (place : ℕ) (v : Varint) → v.shortest ≡ false → ruled place (pass v) ≡ refused 9 place
unfolding ruled ◌>>=◌ ◌>>◌ refuse◌at:◌when:◌
ruled_padded place v k = ap (λ (b : Bool). refuse 9 at: place when: not b >> pass v) k

module _ (s : Bytes) (place end pos : ℕ) where
  ruled_varint : {o : Judged Varint} → o ≡ varint s place end pos → ruled place o ≡ shortest_varint s place end pos
  unfolding ruled shortest_varint
  ruled_varint e = ap (ruled place) e

  pub shortest_of : {v : Varint} → pass v ≡ varint s place end pos → v.shortest ≡ true → pass v ≡ shortest_varint s place end pos
  shortest_of {v} e k = sym (ruled_short place v k) ∙ ruled_varint e

  pub shortest_byte : (b : ℕ) → pos < end → b ≡ byte s pos → b < 128
      → pass (record { value = b; next = pos + 1; shortest = true }) ≡ shortest_varint s place end pos
  shortest_byte b h e k = shortest_of (one_byte s place end pos b h e k) refl

  -- what passed was read, and is not padded
  pub shortest_is : (v : Varint) → shortest_varint s place end pos ≡ pass v → (varint s place end pos ≡ pass v) × (v.shortest ≡ true)
  unfolding shortest_varint
  shortest_is v e =
      let w = passed_bind (varint s place end pos) _ v e in
      let k = passed_seq _ _ v w.2 in
      let same : w.0 ≡ v = pass_same w.0 v k.1 in
      (rw (← same) w.1, rw (← same) (kept w.0.shortest (passed_rule 9 place _ k.0)))
    where
      kept : (b : Bool) → T (not (not b)) → b ≡ true
      kept true t = refl
      kept false t = absurd t

  -- as the reader answers
  module _ {r : Answer Varint} (read : outcome_of r ≡ varint s place end pos) where
    pub shortest_refused : {q : Refusal} → r ≡ Err q → outcome_of r ≡ shortest_varint s place end pos
    unfolding ruled outcome_of ◌>>=◌
    shortest_refused e = ap outcome_of e ∙ ruled_varint (says outcome_of read e)

    module _ {v : Varint} (e : r ≡ Ok v) where
      pub shortest_padded : v.shortest ≡ false → refused 9 place ≡ shortest_varint s place end pos
      unfolding outcome_of
      shortest_padded k = sym (ruled_padded place v k) ∙ ruled_varint (says outcome_of read e)

      pub shortest_read : v.shortest ≡ true → pass v ≡ shortest_varint s place end pos
      unfolding outcome_of
      shortest_read k = shortest_of (says outcome_of read e) k

-- ---- "Padded: more than one byte and the last is 0."

module _ (s : Bytes) (place end : ℕ) where
  -- what the flag says of a last byte at once, and of a later one
  record Flagged (left pos : ℕ) (v : Varint) : Type 0 where
    onward : pos < v.next
    at_once : v.next ≡ pos + 1 → v.shortest ≡ (eqb (left - 1) 9 || ltb 0 (byte s pos))
    later : pos + 1 < v.next → v.shortest ≡ ltb 0 (byte s (v.next - 1))

  flag_last : (left pos : ℕ) → suc left ≤ 10 → pos < end → byte s pos < 128
      → Flagged (suc left) pos (record { value = byte s pos; next = pos + 1; shortest = eqb left 9 || ltb 0 (byte s pos) })
  flag_last left pos l h k =
      let one : left ≡ suc left - 1 = omega arith in
      record {
        onward = omega arith;
        at_once = λ z. ap (λ (x : ℕ). eqb x 9 || ltb 0 (byte s pos)) one;
        later = λ z. absurd (omega arith);
      }

  flag_more : (left pos : ℕ) (high : Varint) → suc left ≤ 10 → pos < end → 128 ≤ byte s pos → Flagged left (pos + 1) high
      → Flagged (suc left) pos (record { value = byte s pos % 128 + 128 * high.value; next = high.next; shortest = high.shortest })
  flag_more left pos high l h k q =
      let far = q.onward in
      record {
        onward = omega arith;
        at_once = λ z. absurd (omega arith);
        later = λ z. go (leb high.next (pos + 1 + 1)) (leb→le high.next (pos + 1 + 1)) (nleb→lt high.next (pos + 1 + 1));
      }
    where
      go : (b : Bool) → (T b → high.next ≤ pos + 1 + 1) → (T (not b) → pos + 1 + 1 < high.next) → high.shortest ≡ ltb 0 (byte s (high.next - 1))
      go true near far =
          let last : high.next ≡ pos + 1 + 1 = let k = near tt in let m = q.onward in omega arith in
          let here : pos + 1 ≡ high.next - 1 = omega arith in
          q.at_once last ∙ ap (λ (b : Bool). b || ltb 0 (byte s (pos + 1))) (ne_eqb (left - 1) 9 (λ z. omega arith)) ∙ ap (λ (x : ℕ). ltb 0 (byte s x)) here
      go false near far = q.later (far tt)

  pub padded_exactly : (pos : ℕ) (v : Varint) → varint s place end pos ≡ pass v → (v.shortest ≡ false) ↔ ((pos + 1 < v.next) × (byte s (v.next - 1) ≡ 0))
  unfolding varint
  padded_exactly pos v e = (
    (λ k. longer (leb v.next (pos + 1)) (leb→le v.next (pos + 1)) (nleb→lt v.next (pos + 1)) k),
    λ h. q.later h.0 ∙ ap (ltb 0) h.1,
  )
    where
      q : Flagged 10 pos v
      q = varint_each s place end Flagged flag_last flag_more 10 pos v (omega arith) e

      zero_byte : (b : ℕ) → ltb 0 b ≡ false → b ≡ 0
      zero_byte b k = let h = nltb→le 0 b (rw k tt) in omega arith

      longer : (b : Bool) → (T b → v.next ≤ pos + 1) → (T (not b) → pos + 1 < v.next) → v.shortest ≡ false → (pos + 1 < v.next) × (byte s (v.next - 1) ≡ 0)
      longer true near far k =
          let one : v.next ≡ pos + 1 = let m = q.onward in let n = near tt in omega arith in
          absurd (true≢false (sym (q.at_once one) ∙ k))
      longer false near far k = (far tt, zero_byte (byte s (v.next - 1)) (sym (q.later (far tt)) ∙ k))
