-- A varint as a loop: a value so far, and a scale for what follows.
use Prim.Native.Nat.{ℕ, min, zero, suc, ◌+◌, ◌-◌, ◌*◌, ◌%◌, ◌^◌, ◌≤◌, ◌<◌}
use native.Mathlib.Omega.{arith}
use native.Mathlib.Nat.{mul-le-mul_left, mul-add, mul_assoc}
use mathlib.Core.Path.{◌≡◌, refl, sym, subst, ap, ◌∙◌}
use mathlib.Core.Logic.{◌⊎◌, inl, inr}
use mathlib.Core.Bool.{Bool, true, false, ◌&&◌, ◌||◌}
use lib.Dec.{T, leb, ltb, eqb, le→leb, eqb→eq, leb→le, nleb→lt, nltb→le}
use mir.Facts.{no_leb}
use borrow.Author.Tests.{ne_eqb}
use Rattle.varint.specs.Outcome.{pass, fail, ◌>>=◌, ◌>>◌, Judged, refused, refuse◌at:◌when:◌}
use Rattle.varint.specs.Bytes.{Bytes, byte}
use Rattle.varint.specs.Varint.{varint_from, varint}
use Rattle.varint.specs.declared.Varint.{Varint}
use Rattle.varint.proofs.Lists.{T_true, T_false, true_T, or_true}
use Rattle.varint.proofs.Passing.{fail_no_pass, pass_same, passed_bind, passed_seq, passed_rule}

-- ---- the definition, case by case; at the tenth byte `left` is 1

-- what the byte at hand may be: at the tenth 0 or 1
abbrev Allowed : (left b : ℕ) → Type 0
Allowed left b = ((left ≡ 1) × (b ≤ 1)) ⊎ (left ≡ 1 → ⊥)

module _ (s : Bytes) (place end pos : ℕ) where
  varint_past : (left : ℕ) → 1 ≤ left → end ≤ pos → varint_from s left place end pos ≡ refused 1 place
  unfolding varint_from ◌>>◌ refuse◌at:◌when:◌
  varint_past zero l h = absurd (omega arith)
  varint_past (suc left) l h = rw (T_true (leb end pos) (le→leb end pos h), varint_from) refl

  varint_tenth : (left : ℕ) → left ≡ 1 → pos < end → 1 < byte s pos → varint_from s left place end pos ≡ refused 2 place
  unfolding varint_from ◌>>◌ refuse◌at:◌when:◌
  varint_tenth left e h k = rw e (rw (T_false (leb end pos) (no_leb h), T_true (ltb 1 (byte s pos)) (le→leb 2 (byte s pos) k), varint_from) refl)

  -- the rule on the tenth byte does not apply
  tenth_passes : (left b : ℕ) → Allowed (suc left) b → (eqb left 0 && ltb 1 b) ≡ false
  tenth_passes left b a = go (eqb left 0) (eqb→eq left 0) a
    where
      go : (c : Bool) → (T c → left ≡ 0) → Allowed (suc left) b → (c && ltb 1 b) ≡ false
      go false e a = refl
      go true e (inl a) = T_false (ltb 1 b) (no_leb {a = 2} {b = b} (omega (arith, a.1)))
      go true e (inr a) = absurd (a (ap suc (e tt)))

  varint_last : (left : ℕ) → 1 ≤ left → pos < end → Allowed left (byte s pos) → byte s pos < 128
      → varint_from s left place end pos ≡ pass (record { value = byte s pos; next = pos + 1; shortest = eqb (left - 1) 9 || ltb 0 (byte s pos) })
  unfolding varint_from ◌>>◌ refuse◌at:◌when:◌
  varint_last zero l h a b = absurd (omega arith)
  varint_last (suc left) l h a b =
      let e : suc left - 1 ≡ left = omega arith in
      rw e (rw (T_false (leb end pos) (no_leb h), tenth_passes left (byte s pos) a, T_true (ltb (byte s pos) 128) (le→leb (suc (byte s pos)) 128 b), varint_from) refl)

  varint_more : (left : ℕ) → 2 ≤ left → pos < end → 128 ≤ byte s pos
      → varint_from s left place end pos
      ≡ (varint_from s (left - 1) place end (pos + 1) >>= λ high. pass (record { value = byte s pos % 128 + 128 * high.value; next = high.next; shortest = high.shortest }))
  unfolding varint_from ◌>>◌ refuse◌at:◌when:◌
  varint_more zero l h b = absurd (omega arith)
  varint_more (suc left) l h b =
      let e : suc left - 1 ≡ left = omega arith in
      rw e (rw (
        T_false (leb end pos) (no_leb h),
        tenth_passes left (byte s pos) (inr (λ q. omega arith)),
        T_false (ltb (byte s pos) 128) (no_leb {a = suc (byte s pos)} {b = 128} (omega arith)),
        varint_from,
      ) refl)

-- ---- the loop

-- no varint of `left` bytes or fewer is as large
unfoldable pub limit : (left : ℕ) → ℕ
limit zero = 1
limit (suc zero) = 2
limit (suc (suc left)) = 128 * limit (suc left)

pub limit_two : (left : ℕ) → 1 ≤ left → 2 ≤ limit left
unfolding limit
limit_two zero l = absurd (omega arith)
limit_two (suc zero) l = omega arith
limit_two (suc (suc left)) l = let r = limit_two (suc left) (omega arith) in omega arith

limit_more : (left : ℕ) → 2 ≤ left → limit left ≡ 128 * limit (left - 1)
unfolding limit
limit_more zero h = absurd (omega arith)
limit_more (suc zero) h = absurd (omega arith)
limit_more (suc (suc m)) h = let e : suc m ≡ suc (suc m) - 1 = omega arith in ap (λ (x : ℕ). 128 * limit x) e

-- the value so far, and scale times what follows
pub onto : (value scale : ℕ) → Judged Varint → Judged Varint
onto value scale o = o >>= λ w. pass (record { value = value + scale * w.value; next = w.next; shortest = w.shortest })

onto_nothing : (o : Judged Varint) → onto 0 1 o ≡ o
unfolding onto ◌>>=◌
onto_nothing (pass w) = ap (λ (x : ℕ). pass (record { value = x; next = w.next; shortest = w.shortest })) (omega arith)
onto_nothing (fail r) = refl

onto_more : (v sc b : ℕ) (o : Judged Varint) → 128 ≤ b → b < 256
    → onto (v + sc * (b - 128)) (sc * 128) o ≡ onto v sc (o >>= λ high. pass (record { value = b % 128 + 128 * high.value; next = high.next; shortest = high.shortest }))
unfolding onto ◌>>=◌
onto_more v sc b (pass w) lo hi =
    let m : b % 128 ≡ b - 128 = omega arith in
    rw m (ap (λ (x : ℕ). pass (record { value = x; next = w.next; shortest = w.shortest })) (omega (arith, mul-add sc (b - 128) (128 * w.value), mul_assoc sc 128 w.value)))
onto_more v sc b (fail r) lo hi = refl

-- A varint that began at `from` is being read: the value so far is below the scale, what may still come fills 64 bits, and the
-- value with what follows is the whole.
pub record Reading (s : Bytes) (place end from value scale left pos : ℕ) : Type 0 where
  pub low : value < scale
  pub some : 1 ≤ left
  pub room : scale * limit left ≡ 2 ^ 64
  pub whole : onto value scale (varint_from s left place end pos) ≡ varint s place end from

pub reading_start : (s : Bytes) (place end from : ℕ) → Reading s place end from 0 1 10 from
unfolding limit varint
reading_start s place end from = record { low = omega arith; some = omega arith; room = refl; whole = onto_nothing _ }

-- each way through a turn
module _ {s : Bytes} {place end from value scale left pos : ℕ} (q : Reading s place end from value scale left pos) where
  pub last_fits : (b : ℕ) → left ≡ 1 → b ≤ 1 → value + scale * b < 2 ^ 64
  unfolding limit
  last_fits b e h = let w : scale * 2 ≡ 2 ^ 64 = rw e at q.room in omega (arith, q.low, mul-le-mul_left scale h)

  pub scale_fits : 2 ≤ left → scale * 128 < 2 ^ 64
  scale_fits h =
      let w : scale * 128 * limit (left - 1) ≡ 2 ^ 64 = mul_assoc scale 128 (limit (left - 1)) ∙ ap (λ (x : ℕ). scale * x) (sym (limit_more left h)) ∙ q.room in
      omega (arith, q.low, mul-le-mul_left (scale * 128) (limit_two (left - 1) (omega arith)))

  pub small_fits : (b : ℕ) → 2 ≤ left → b ≤ 127 → value + scale * b < 2 ^ 64
  small_fits b h l = omega (arith, q.low, mul-le-mul_left scale l, scale_fits h)

  pub turn_past : end ≤ pos → refused 1 place ≡ varint s place end from
  unfolding onto ◌>>=◌
  turn_past h = ap (onto value scale) (sym (varint_past s place end pos left q.some h)) ∙ q.whole

  pub turn_tenth : (b : ℕ) → left ≡ 1 → pos < end → b ≡ byte s pos → 1 < b → refused 2 place ≡ varint s place end from
  unfolding onto ◌>>=◌
  turn_tenth b l h e k = ap (onto value scale) (sym (varint_tenth s place end pos left l h (rw e at k))) ∙ q.whole

  last_byte : (b : ℕ) (x : Bool) → (eqb (left - 1) 9 || ltb 0 b) ≡ x → pos < end → Allowed left b → b ≡ byte s pos → b < 128
      → pass (record { value = value + scale * b; next = pos + 1; shortest = x }) ≡ varint s place end from
  unfolding onto ◌>>=◌
  last_byte b x short h a e k =
      rw (← short) (rw e (ap (onto value scale) (sym (varint_last s place end pos left q.some h (rw e at a) (rw e at k))) ∙ q.whole))

  -- a last byte that is not the first of ten
  pub turn_last : (b : ℕ) → (left ≡ 10 → ⊥) → pos < end → Allowed left b → b ≡ byte s pos → b < 128
      → pass (record { value = value + scale * b; next = pos + 1; shortest = ltb 0 b }) ≡ varint s place end from
  turn_last b l = last_byte b (ltb 0 b) (ap (λ (x : Bool). x || ltb 0 b) (ne_eqb (left - 1) 9 (λ z. l (omega (arith, q.some)))))

  -- one that is not 0
  pub turn_shortest : (b : ℕ) → 0 < b → pos < end → Allowed left b → b ≡ byte s pos → b < 128
      → pass (record { value = value + scale * b; next = pos + 1; shortest = true }) ≡ varint s place end from
  turn_shortest b l = last_byte b true (ap (λ (x : Bool). eqb (left - 1) 9 || x) (T_true (ltb 0 b) (le→leb 1 b l)) ∙ or_true (eqb (left - 1) 9))

  pub turn_more : (b : ℕ) → 2 ≤ left → pos < end → b ≡ byte s pos → 128 ≤ b → b < 256 → Reading s place end from (value + scale * (b - 128)) (scale * 128) (left - 1) (pos + 1)
  turn_more b l h e k hi = let j : b - 128 ≤ 127 = omega arith in record {
    low = omega (arith, q.low, mul-le-mul_left scale j);
    some = omega arith;
    room = mul_assoc scale 128 (limit (left - 1)) ∙ ap (λ (x : ℕ). scale * x) (sym (limit_more left l)) ∙ q.room;
    whole = onto_more value scale b _ k hi
        ∙ ap (onto value scale) (ap (λ (x : ℕ). varint_from s (left - 1) place end (pos + 1)
        >>= λ high. pass (record { value = x % 128 + 128 * high.value; next = high.next; shortest = high.shortest })) e
        ∙ sym (varint_more s place end pos left l h (rw e at k)))
        ∙ q.whole;
  }

pub one_byte : (s : Bytes) (place end from b : ℕ) → from < end → b ≡ byte s from → b < 128
    → pass (record { value = b; next = from + 1; shortest = true }) ≡ varint s place end from
unfolding varint
one_byte s place end from b h e k = rw e (sym (varint_last s place end from 10 (omega arith) h (inr (λ q. omega arith)) (rw e at k)))

-- ---- the loop up to the tenth byte, or to the end before it

pub record Going (s : Bytes) (place end from stop pos value scale : ℕ) : Type 0 where
  pub left : ℕ
  pub count : pos + left ≡ from + 10
  pub until : stop ≡ min end (from + 9)
  pub inside : pos ≤ stop
  pub reads : Reading s place end from value scale left pos

pub go_start : (s : Bytes) (place end from stop : ℕ) → from < end → stop ≡ min end (from + 9) → Going s place end from stop from 0 1
go_start s place end from stop h e = record { left = 10; count = refl; until = e; inside = omega arith; reads = reading_start s place end from }

module _ {s : Bytes} {place end from stop pos value scale : ℕ} (q : Going s place end from stop pos value scale) where
  module _ (h : pos < stop) where
    more : 2 ≤ q.left
    more = omega (arith, q.count, q.until)

    within : pos < end
    within = omega (arith, q.until)

    pub go_scale : scale * 128 < 2 ^ 64
    go_scale = scale_fits q.reads more

    pub go_small : (b : ℕ) → b ≤ 127 → value + scale * b < 2 ^ 64
    go_small b l = small_fits q.reads b more l

    -- it is no first byte where the first goes on
    pub go_last : (b : ℕ) → 128 ≤ byte s from → b ≡ byte s pos → b < 128
        → pass (record { value = value + scale * b; next = pos + 1; shortest = ltb 0 b }) ≡ varint s place end from
    go_last b begun e k = turn_last q.reads b later within (inr (λ z. omega (arith, more))) e k
      where
        later : q.left ≡ 10 → ⊥
        later z = let here : byte s pos ≡ byte s from = ap (byte s) (omega (arith, q.count)) in omega arith

    pub go_shortest : (b : ℕ) → 0 < b → b ≡ byte s pos → b < 128
        → pass (record { value = value + scale * b; next = pos + 1; shortest = true }) ≡ varint s place end from
    go_shortest b l e k = turn_shortest q.reads b l within (inr (λ z. omega (arith, more))) e k

    pub go_more : (b : ℕ) → b ≡ byte s pos → 128 ≤ b → b < 256 → Going s place end from stop (pos + 1) (value + scale * (b - 128)) (scale * 128)
    go_more b e k hi = record {
      left = q.left - 1;
      count = omega (arith, more, q.count);
      until = q.until;
      inside = omega arith;
      reads = turn_more q.reads b more within e k hi;
    }

  -- where the loop ends
  pub go_stop : stop ≤ pos → Going s place end from stop stop value scale
  go_stop h = subst (λ (x : ℕ). Going s place end from stop x value scale) (omega (arith, h, q.inside)) q

  pub go_past : end ≤ pos → refused 1 place ≡ varint s place end from
  go_past k = turn_past q.reads k

  module _ (h : stop ≤ pos) (k : pos < end) where
    tenth : q.left ≡ 1
    tenth = omega (arith, q.count, q.until, q.inside)

    pub go_fits : (b : ℕ) → b ≤ 1 → value + scale * b < 2 ^ 64
    go_fits b l = last_fits q.reads b tenth l

    pub go_tenth : (b : ℕ) → b ≡ byte s pos → 1 < b → refused 2 place ≡ varint s place end from
    go_tenth b e l = turn_tenth q.reads b tenth k e l

    pub go_end : (b : ℕ) → b ≡ byte s pos → b ≤ 1 → pass (record { value = value + scale * b; next = pos + 1; shortest = ltb 0 b }) ≡ varint s place end from
    go_end b e l = turn_last q.reads b (λ z. omega (arith, tenth)) k (inl (tenth, l)) e (omega arith)

-- ---- what was read, from its last byte back: a property of what is read from each byte on

module _ (s : Bytes) (place end : ℕ) (P : (left pos : ℕ) → Varint → Type 0) where
  abbrev pub Last : Type 0
  Last = (left pos : ℕ) → suc left ≤ 10 → pos < end → byte s pos < 128
      → P (suc left) pos (record { value = byte s pos; next = pos + 1; shortest = eqb left 9 || ltb 0 (byte s pos) })

  abbrev pub More : Type 0
  More = (left pos : ℕ) (high : Varint) → suc left ≤ 10 → pos < end → 128 ≤ byte s pos
      → P left (pos + 1) high
      → P (suc left) pos (record { value = byte s pos % 128 + 128 * high.value; next = high.next; shortest = high.shortest })

  pub varint_each : Last → More → (left pos : ℕ) (v : Varint) → left ≤ 10 → varint_from s left place end pos ≡ pass v → P left pos v
  unfolding varint_from
  varint_each last more zero pos v l e = absurd (fail_no_pass _ v e)
  varint_each last more (suc left) pos v l e =
      let a = passed_seq (refuse 1 at: place when: leb end pos) _ v e in
      let h = nleb→lt end pos (passed_rule 1 place (leb end pos) a.0) in
      go (ltb (byte s pos) 128) refl (passed_seq _ _ v a.1).1 h (λ high m. varint_each last more left (pos + 1) high (omega arith) m)
    where
      go : (c : Bool) → ltb (byte s pos) 128 ≡ c
          → ◌≡◌ {A = Judged Varint} (elim c [
            | true ↦ pass (record { value = byte s pos; next = pos + 1; shortest = eqb left 9 || ltb 0 (byte s pos) })
            | false ↦ varint_from s left place end (pos + 1)
                >>= λ high. pass (record { value = byte s pos % 128 + 128 * high.value; next = high.next; shortest = high.shortest })
          ]) (pass v)
          → pos < end
          → ((high : Varint) → varint_from s left place end (pos + 1) ≡ pass high → P left (pos + 1) high)
          → P (suc left) pos v
      go true k p h ih = subst (P (suc left) pos) (pass_same _ v p) (last left pos l h (leb→le (suc (byte s pos)) 128 (true_T _ k)))
      go false k p h ih =
          let q = passed_bind (varint_from s left place end (pos + 1)) _ v p in
          subst (P (suc left) pos) (pass_same _ v q.2) (more left pos q.0 l h (nltb→le (byte s pos) 128 (rw k tt)) (ih q.0 q.1))
