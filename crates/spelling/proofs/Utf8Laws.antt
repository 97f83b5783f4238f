-- RFC 3629 against itself: what its syntax takes is what its encoding of scalar values gives.
use Prim.Native.Nat.{ℕ, zero, suc, ◌+◌, ◌-◌, ◌*◌, ◌/◌, ◌%◌, ◌≤◌, ◌<◌}
use native.Mathlib.Omega.{arith}
use mathlib.Core.Path.{◌≡◌, refl, sym, ap, ap₂, ◌∙◌}
use mathlib.Core.Logic.{◌⊎◌, inl, inr}
use mathlib.Core.Bool.{Bool, true, false, ◌&&◌, true≢false}
use mathlib.Core.List.{List, [], ◌∷◌, ◌++◌, flat_map}
use mathlib.Core.Option.{none, some}
use lib.ListN.{length}
use lib.Dec.{T}
use Rattle.varint.specs.Lists.{within}
use Rattle.varint.specs.Bytes.{Bytes}
use Rattle.varint.proofs.Lists.{T_true, true_T}
use Rattle.spelling.specs.Utf8.{ahead, leads, announced, octets, well_formed, scalar, scalars, tail, encode, Utf8True}
use Rattle.spelling.proofs.Utf8Rows.{split, and_both, within_out, scalar_low, scalar_high, scalar_out, encode_1, encode_2, encode_3}
use Rattle.spelling.proofs.Utf8Rows.{encode_4, lead_row, row_of, tail_in, lead_in, ascii_in}

-- ---- from characters to bytes

tail_range : (c : ℕ) → (0x80 ≤ tail c) × (tail c ≤ 0xBF)
unfolding tail
tail_range c = (omega arith, omega arith)

abbrev lead_3 : ℕ → ℕ
lead_3 c = 0xE0 + c / 0x1000

abbrev lead_4 : ℕ → ℕ
lead_4 c = 0xF0 + c / 0x40000

-- a character of two, three or four bytes, by its row
module _ (rest : Bytes) where
  two_in : (b t lo hi : ℕ) → some (ahead 1 lo hi) ≡ announced b leads → lo ≤ t → t ≤ hi → octets 0 0x80 0xBF (b ∷ t ∷ rest) ≡ octets 0 0x80 0xBF rest
  two_in b t lo hi e h k = lead_in b 1 lo hi (t ∷ rest) e ∙ tail_in 0 lo hi t rest h k

  three_in : (b t c lo hi : ℕ) → some (ahead 2 lo hi) ≡ announced b leads → lo ≤ t → t ≤ hi
      → octets 0 0x80 0xBF (b ∷ t ∷ tail c ∷ rest) ≡ octets 0 0x80 0xBF rest
  three_in b t c lo hi e h k =
      lead_in b 2 lo hi (t ∷ tail c ∷ rest) e ∙ tail_in 1 lo hi t (tail c ∷ rest) h k
      ∙ tail_in 0 0x80 0xBF (tail c) rest (tail_range c).0 (tail_range c).1

  four_in : (b t d c lo hi : ℕ) → some (ahead 3 lo hi) ≡ announced b leads → lo ≤ t → t ≤ hi
      → octets 0 0x80 0xBF (b ∷ t ∷ tail d ∷ tail c ∷ rest) ≡ octets 0 0x80 0xBF rest
  four_in b t d c lo hi e h k =
      lead_in b 3 lo hi (t ∷ tail d ∷ tail c ∷ rest) e ∙ tail_in 2 lo hi t (tail d ∷ tail c ∷ rest) h k
      ∙ tail_in 1 0x80 0xBF (tail d) (tail c ∷ rest) (tail_range d).0 (tail_range d).1
      ∙ tail_in 0 0x80 0xBF (tail c) rest (tail_range c).0 (tail_range c).1

  in_2 : (c : ℕ) → 0x7F < c → c ≤ 0x7FF → octets 0 0x80 0xBF (encode c ++ rest) ≡ octets 0 0x80 0xBF rest
  unfolding leads ahead tail
  in_2 c h k = rw (encode_2 c h k) (two_in (0xC0 + c / 0x40) (tail c) 0x80 0xBF
      (lead_row (0xC0 + c / 0x40) 1 (0xC2, 0xDF, ahead 1 0x80 0xBF) (omega arith)) (omega arith) (omega arith))

  in_3 : (c : ℕ) → 0x7FF < c → c ≤ 0xFFFF → (c ≤ 0xD7FF) ⊎ ((0xE000 ≤ c) × (c ≤ 0x10FFFF)) → octets 0 0x80 0xBF (encode c ++ rest) ≡ octets 0 0x80 0xBF rest
  unfolding leads ahead tail
  in_3 c h k s = rw (encode_3 c h k) (go (split c 0xFFF) (split c 0xCFFF) s)
    where
      go : (c ≤ 0xFFF) ⊎ (0xFFF < c) → (c ≤ 0xCFFF) ⊎ (0xCFFF < c) → (c ≤ 0xD7FF) ⊎ ((0xE000 ≤ c) × (c ≤ 0x10FFFF))
          → octets 0 0x80 0xBF (lead_3 c ∷ tail (c / 0x40) ∷ tail c ∷ rest) ≡ octets 0 0x80 0xBF rest
      go (inl l) m n =
          three_in (lead_3 c) (tail (c / 0x40)) c 0xA0 0xBF (lead_row (lead_3 c) 2 (0xE0, 0xE0, ahead 2 0xA0 0xBF) (omega arith)) (omega arith) (omega arith)
      go (inr l) (inl m) n =
          three_in (lead_3 c) (tail (c / 0x40)) c 0x80 0xBF (lead_row (lead_3 c) 3 (0xE1, 0xEC, ahead 2 0x80 0xBF) (omega arith)) (omega arith) (omega arith)
      go (inr l) (inr m) (inl n) =
          three_in (lead_3 c) (tail (c / 0x40)) c 0x80 0x9F (lead_row (lead_3 c) 4 (0xED, 0xED, ahead 2 0x80 0x9F) (omega arith)) (omega arith) (omega arith)
      go (inr l) (inr m) (inr n) =
          three_in (lead_3 c) (tail (c / 0x40)) c 0x80 0xBF (lead_row (lead_3 c) 5 (0xEE, 0xEF, ahead 2 0x80 0xBF) (omega arith)) (omega arith) (omega arith)

  in_4 : (c : ℕ) → 0xFFFF < c → c ≤ 0x10FFFF → octets 0 0x80 0xBF (encode c ++ rest) ≡ octets 0 0x80 0xBF rest
  unfolding leads ahead tail
  in_4 c h k = rw (encode_4 c h) (go (split c 0x3FFFF) (split c 0xFFFFF))
    where
      go : (c ≤ 0x3FFFF) ⊎ (0x3FFFF < c) → (c ≤ 0xFFFFF) ⊎ (0xFFFFF < c)
          → octets 0 0x80 0xBF (lead_4 c ∷ tail (c / 0x1000) ∷ tail (c / 0x40) ∷ tail c ∷ rest) ≡ octets 0 0x80 0xBF rest
      go (inl l) m =
          four_in (lead_4 c) (tail (c / 0x1000)) (c / 0x40) c 0x90 0xBF
          (lead_row (lead_4 c) 6 (0xF0, 0xF0, ahead 3 0x90 0xBF) (omega arith)) (omega arith) (omega arith)
      go (inr l) (inl m) =
          four_in (lead_4 c) (tail (c / 0x1000)) (c / 0x40) c 0x80 0xBF
          (lead_row (lead_4 c) 7 (0xF1, 0xF3, ahead 3 0x80 0xBF) (omega arith)) (omega arith) (omega arith)
      go (inr l) (inr m) =
          four_in (lead_4 c) (tail (c / 0x1000)) (c / 0x40) c 0x80 0x8F
          (lead_row (lead_4 c) 8 (0xF4, 0xF4, ahead 3 0x80 0x8F) (omega arith)) (omega arith) (omega arith)

  in_1 : (c : ℕ) → c ≤ 0x7F → octets 0 0x80 0xBF (encode c ++ rest) ≡ octets 0 0x80 0xBF rest
  in_1 c h = rw (encode_1 c h) (ascii_in c rest h)

  character_in : (c : ℕ) → T (scalar c) → octets 0 0x80 0xBF (encode c ++ rest) ≡ octets 0 0x80 0xBF rest
  character_in c t = go (split c 0x7F) (split c 0x7FF) (split c 0xFFFF) (scalar_out c t)
    where
      go : (c ≤ 0x7F) ⊎ (0x7F < c) → (c ≤ 0x7FF) ⊎ (0x7FF < c) → (c ≤ 0xFFFF) ⊎ (0xFFFF < c) → (c ≤ 0xD7FF) ⊎ ((0xE000 ≤ c) × (c ≤ 0x10FFFF))
          → octets 0 0x80 0xBF (encode c ++ rest) ≡ octets 0 0x80 0xBF rest
      go (inl h) k l s = in_1 c h
      go (inr h) (inl k) l s = in_2 c h k
      go (inr h) (inr k) (inl l) s = in_3 c k l s
      go (inr h) (inr k) (inr l) (inl s) = absurd (omega arith)
      go (inr h) (inr k) (inr l) (inr s) = in_4 c l s.1

characters_in : (cs : List ℕ) → T (scalars cs) → octets 0 0x80 0xBF (flat_map encode cs) ≡ true
unfolding scalars octets flat_map
characters_in [] t = refl
characters_in (c ∷ cs) t =
    let p = and_both (scalar c) (scalars cs) (T_true (scalar c && scalars cs) t) in
    character_in (flat_map encode cs) c (true_T (scalar c) p.0) ∙ characters_in cs (true_T (scalars cs) p.1)

-- ---- from bytes to characters

-- the string is put together from characters
abbrev Characters : Bytes → Type 0
Characters s = (cs : List ℕ) × T (scalars cs) × (s ≡ flat_map encode cs)

one_more : (c : ℕ) (front rest : Bytes) → encode c ≡ front → T (scalar c) → Characters rest → Characters (front ++ rest)
unfolding scalars flat_map
one_more c front rest e t h = (c ∷ h.0, go (scalar c) t h.1, ap₂ (λ (x y : Bytes). x ++ y) (sym e) h.2)
  where
    go : (a : Bool) → T a → T (scalars h.0) → T (a && scalars h.0)
    go true t u = u
    go false t u = elim t [ ]

-- the next byte is the tail that is due, and the rest is as it should be
record Tail (tails lo hi : ℕ) (s : Bytes) : Type 0 where
  t : ℕ
  rest : Bytes
  is : s ≡ t ∷ rest
  above : lo ≤ t
  below : t ≤ hi
  more : octets tails 0x80 0xBF rest ≡ true

tail_out : (tails lo hi : ℕ) (s : Bytes) → octets (suc tails) lo hi s ≡ true → Tail tails lo hi s
unfolding octets
tail_out tails lo hi [] e = absurd (true≢false (sym e))
tail_out tails lo hi (t ∷ rest) e =
    let p = and_both (within lo hi t) (octets tails 0x80 0xBF rest) e in
    let h = within_out lo hi t p.0 in
    record { t = t; rest = rest; is = refl; above = h.0; below = h.1; more = p.1 }

-- how the bytes of one character are put together
two_bytes : (b t : ℕ) → 0xC2 ≤ b → b ≤ 0xDF → 0x80 ≤ t → t ≤ 0xBF → encode ((b - 0xC0) * 0x40 + (t - 0x80)) ≡ b ∷ t ∷ []
unfolding tail
two_bytes b t h k l m =
    let e₁ : 0xC0 + ((b - 0xC0) * 0x40 + (t - 0x80)) / 0x40 ≡ b = omega arith in
    let e₂ : 0x80 + ((b - 0xC0) * 0x40 + (t - 0x80)) % 0x40 ≡ t = omega arith in
    encode_2 ((b - 0xC0) * 0x40 + (t - 0x80)) (omega arith) (omega arith) ∙ ap₂ (λ (x y : ℕ). x ∷ y ∷ []) e₁ e₂

module _ (b t u : ℕ) where
  of_three : ℕ
  of_three = (b - 0xE0) * 0x1000 + (t - 0x80) * 0x40 + (u - 0x80)

  three_bytes : 0xE0 ≤ b → b ≤ 0xEF → 0x80 ≤ t → t ≤ 0xBF → 0x80 ≤ u → u ≤ 0xBF → 0x7FF < of_three → encode of_three ≡ b ∷ t ∷ u ∷ []
  unfolding tail of_three
  three_bytes h k l m n o q =
      let e₁ : 0xE0 + of_three / 0x1000 ≡ b = omega arith in
      let e₂ : 0x80 + (of_three / 0x40) % 0x40 ≡ t = omega arith in
      let e₃ : 0x80 + of_three % 0x40 ≡ u = omega arith in
      encode_3 of_three q (omega arith) ∙ ap₂ (λ (x y : ℕ). x ∷ y ∷ tail of_three ∷ []) e₁ e₂ ∙ ap (λ (z : ℕ). b ∷ t ∷ z ∷ []) e₃

  module _ (v : ℕ) where
    of_four : ℕ
    of_four = (b - 0xF0) * 0x40000 + (t - 0x80) * 0x1000 + (u - 0x80) * 0x40 + (v - 0x80)

    four_bytes : 0xF0 ≤ b → b ≤ 0xF4 → 0x80 ≤ t → t ≤ 0xBF → 0x80 ≤ u → u ≤ 0xBF → 0x80 ≤ v → v ≤ 0xBF → 0xFFFF < of_four → encode of_four ≡ b ∷ t ∷ u ∷ v ∷ []
    unfolding tail of_four
    four_bytes h k l m n o p p' q =
        let e₁ : 0xF0 + of_four / 0x40000 ≡ b = omega arith in
        let e₂ : 0x80 + (of_four / 0x1000) % 0x40 ≡ t = omega arith in
        let e₃ : 0x80 + (of_four / 0x40) % 0x40 ≡ u = omega arith in
        let e₄ : 0x80 + of_four % 0x40 ≡ v = omega arith in
        encode_4 of_four q ∙ ap₂ (λ (x y : ℕ). x ∷ y ∷ tail (of_four / 0x40) ∷ tail of_four ∷ []) e₁ e₂ ∙ ap₂ (λ (x y : ℕ). b ∷ t ∷ x ∷ y ∷ []) e₃ e₄

-- `again` finds the characters of shorter strings
module _ (n : ℕ) (again : (s : Bytes) → length s ≤ n → octets 0 0x80 0xBF s ≡ true → Characters s) (b : ℕ) (s : Bytes) (short : length s ≤ n) where
  out_1 : b ≤ 0x7F → octets 0 0x80 0xBF s ≡ true → Characters (b ∷ s)
  out_1 h e = one_more b (b ∷ []) s (encode_1 b h) (scalar_low b (omega arith)) (again s short e)

  out_2 : 0xC2 ≤ b → b ≤ 0xDF → octets 1 0x80 0xBF s ≡ true → Characters (b ∷ s)
  out_2 h k e =
      let q = tail_out 0 0x80 0xBF s e in
      let l : length s ≡ suc (length q.rest) = ap (λ (x : Bytes). length x) q.is in
      rw q.is (one_more ((b - 0xC0) * 0x40 + (q.t - 0x80)) (b ∷ q.t ∷ []) q.rest (two_bytes b q.t h k q.above q.below)
      (scalar_low _ (omega (arith, q.below))) (again q.rest (omega arith) q.more))

  out_3 : (lo hi : ℕ) → (0xE0 ≤ b) × (b ≤ 0xEF) × (0x80 ≤ lo) × (hi ≤ 0xBF)
      → ((t u : ℕ) → lo ≤ t → t ≤ hi → 0x80 ≤ u → u ≤ 0xBF → (0x7FF < of_three b t u) × T (scalar (of_three b t u)))
      → octets 2 lo hi s ≡ true → Characters (b ∷ s)
  out_3 lo hi (h, k, i, j) f e =
      let q = tail_out 1 lo hi s e in
      let p = tail_out 0 0x80 0xBF q.rest q.more in
      let l : length s ≡ suc (length q.rest) = ap (λ (x : Bytes). length x) q.is in
      let m : length q.rest ≡ suc (length p.rest) = ap (λ (x : Bytes). length x) p.is in
      let g = f q.t p.t q.above q.below p.above p.below in
      rw (q.is, p.is) (one_more (of_three b q.t p.t) (b ∷ q.t ∷ p.t ∷ []) p.rest
      (three_bytes b q.t p.t h k (omega (arith, q.above)) (omega (arith, q.below)) p.above p.below g.0)
      g.1 (again p.rest (omega arith) p.more))

  out_4 : (lo hi : ℕ) → (0xF0 ≤ b) × (b ≤ 0xF4) × (0x80 ≤ lo) × (hi ≤ 0xBF)
      → ((t u v : ℕ) → lo ≤ t → t ≤ hi → 0x80 ≤ u → u ≤ 0xBF → 0x80 ≤ v → v ≤ 0xBF → (0xFFFF < of_four b t u v) × T (scalar (of_four b t u v)))
      → octets 3 lo hi s ≡ true → Characters (b ∷ s)
  out_4 lo hi (h, k, i, j) f e =
      let q = tail_out 2 lo hi s e in
      let p = tail_out 1 0x80 0xBF q.rest q.more in
      let r = tail_out 0 0x80 0xBF p.rest p.more in
      let l : length s ≡ suc (length q.rest) = ap (λ (x : Bytes). length x) q.is in
      let m : length q.rest ≡ suc (length p.rest) = ap (λ (x : Bytes). length x) p.is in
      let o : length p.rest ≡ suc (length r.rest) = ap (λ (x : Bytes). length x) r.is in
      let g = f q.t p.t r.t q.above q.below p.above p.below r.above r.below in
      rw (q.is, p.is, r.is) (one_more (of_four b q.t p.t r.t) (b ∷ q.t ∷ p.t ∷ r.t ∷ []) r.rest
      (four_bytes b q.t p.t r.t h k (omega (arith, q.above)) (omega (arith, q.below)) p.above p.below r.above r.below g.0)
      g.1 (again r.rest (omega arith) r.more))

  -- one case for each row
  character_out : octets 0 0x80 0xBF (b ∷ s) ≡ true → Characters (b ∷ s)
  unfolding octets leads ahead of_three of_four
  character_out = row_of b (λ o. (elim o as (λ _. Bool) [ none ↦ false | some a ↦ octets a.tails a.lo a.hi s ]) ≡ true → Characters (b ∷ s)) leads (
    (λ h k. out_1 k),
    (
      (λ h k. out_2 h k),
      (
        (λ h k. out_3 0xA0 0xBF (omega arith) (λ t u i j l m. (omega arith, scalar_low (of_three b t u) (omega arith)))),
        (
          (λ h k. out_3 0x80 0xBF (omega arith) (λ t u i j l m. (omega arith, scalar_low (of_three b t u) (omega arith)))),
          (
            (λ h k. out_3 0x80 0x9F (omega arith) (λ t u i j l m. (omega arith, scalar_low (of_three b t u) (omega arith)))),
            (
              (λ h k. out_3 0x80 0xBF (omega arith) (λ t u i j l m. (omega arith, scalar_high (of_three b t u) (omega arith) (omega arith)))),
              (
                (λ h k. out_4 0x90 0xBF (omega arith) (λ t u v i j l m n o. (omega arith, scalar_high (of_four b t u v) (omega arith) (omega arith)))),
                (
                  (λ h k. out_4 0x80 0xBF (omega arith) (λ t u v i j l m n o. (omega arith, scalar_high (of_four b t u v) (omega arith) (omega arith)))),
                  (
                    (λ h k. out_4 0x80 0x8F (omega arith) (λ t u v i j l m n o. (omega arith, scalar_high (of_four b t u v) (omega arith) (omega arith)))),
                    tt,
                  ),
                ),
              ),
            ),
          ),
        ),
      ),
    ),
  )
      (λ e. absurd (true≢false (sym e)))

characters_out : (n : ℕ) (s : Bytes) → length s ≤ n → octets 0 0x80 0xBF s ≡ true → Characters s
unfolding scalars flat_map
characters_out zero [] h e = ([], tt, refl)
characters_out zero (b ∷ s) h e = absurd (omega arith)
characters_out (suc n) [] h e = ([], tt, refl)
characters_out (suc n) (b ∷ s) h e = character_out n (λ t k f. characters_out n t k f) b s (omega arith) e

pub utf8_true : Utf8True
unfolding Utf8True well_formed
utf8_true s = ((λ e. characters_out (length s) s (omega arith) e), λ c. ap (λ (x : Bytes). octets 0 0x80 0xBF x) c.2 ∙ characters_in c.0 c.1)
