-- Scalar values and their encodings, the rows of the RFC's table, and what one byte of a string does.
use Prim.Native.Nat.{ℕ, suc, ◌+◌, ◌/◌, ◌≤◌, ◌<◌}
use native.Mathlib.Omega.{arith}
use mathlib.Core.Path.{◌≡◌, refl, sym, ap, ◌∙◌}
use mathlib.Core.Logic.{◌⊎◌, inl, inr}
use mathlib.Core.Bool.{Bool, true, false, not, ◌&&◌, and-false, true≢false}
use mathlib.Core.List.{List, [], ◌∷◌, ◌++◌}
use mathlib.Core.Option.{Option, none, some}
use lib.ListN.{take, drop}
use lib.Dec.{T, leb, leb→le, nleb→lt}
use borrow.Author.Tests.{le-leb, lt-leb}
use Rattle.varint.specs.Lists.{within}
use Rattle.varint.specs.Bytes.{Bytes}
use Rattle.varint.proofs.Lists.{T_true, true_T, or_cases, or_left, or_right, All}
use Rattle.spelling.specs.Utf8.{Ahead, ahead, leads, announced, octets, scalar, tail, encode}

-- ---- numbers

pub split : (a b : ℕ) → (a ≤ b) ⊎ (b < a)
split a b = go (leb a b) (leb→le a b) (nleb→lt a b)
  where
    go : (t : Bool) → (T t → a ≤ b) → (T (not t) → b < a) → (a ≤ b) ⊎ (b < a)
    go true h k = inl (h tt)
    go false h k = inr (k tt)

pub and_both : (a b : Bool) → (a && b) ≡ true → (a ≡ true) × (b ≡ true)
and_both true b e = (refl, e)
and_both false b e = absurd (true≢false (sym e))

pub within_in : (lo hi n : ℕ) → lo ≤ n → n ≤ hi → within lo hi n ≡ true
unfolding within
within_in lo hi n h k = simp (le-leb lo n h, le-leb n hi k)

pub within_above : (lo hi n : ℕ) → hi < n → within lo hi n ≡ false
unfolding within
within_above lo hi n h = ap (λ (t : Bool). leb lo n && t) (lt-leb n hi h) ∙ and-false (leb lo n)

pub within_below : (lo hi n : ℕ) → n < lo → within lo hi n ≡ false
unfolding within
within_below lo hi n h = ap (λ (t : Bool). t && leb n hi) (lt-leb lo n h)

pub within_out : (lo hi n : ℕ) → within lo hi n ≡ true → (lo ≤ n) × (n ≤ hi)
unfolding within
within_out lo hi n e = let p = and_both (leb lo n) (leb n hi) e in (leb→le lo n (true_T (leb lo n) p.0), leb→le n hi (true_T (leb n hi) p.1))

-- ---- scalar values

pub scalar_low : (c : ℕ) → c ≤ 0xD7FF → T (scalar c)
unfolding scalar
scalar_low c h = or_left (leb c 0xD7FF) (within 0xE000 0x10FFFF c) (true_T (leb c 0xD7FF) (le-leb c 0xD7FF h))

pub scalar_high : (c : ℕ) → 0xE000 ≤ c → c ≤ 0x10FFFF → T (scalar c)
unfolding scalar
scalar_high c h k = or_right (leb c 0xD7FF) (within 0xE000 0x10FFFF c) (true_T (within 0xE000 0x10FFFF c) (within_in 0xE000 0x10FFFF c h k))

pub scalar_out : (c : ℕ) → T (scalar c) → (c ≤ 0xD7FF) ⊎ ((0xE000 ≤ c) × (c ≤ 0x10FFFF))
unfolding scalar
scalar_out c t = go (or_cases (leb c 0xD7FF) (within 0xE000 0x10FFFF c) t)
  where
    go : T (leb c 0xD7FF) ⊎ T (within 0xE000 0x10FFFF c) → (c ≤ 0xD7FF) ⊎ ((0xE000 ≤ c) × (c ≤ 0x10FFFF))
    go (inl h) = inl (leb→le c 0xD7FF h)
    go (inr h) = inr (within_out 0xE000 0x10FFFF c (T_true (within 0xE000 0x10FFFF c) h))

module _ (c : ℕ) where
  pub encode_1 : c ≤ 0x7F → encode c ≡ c ∷ []
  unfolding encode
  encode_1 h = rw (le-leb c 0x7F h, encode) refl

  pub encode_2 : 0x7F < c → c ≤ 0x7FF → encode c ≡ (0xC0 + c / 0x40) ∷ tail c ∷ []
  unfolding encode
  encode_2 h k = rw (lt-leb c 0x7F h, le-leb c 0x7FF k, encode) refl

  pub encode_3 : 0x7FF < c → c ≤ 0xFFFF → encode c ≡ (0xE0 + c / 0x1000) ∷ tail (c / 0x40) ∷ tail c ∷ []
  unfolding encode
  encode_3 h k = rw (lt-leb c 0x7F (omega arith), lt-leb c 0x7FF h, le-leb c 0xFFFF k, encode) refl

  pub encode_4 : 0xFFFF < c → encode c ≡ (0xF0 + c / 0x40000) ∷ tail (c / 0x1000) ∷ tail (c / 0x40) ∷ tail c ∷ []
  unfolding encode
  encode_4 h = rw (lt-leb c 0x7F (omega arith), lt-leb c 0x7FF (omega arith), lt-leb c 0xFFFF h, encode) refl

-- ---- rows

abbrev pub Row : Type 0
Row = ℕ × ℕ × Ahead

-- the row of a byte that lies above the rows before it
row_at : (b : ℕ) (before : List Row) (row : Row) (after : List Row) → All (λ (r : Row). r.1 < b) before → row.0 ≤ b → b ≤ row.1
    → announced b (before ++ (row ∷ after)) ≡ some row.2
unfolding announced
row_at b [] row after q h k =
    ap (λ (t : Bool). elim t as (λ _. Option Ahead) [ true ↦ some row.2 | false ↦ announced b after ]) (within_in row.0 row.1 b h k)
row_at b (r ∷ before) row after q h k =
    ap (λ (t : Bool). elim t as (λ _. Option Ahead) [ true ↦ some r.2 | false ↦ announced b (before ++ (row ∷ after)) ])
    (within_above r.0 r.1 b q.0)
    ∙ row_at b before row after q.1 h k

-- the row of the table that has so many before it
pub lead_row : (b before : ℕ) (row : Row) → All (λ (r : Row). r.1 < b) (take before leads) × (row.0 ≤ b) × (b ≤ row.1)
    → some row.2 ≡ announced b (take before leads ++ (row ∷ drop (suc before) leads))
lead_row b before row h = sym (row_at b (take before leads) row (drop (suc before) leads) h.0 h.1 h.2)

row_none : (b : ℕ) (before after : List Row) → All (λ (r : Row). r.1 < b) before → All (λ (r : Row). b < r.0) after → announced b (before ++ after) ≡ none
unfolding announced
row_none b [] [] q p = refl
row_none b [] (r ∷ after) q p =
    ap (λ (t : Bool). elim t as (λ _. Option Ahead) [ true ↦ some r.2 | false ↦ announced b after ]) (within_below r.0 r.1 b p.0)
    ∙ row_none b [] after tt p.1
row_none b (r ∷ before) after q p =
    ap (λ (t : Bool). elim t as (λ _. Option Ahead) [ true ↦ some r.2 | false ↦ announced b (before ++ after) ]) (within_above r.0 r.1 b q.0)
    ∙ row_none b before after q.1 p

-- a byte between the rows
pub no_row : (b before : ℕ) → All (λ (r : Row). r.1 < b) (take before leads) × All (λ (r : Row). b < r.0) (drop before leads)
    → none ≡ announced b (take before leads ++ drop before leads)
no_row b before h = sym (row_none b (take before leads) (drop before leads) h.0 h.1)

-- what holds in each row, and where there is none
pub row_of : (b : ℕ) (P : Option Ahead → Type 0) (rows : List Row) → All (λ (r : Row). r.0 ≤ b → b ≤ r.1 → P (some r.2)) rows → P none → P (announced b rows)
unfolding announced
row_of b P [] q n = n
row_of b P (r ∷ rows) q n = go (within r.0 r.1 b) refl (row_of b P rows q.1 n)
  where
    go : (t : Bool) → within r.0 r.1 b ≡ t → P (announced b rows) → P (elim t [ true ↦ some r.2 | false ↦ announced b rows ])
    go true e p = let h = within_out r.0 r.1 b e in q.0 h.0 h.1
    go false e p = p

-- ---- one byte of a string

pub tail_in : (tails lo hi t : ℕ) (rest : Bytes) → lo ≤ t → t ≤ hi → octets (suc tails) lo hi (t ∷ rest) ≡ octets tails 0x80 0xBF rest
unfolding octets
tail_in tails lo hi t rest h k = ap (λ (u : Bool). u && octets tails 0x80 0xBF rest) (within_in lo hi t h k)

pub lead_in : (b tails lo hi : ℕ) (rest : Bytes) → some (ahead tails lo hi) ≡ announced b leads → octets 0 0x80 0xBF (b ∷ rest) ≡ octets tails lo hi rest
unfolding octets ahead
lead_in b tails lo hi rest e = sym (ap (λ (o : Option Ahead). elim o as (λ _. Bool) [ none ↦ false | some a ↦ octets a.tails a.lo a.hi rest ]) e)

pub ascii_in : (b : ℕ) (rest : Bytes) → b ≤ 0x7F → octets 0 0x80 0xBF (b ∷ rest) ≡ octets 0 0x80 0xBF rest
unfolding leads ahead
ascii_in b rest h = lead_in b 0 0x80 0xBF rest (lead_row b 0 (0x00, 0x7F, ahead 0 0x80 0xBF) (omega arith))
