-- Well-formed UTF-8, from RFC 3629: its section 4 says which bytes are well-formed, its section 3 how a character is encoded.
-- Scalar value, tail and the names UTF8-1 to UTF8-4 are the RFC's terms.
use Rattle.std.specs.Prelude.{ℕ, zero, suc, ◌+◌, ◌-◌, ◌/◌, ◌%◌, ◌≡◌, refl, ◌↔◌, Bool, true, false, ◌&&◌, ◌||◌, length, take, replicate, T, leb}
use Prim.Native.String.{String}
use mathlib.Core.List.{List, [], ◌∷◌, ◌++◌, map, flat_map}
use Rattle.std.proofs.Math.Option.{Option, none, some}
use Rattle.varint.specs.Lists.{within, Lists-computes}
use Rattle.varint.specs.Bytes.{Bytes}
use Rattle.varint.specs.Notation.{hex, Notation-computes}

-- ---- section 4, "Syntax of UTF-8 Byte Sequences"

-- What the first byte of a character announces: how many tails, and the range of the first of them. Any further one is a
-- UTF8-tail, %x80-BF.
pub record Ahead : Type 0 where
  pub tails : ℕ
  pub lo : ℕ
  pub hi : ℕ

unfoldable pub ahead : (tails lo hi : ℕ) → Ahead
ahead tails lo hi = record { tails = tails; lo = lo; hi = hi }

-- The first byte from, to, and what it announces.
unfoldable pub leads : List (ℕ × ℕ × Ahead)
leads =
    (0x00, 0x7F, ahead 0 0x80 0xBF)  -- UTF8-1 = %x00-7F
    ∷ (0xC2, 0xDF, ahead 1 0x80 0xBF)  -- UTF8-2 = %xC2-DF UTF8-tail
    ∷ (0xE0, 0xE0, ahead 2 0xA0 0xBF)  -- UTF8-3 = %xE0 %xA0-BF UTF8-tail /
    ∷ (0xE1, 0xEC, ahead 2 0x80 0xBF)  --          %xE1-EC 2( UTF8-tail ) /
    ∷ (0xED, 0xED, ahead 2 0x80 0x9F)  --          %xED %x80-9F UTF8-tail /
    ∷ (0xEE, 0xEF, ahead 2 0x80 0xBF)  --          %xEE-EF 2( UTF8-tail )
    ∷ (0xF0, 0xF0, ahead 3 0x90 0xBF)  -- UTF8-4 = %xF0 %x90-BF 2( UTF8-tail ) /
    ∷ (0xF1, 0xF3, ahead 3 0x80 0xBF)  --          %xF1-F3 3( UTF8-tail ) /
    ∷ (0xF4, 0xF4, ahead 3 0x80 0x8F)  --          %xF4 %x80-8F 2( UTF8-tail )
    ∷ []

unfoldable pub announced : ℕ → List (ℕ × ℕ × Ahead) → Option Ahead
announced b [] = none
announced b (row ∷ more) = elim (within row.0 row.1 b) [ true ↦ some row.2 | false ↦ announced b more ]

-- UTF8-octets = *( UTF8-char ), byte by byte: so many tails are still to come, the next of them from `lo` to `hi`.
unfoldable pub octets : (tails lo hi : ℕ) → Bytes → Bool
octets zero lo hi [] = true
octets zero lo hi (b ∷ more) = elim (announced b leads) [ none ↦ false | some a ↦ octets a.tails a.lo a.hi more ]
octets (suc tails) lo hi [] = false
octets (suc tails) lo hi (b ∷ more) = within lo hi b && octets tails 0x80 0xBF more

unfoldable pub well_formed : Bytes → Bool
well_formed s = octets 0 0x80 0xBF s

-- ---- section 3, "UTF-8 definition"

-- The characters "U+0000..U+10FFFF", without "U+D800 and U+DFFF" and what lies between.
unfoldable pub scalar : ℕ → Bool
scalar c = leb c 0xD7FF || within 0xE000 0x10FFFF c

unfoldable pub scalars : List ℕ → Bool
scalars [] = true
scalars (c ∷ more) = scalar c && scalars more

-- 10xxxxxx, with the lowest six bits
unfoldable pub tail : ℕ → ℕ
tail c = 0x80 + c % 0x40

unfoldable pub encode : ℕ → Bytes
encode c = elim (leb c 0x7F) [
  -- 0xxxxxxx
  | true ↦ c ∷ []
  | false ↦ elim (leb c 0x7FF) [
    -- 110xxxxx 10xxxxxx
    | true ↦ (0xC0 + c / 0x40) ∷ tail c ∷ []
    | false ↦ elim (leb c 0xFFFF) [
      -- 1110xxxx 10xxxxxx 10xxxxxx
      | true ↦ (0xE0 + c / 0x1000) ∷ tail (c / 0x40) ∷ tail c ∷ []
      -- 11110xxx 10xxxxxx 10xxxxxx 10xxxxxx
      | false ↦ (0xF0 + c / 0x40000) ∷ tail (c / 0x1000) ∷ tail (c / 0x40) ∷ tail c ∷ []
    ]
  ]
]

-- The two sections say the same. Proved in proofs/Utf8Laws.antt.
unfoldable pub Utf8True : Type 0
Utf8True = (s : Bytes) → (well_formed s ≡ true) ↔ ((cs : List ℕ) × T (scalars cs) × (s ≡ flat_map encode cs))

-- This file and what it is built on, for whoever computes with it.
unfoldable pub Utf8-computes : Unit {0}
unfolding Lists-computes ahead leads announced octets well_formed scalar scalars tail encode
Utf8-computes = tt

-- ---- samples, at both sides of every boundary

strings : List (String × Bool)
strings =
    ("", true)
    ∷ ("00", true)
    ∷ ("7F", true)
    ∷ ("80", false)
    ∷ ("BF", false)
    -- UTF8-2
    ∷ ("C1 BF", false)
    ∷ ("C2 80", true)
    ∷ ("C2 7F", false)
    ∷ ("C2 C0", false)
    ∷ ("DF BF", true)
    ∷ ("DF", false)
    ∷ ("C2 80 80", false)
    -- UTF8-3
    ∷ ("E0 9F BF", false)
    ∷ ("E0 A0 80", true)
    ∷ ("E0 BF BF", true)
    ∷ ("E0 C0 80", false)
    ∷ ("E1 7F 80", false)
    ∷ ("E1 80 80", true)
    ∷ ("E1 80", false)
    ∷ ("E1 80 7F", false)
    ∷ ("E1 80 C0", false)
    ∷ ("EC BF BF", true)
    ∷ ("EC C0 80", false)
    ∷ ("ED 7F BF", false)
    ∷ ("ED 80 80", true)
    ∷ ("ED 9F BF", true)
    ∷ ("ED A0 80", false)
    ∷ ("EE 7F 80", false)
    ∷ ("EE 80 80", true)
    ∷ ("EF BF BF", true)
    ∷ ("EF C0 80", false)
    -- UTF8-4
    ∷ ("F0 8F BF BF", false)
    ∷ ("F0 90 80 80", true)
    ∷ ("F0 BF BF BF", true)
    ∷ ("F0 C0 80 80", false)
    ∷ ("F1 7F 80 80", false)
    ∷ ("F1 80 80 80", true)
    ∷ ("F1 80 80", false)
    ∷ ("F1 80 7F 80", false)
    ∷ ("F1 80 C0 80", false)
    ∷ ("F1 80 80 7F", false)
    ∷ ("F1 80 80 C0", false)
    ∷ ("F3 BF BF BF", true)
    ∷ ("F3 C0 80 80", false)
    ∷ ("F4 7F 80 80", false)
    ∷ ("F4 80 80 80", true)
    ∷ ("F4 8F BF BF", true)
    ∷ ("F4 90 80 80", false)
    ∷ ("F5 80 80 80", false)
    ∷ ("FF", false)
    -- section 7, "Examples": U+0041 U+2262 U+0391 U+002E; the Korean and the Japanese word; U+FEFF U+233B4
    ∷ ("41 E2 89 A2 CE 91 2E", true)
    ∷ ("ED 95 9C EA B5 AD EC 96 B4", true)
    ∷ ("E6 97 A5 E6 9C AC E8 AA 9E", true)
    ∷ ("EF BB BF F0 A3 8E B4", true)
    ∷ []

strings_hold : map (λ s. well_formed (hex s.0)) strings ≡ map (λ s. s.1) strings
unfolding strings Notation-computes Utf8-computes
strings_hold = refl

-- Every first byte of two and more: how many from which on, and tails that fit.
firsts : List (ℕ × ℕ × String)
firsts =
    (30, 0xC2, "80")
    ∷ (1, 0xE0, "A0 80")
    ∷ (12, 0xE1, "80 80")
    ∷ (1, 0xED, "80 80")
    ∷ (2, 0xEE, "80 80")
    ∷ (1, 0xF0, "90 80 80")
    ∷ (3, 0xF1, "80 80 80")
    ∷ (1, 0xF4, "80 80 80")
    ∷ []

from : (count b : ℕ) → List ℕ
from zero b = []
from (suc count) b = b ∷ from count (b + 1)

-- With its tails, with one too few, and with one too many.
tried : (tails : Bytes) → ℕ → Bool × Bool × Bool
tried tails b = (well_formed (b ∷ tails), well_formed (b ∷ take (length tails - 1) tails), well_formed (b ∷ tails ++ (0x80 ∷ [])))

firsts_hold : flat_map (λ f. map (tried (hex f.2)) (from f.0 f.1)) firsts ≡ replicate 51 (true, false, false)
unfolding firsts from tried flat_map Notation-computes Utf8-computes
firsts_hold = refl

-- The others begin no character, whatever follows: the tails, C0 and C1, and F5 to FF.
others_hold : map (λ b. well_formed (b ∷ hex "80 80 80")) (from 66 0x80 ++ from 11 0xF5) ≡ replicate 77 false
unfolding from Notation-computes Utf8-computes
others_hold = refl

-- The ends of each range of characters, and the examples again.
characters : List (List ℕ × String)
characters =
    (0x0 ∷ [], "00")
    ∷ (0x7F ∷ [], "7F")
    ∷ (0x80 ∷ [], "C2 80")
    ∷ (0x7FF ∷ [], "DF BF")
    ∷ (0x800 ∷ [], "E0 A0 80")
    ∷ (0xD7FF ∷ [], "ED 9F BF")
    ∷ (0xE000 ∷ [], "EE 80 80")
    ∷ (0xFFFF ∷ [], "EF BF BF")
    ∷ (0x10000 ∷ [], "F0 90 80 80")
    ∷ (0x10FFFF ∷ [], "F4 8F BF BF")
    ∷ (0x41 ∷ 0x2262 ∷ 0x391 ∷ 0x2E ∷ [], "41 E2 89 A2 CE 91 2E")
    ∷ (0xD55C ∷ 0xAD6D ∷ 0xC5B4 ∷ [], "ED 95 9C EA B5 AD EC 96 B4")
    ∷ (0x65E5 ∷ 0x672C ∷ 0x8A9E ∷ [], "E6 97 A5 E6 9C AC E8 AA 9E")
    ∷ (0xFEFF ∷ 0x233B4 ∷ [], "EF BB BF F0 A3 8E B4")
    ∷ []

characters_hold : map (λ s. flat_map encode s.0) characters ≡ map (λ s. hex s.1) characters
unfolding characters flat_map Notation-computes Utf8-computes
characters_hold = refl

ends : List (ℕ × Bool)
ends = (0x0, true) ∷ (0xD7FF, true) ∷ (0xD800, false) ∷ (0xDFFF, false) ∷ (0xE000, true) ∷ (0x10FFFF, true) ∷ (0x110000, false) ∷ []

ends_hold : map (λ s. scalar s.0) ends ≡ map (λ s. s.1) ends
unfolding ends Utf8-computes
ends_hold = refl
