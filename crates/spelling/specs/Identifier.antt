-- Document 01: "A name is a C90 identifier: a letter or underscore, then letters, digits, underscores, ASCII only, keywords
-- allowed".
use Rattle.std.specs.Prelude.{ℕ, Bool, true, false, ◌&&◌, ◌||◌, [], ◌∷◌, eqb}
use Rattle.varint.specs.Lists.{within, Lists-computes}
use Rattle.varint.specs.Bytes.{Bytes}

-- `A` to `Z`, `a` to `z`, or `_`
unfoldable pub is_letter : ℕ → Bool
is_letter b = within 0x41 0x5A b || within 0x61 0x7A b || eqb b 0x5F

-- `0` to `9`
unfoldable pub is_digit : ℕ → Bool
is_digit b = within 0x30 0x39 b

unfoldable pub word : Bytes → Bool
word [] = true
word (b ∷ more) = (is_letter b || is_digit b) && word more

unfoldable pub identifier : Bytes → Bool
identifier [] = false
identifier (b ∷ more) = is_letter b && word more

-- 1 for a name that is not an identifier, and 0 for one that is.
unfoldable pub oddity : Bytes → ℕ
oddity x = elim (identifier x) [ true ↦ 0 | false ↦ 1 ]

-- This file and what it is built on, for whoever computes with it.
unfoldable pub Identifier-computes : Unit {0}
unfolding Lists-computes is_letter is_digit word identifier oddity
Identifier-computes = tt
