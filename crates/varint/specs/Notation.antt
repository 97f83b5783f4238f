-- How samples are written down: bytes in hexadecimal, as document 01 prints them, and names as text. Only samples use this.
use Rattle.std.specs.Prelude.{ℕ, ◌+◌, ◌*◌, ◌-◌, true, false, List, [], ◌∷◌, leb, eqb}
use Prim.Native.Char.{Char, code}
use Prim.Native.String.{String}
use Rattle.varint.specs.Bytes.{Bytes}

-- A digit, `0` to `9` or `A` to `F`.
unfoldable pub digit : Char → ℕ
digit c = elim (leb (code c) 0x39) [ true ↦ code c - 0x30 | false ↦ code c - 0x37 ]

unfoldable pub pair : Char → Char → ℕ
pair a b = 16 * digit a + digit b

-- Bytes of two digits each, with one space between.
unfoldable pub hex : String → Bytes
hex String.[] = []
hex (String.◌∷◌ a String.[]) = []
hex (String.◌∷◌ a (String.◌∷◌ b String.[])) = pair a b ∷ []
hex (String.◌∷◌ a (String.◌∷◌ b (String.◌∷◌ space more))) = pair a b ∷ hex more

-- The bytes of an ASCII text.
unfoldable pub ascii : String → Bytes
ascii String.[] = []
ascii (String.◌∷◌ c more) = code c ∷ ascii more

-- Words with one space between them; an empty word stands between two spaces.
unfoldable pub split : String → Bytes × List Bytes
split String.[] = ([], [])
split (String.◌∷◌ c more) =
    let rest = split more in
    elim (eqb (code c) 0x20) [ true ↦ ([], rest.0 ∷ rest.1) | false ↦ (code c ∷ rest.0, rest.1) ]

unfoldable pub words : String → List Bytes
words String.[] = []
words (String.◌∷◌ c more) = let parts = split (String.◌∷◌ c more) in parts.0 ∷ parts.1

-- All of this file, for whoever computes with it.
unfoldable pub Notation-computes : Unit {0}
unfolding digit pair hex ascii split words
Notation-computes = tt
