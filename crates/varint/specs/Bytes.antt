-- Strings of bytes. Nothing here asks that a byte be below 256: the definitions answer for every list of numbers.
use Rattle.std.specs.Prelude.{ℕ, Bool, true, false, ◌&&◌, ◌||◌, List, [], ◌∷◌, get_or, take, drop, eqb}

abbrev pub Bytes : Type 0
Bytes = List ℕ

-- The byte at a position, 0 past the end.
unfoldable pub byte : Bytes → ℕ → ℕ
byte s pos = get_or s pos 0

-- The `len` bytes from `start` on, or as many of them as there are.
unfoldable pub part : (start len : ℕ) → Bytes → Bytes
part start len s = take len (drop start s)

-- "two names are one when all their bytes agree"
unfoldable pub same : Bytes → Bytes → Bool
same [] [] = true
same [] (b ∷ t) = false
same (a ∷ s) [] = false
same (a ∷ s) (b ∷ t) = eqb a b && same s t

unfoldable pub member : Bytes → List Bytes → Bool
member x [] = false
member x (y ∷ more) = same x y || member x more

-- All of this file, for whoever computes with it.
unfoldable pub Bytes-computes : Unit {0}
unfolding byte part same member
Bytes-computes = tt
