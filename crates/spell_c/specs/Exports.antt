-- What the exported function answers, in a number that C knows.
use Rattle.std.specs.Prelude.{ℕ, ◌≡◌, refl, List, [], ◌∷◌, map}
use Rattle.std.proofs.Math.Option.{Option, none, some}
use Rattle.varint.specs.Bytes.{Bytes}
use Rattle.varint.specs.Notation.{hex, ascii, Notation-computes}
use Rattle.spelling.specs.Identifier.{Identifier-computes}
use Rattle.spelling.specs.Utf8.{Utf8-computes}
use Rattle.spelling.specs.Spelling.{spelled}

-- A name that is spelled, with 1 where it is odd and 0 where it is not; 2 for none.
unfoldable pub numbered : Option ℕ → ℕ
numbered (some odd) = odd
numbered none = 2

-- ---- samples

names : List (Bytes × ℕ)
names =
    ([], 1)
    ∷ (ascii "_k9", 0)
    ∷ (ascii "9k", 1)
    ∷ (ascii "/k", 1)
    ∷ (hex "6B C3 A9", 1)  -- é behind a letter
    ∷ (hex "6B C3", 2)  -- its first byte alone
    ∷ []

names_hold : map (λ s. numbered (spelled s.0)) names ≡ map (λ s. s.1) names
unfolding names numbered spelled Notation-computes Identifier-computes Utf8-computes
names_hold = refl
