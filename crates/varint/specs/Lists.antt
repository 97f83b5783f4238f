-- Lists and tables by tests that compute.
use Rattle.std.specs.Prelude.{ℕ, Bool, true, false, ◌&&◌, ◌||◌, List, [], ◌∷◌, leb, eqb}
use Rattle.std.proofs.Math.Option.{Option, none, some}

unfoldable pub is_empty : {A : Type 0} → List A → Bool
is_empty [] = true
is_empty (a ∷ more) = false

unfoldable pub first : {A : Type 0} → List A → Option A
first [] = none
first (a ∷ more) = some a

unfoldable pub present : {A : Type 0} → Option A → Bool
present none = false
present (some a) = true

-- Those that pass the test, in the same order.
unfoldable pub keep : {A : Type 0} → (A → Bool) → List A → List A
keep test [] = []
keep test (a ∷ more) = elim (test a) [ true ↦ a ∷ keep test more | false ↦ keep test more ]

unfoldable pub contains : ℕ → List ℕ → Bool
contains n [] = false
contains n (m ∷ more) = eqb n m || contains n more

-- The entry of a table that stands under a number.
unfoldable pub lookup : {A : Type 0} → ℕ → List (ℕ × A) → Option A
lookup n [] = none
lookup n (e ∷ more) = elim (eqb n e.0) [ true ↦ some e.1 | false ↦ lookup n more ]

unfoldable pub within : (lo hi n : ℕ) → Bool
within lo hi n = leb lo n && leb n hi

-- All of this file, for whoever computes with it.
unfoldable pub Lists-computes : Unit {0}
unfolding is_empty first present keep contains lookup within
Lists-computes = tt
