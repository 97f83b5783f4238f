-- The table of rows as code looks it up: by a number that is one of a message's, or none of them.
use Prim.Native.Nat.{ℕ}
use Prim.Native.String.{String}
use mathlib.Core.Path.{◌≡◌, refl, sym, ap}
use mathlib.Core.List.{List, [], ◌∷◌}
use lib.Dec.{T, not_T, eqb}
use Rattle.varint.specs.Lists.{contains}
use Rattle.varint.proofs.Lists.{or_left, or_right, T_false, subset, contains_subset, NoneOf, none_contained}
use Rattle.schema.specs.declared.Kind.{Kind}
use Rattle.schema.specs.declared.Row.{Row}
use Rattle.schema.specs.declared.Row.TheVariants.{Unknown}
use Rattle.schema.specs.Rows.{rows, row_in, row_of}

pub row_at : (k : Kind) (m : ℕ) {n : ℕ} → n ≡ m → row_of k m ≡ row_of k n
row_at k m e = ap (row_of k) (sym e)

-- the field numbers of a table
unfoldable pub numbers : List (ℕ × String × Row) → List ℕ
numbers [] = []
numbers (e ∷ more) = e.0 ∷ numbers more

row_missing : (n : ℕ) (l : List (ℕ × String × Row)) → (T (contains n (numbers l)) → ⊥) → Unknown ≡ row_in n l
unfolding numbers contains row_in
row_missing n [] h = refl
row_missing n (e ∷ l) h =
    rw (T_false (eqb n e.0) (not_T (eqb n e.0) (λ t. h (or_left (eqb n e.0) (contains n (numbers l)) t))), row_in)
    (row_missing n l (λ t. h (or_right (eqb n e.0) (contains n (numbers l)) t)))

-- one computed test says that a message has no other numbers than these
pub row_unknown : (k : Kind) (l : List ℕ) (n : ℕ) → T (subset (numbers (rows k)) l) → NoneOf n l → Unknown ≡ row_of k n
unfolding row_of
row_unknown k l n s h = row_missing n (rows k) (λ t. none_contained n l h (contains_subset (numbers (rows k)) l n s t))
