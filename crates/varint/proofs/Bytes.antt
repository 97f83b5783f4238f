-- `same` is equality of byte strings, and `member` is membership.
use Prim.Native.Nat.{ℕ}
use mathlib.Core.Path.{◌≡◌, refl, ap₂}
use mathlib.Core.Logic.{◌↔◌, ◌⊎◌, inl, inr}
use mathlib.Core.Bool.{Bool, true, false, ◌&&◌, ◌||◌}
use mathlib.Core.List.Memᴰ
use mathlib.Core.List.{List, [], ◌∷◌, Memᴰ}
use lib.Dec.{T, eqb, eqb→eq, eqb_refl}
use Rattle.varint.specs.Bytes.{Bytes, same, member}
use Rattle.varint.proofs.Lists.{T_true, or_cases, or_left, or_right}

pub same→eq : (a b : Bytes) → T (same a b) → a ≡ b
unfolding same
same→eq [] [] t = refl
same→eq [] (y ∷ b) t = absurd t
same→eq (x ∷ a) [] t = absurd t
same→eq (x ∷ a) (y ∷ b) t = go (eqb x y) (eqb→eq x y) t (same→eq a b)
  where
    go : (c : Bool) → (T c → x ≡ y) → T (c && same a b) → (T (same a b) → a ≡ b) → ◌≡◌ {A = Bytes} (x ∷ a) (y ∷ b)
    go true e t ih = ap₂ (λ (u : ℕ) (v : Bytes). u ∷ v) (e tt) (ih t)
    go false e t ih = absurd t

pub same_refl : (a : Bytes) → T (same a a)
unfolding same
same_refl [] = tt
same_refl (x ∷ a) = rw (T_true (eqb x x) (eqb_refl x)) (same_refl a)

pub same_exactly : (a b : Bytes) → T (same a b) ↔ (a ≡ b)
same_exactly a b = (same→eq a b, λ e. rw e (same_refl b))

member_from : (x : Bytes) (l : List Bytes) → T (member x l) → Memᴰ x l
unfolding member
member_from x [] t = absurd t
member_from x (y ∷ l) t = go (or_cases (same x y) (member x l) t) (member_from x l)
  where
    go : T (same x y) ⊎ T (member x l) → (T (member x l) → Memᴰ x l) → Memᴰ x (y ∷ l)
    go (inl s) ih = Memᴰ.head (same→eq x y s)
    go (inr m) ih = Memᴰ.tail (ih m)

member_of : (x : Bytes) (l : List Bytes) → Memᴰ x l → T (member x l)
unfolding member
member_of x [] m = absurd (Memᴰ.not-nil m)
member_of x (y ∷ l) m = go (Memᴰ.cases_cons m) (member_of x l)
  where
    go : (x ≡ y) ⊎ Memᴰ x l → (Memᴰ x l → T (member x l)) → T (same x y || member x l)
    go (inl p) ih = or_left (same x y) (member x l) (rw p (same_refl y))
    go (inr k) ih = or_right (same x y) (member x l) (ih k)

pub member_exactly : (x : Bytes) (l : List Bytes) → T (member x l) ↔ Memᴰ x l
member_exactly x l = (member_from x l, member_of x l)
