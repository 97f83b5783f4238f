-- Laws of Lists.antt, and of tests as facts.
use Prim.Native.Nat.{ℕ}
use mathlib.Core.Path.{◌≡◌, refl, sym, subst, ap, ap₂, ◌∙◌}
use mathlib.Core.Logic.{◌↔◌, ◌⊎◌, inl, inr}
use mathlib.Core.Bool.{Bool, true, false, not, true≢false, ◌&&◌, ◌||◌}
use mathlib.Core.List.Memᴰ
use mathlib.Core.List.{List, [], ◌∷◌, ◌++◌, map, flat_map, append_assoc, Memᴰ}
use mathlib.Core.Option.{Option, none, some}
use lib.Dec.{T, eqb, eqb→eq}
use Rattle.varint.specs.Lists.{is_empty, first, present, keep, contains}

pub T_true : (b : Bool) → T b → b ≡ true
T_true true t = refl
T_true false t = absurd t

pub T_false : (b : Bool) → T (not b) → b ≡ false
T_false true t = absurd t
T_false false t = refl

pub true_T : (b : Bool) → b ≡ true → T b
true_T b e = rw e tt

pub or_cases : (a b : Bool) → T (a || b) → T a ⊎ T b
or_cases true b t = inl tt
or_cases false b t = inr t

pub or_left : (a b : Bool) → T a → T (a || b)
or_left true b t = tt
or_left false b t = absurd t

pub or_right : (a b : Bool) → T b → T (a || b)
or_right true b t = tt
or_right false b t = t

-- ---- a property of each element

pub some_same : {A : Type 0} (a b : A) → ◌≡◌ {A = Option A} (some a) (some b) → a ≡ b
some_same a b e = cc

abbrev pub All : {A : Type 0} → (A → Type 0) → List A → Type 0
All Q [] = Unit {0}
All Q (a ∷ more) = Q a × All Q more

abbrev pub If : {A : Type 0} → (A → Type 0) → Option A → Type 0
If Q none = Unit {0}
If Q (some a) = Q a

pub all_member : {A : Type 0} (Q : A → Type 0) (l : List A) → All Q l → {a : A} → Memᴰ a l → Q a
all_member Q [] h m = absurd (Memᴰ.not-nil m)
all_member Q (b ∷ l) h {a} m = pick (Memᴰ.cases_cons m) (λ k. all_member Q l h.1 k)
  where
    pick : (a ≡ b) ⊎ Memᴰ a l → (Memᴰ a l → Q a) → Q a
    pick (inl e) ih = subst Q (sym e) h.0
    pick (inr k) ih = ih k

pub all_map : {A : Type 0} (Q R : A → Type 0) → ((a : A) → Q a → R a) → (l : List A) → All Q l → All R l
all_map Q R h [] q = tt
all_map Q R h (a ∷ l) q = (h a q.0, all_map Q R h l q.1)

pub all_first : {A : Type 0} (Q : A → Type 0) (l : List A) → All Q l → If Q (first l)
unfolding first
all_first Q [] q = tt
all_first Q (a ∷ l) q = q.0

pub first_here : {A : Type 0} (l : List A) {a : A} → some a ≡ first l → Memᴰ a l
unfolding first present
first_here [] e = absurd (true≢false (ap present e))
first_here (b ∷ l) {a} e = Memᴰ.head (some_same a b e)

-- ---- keep

module _ {A : Type 0} (test : A → Bool) where
  pub all_keep : (Q : A → Type 0) (l : List A) → All Q l → All Q (keep test l)
  unfolding keep
  all_keep Q [] q = tt
  all_keep Q (a ∷ l) q = go (test a) (all_keep Q l q.1)
    where
      go : (b : Bool) → All Q (keep test l) → All Q (elim b [ true ↦ a ∷ keep test l | false ↦ keep test l ])
      go true h = (q.0, h)
      go false h = h

  -- what is kept passes the test
  pub all_kept : (P Q : A → Type 0) → ((a : A) → P a → T (test a) → Q a) → (l : List A) → All P l → All Q (keep test l)
  unfolding keep
  all_kept P Q h [] p = tt
  all_kept P Q h (a ∷ l) p = go (test a) refl (all_kept P Q h l p.1)
    where
      go : (b : Bool) → test a ≡ b → All Q (keep test l) → All Q (elim b [ true ↦ a ∷ keep test l | false ↦ keep test l ])
      go true e q = (h a p.0 (true_T (test a) e), q)
      go false e q = q

  -- what is kept stood there and passes the test
  keep_from : (x : A) (l : List A) → Memᴰ x (keep test l) → Memᴰ x l × T (test x)
  unfolding keep
  keep_from x [] m = absurd (Memᴰ.not-nil m)
  keep_from x (a ∷ l) m = go (test a) refl m (λ k. keep_from x l k)
    where
      later : Memᴰ x l × T (test x) → Memᴰ x (a ∷ l) × T (test x)
      later h = (Memᴰ.tail h.0, h.1)

      go : (b : Bool) → test a ≡ b → Memᴰ x (elim b [ true ↦ a ∷ keep test l | false ↦ keep test l ])
          → (Memᴰ x (keep test l) → Memᴰ x l × T (test x))
          → Memᴰ x (a ∷ l) × T (test x)
      go true e n ih = elim (Memᴰ.cases_cons n) [
        | inl p ↦ (Memᴰ.head p, rw p (true_T (test a) e))
        | inr k ↦ later (ih k)
      ]
      go false e n ih = later (ih n)

  -- and the other way round
  keep_of : (x : A) (l : List A) → Memᴰ x l → T (test x) → Memᴰ x (keep test l)
  unfolding keep
  keep_of x [] m t = absurd (Memᴰ.not-nil m)
  keep_of x (a ∷ l) m t = go (test a) refl (Memᴰ.cases_cons m) (λ k. keep_of x l k t)
    where
      go : (b : Bool) → test a ≡ b → (x ≡ a) ⊎ Memᴰ x l → (Memᴰ x l → Memᴰ x (keep test l)) → Memᴰ x (elim b [ true ↦ a ∷ keep test l | false ↦ keep test l ])
      go true e (inl p) ih = Memᴰ.head p
      go true e (inr k) ih = Memᴰ.tail (ih k)
      go false e (inl p) ih = absurd (rw (ap test p ∙ e) at t)
      go false e (inr k) ih = ih k

  pub keep_exactly : (x : A) (l : List A) → Memᴰ x (keep test l) ↔ (Memᴰ x l × T (test x))
  keep_exactly x l = ((λ m. keep_from x l m), λ h. keep_of x l h.0 h.1)

-- ---- numbers in a list

unfoldable pub subset : List ℕ → List ℕ → Bool
subset [] ys = true
subset (x ∷ xs) ys = contains x ys && subset xs ys

pub contains_subset : (xs ys : List ℕ) (n : ℕ) → T (subset xs ys) → T (contains n xs) → T (contains n ys)
unfolding subset contains
contains_subset [] ys n s t = absurd t
contains_subset (x ∷ xs) ys n s t = go (contains x ys) (subset xs ys) refl refl s (or_cases (eqb n x) (contains n xs) t) (λ u v. contains_subset xs ys n u v)
  where
    go : (b c : Bool) → contains x ys ≡ b → subset xs ys ≡ c → T (b && c) → T (eqb n x) ⊎ T (contains n xs)
        → (T (subset xs ys) → T (contains n xs) → T (contains n ys))
        → T (contains n ys)
    go true true e e' h (inl q) ih = rw (eqb→eq n x q) (true_T (contains x ys) e)
    go true true e e' h (inr q) ih = ih (true_T (subset xs ys) e') q
    go true false e e' h q ih = absurd h
    go false c e e' h q ih = absurd h

-- ---- properties of lists put together

module _ {A B : Type 0} (P : A → Type 0) (Q : B → Type 0) where
  pub all_mapped : (k : A → B) → ((a : A) → P a → Q (k a)) → (l : List A) → All P l → All Q (map k l)
  all_mapped k h [] p = tt
  all_mapped k h (a ∷ l) p = (h a p.0, all_mapped k h l p.1)

pub all_append : {A : Type 0} (Q : A → Type 0) (l m : List A) → All Q l → All Q m → All Q (l ++ m)
all_append Q [] m p q = q
all_append Q (a ∷ l) m p q = (p.0, all_append Q l m p.1 q)

module _ {A B : Type 0} (P : A → Type 0) (Q : B → Type 0) where
  pub all_flat : (k : A → List B) → ((a : A) → P a → All Q (k a)) → (l : List A) → All P l → All Q (flat_map k l)
  unfolding flat_map
  all_flat k h [] p = tt
  all_flat k h (a ∷ l) p = all_append Q (k a) (flat_map k l) (h a p.0) (all_flat k h l p.1)

-- two functions that agree on each element
module _ {A B : Type 0} (P : A → Type 0) (k j : A → List B) (agree : (a : A) → P a → k a ≡ j a) where
  pub flat_agree : (l : List A) → All P l → flat_map k l ≡ flat_map j l
  unfolding flat_map
  flat_agree [] p = refl
  flat_agree (a ∷ l) p = ap₂ (λ (u v : List B). u ++ v) (agree a p.0) (flat_agree l p.1)

flat_append : {A B : Type 0} (k : A → List B) (l m : List A) → flat_map k (l ++ m) ≡ flat_map k l ++ flat_map k m
unfolding flat_map
flat_append k [] m = refl
flat_append k (a ∷ l) m = ap (λ (x : List _). k a ++ x) (flat_append k l m) ∙ sym (append_assoc (k a) (flat_map k l) (flat_map k m))

pub flat_flat : {A B C : Type 0} (k : B → List C) (j : A → List B) (l : List A) → flat_map k (flat_map j l) ≡ flat_map (λ a. flat_map k (j a)) l
unfolding flat_map
flat_flat k j [] = refl
flat_flat k j (a ∷ l) = flat_append k (j a) (flat_map j l) ∙ ap (λ (x : List _). flat_map k (j a) ++ x) (flat_flat k j l)

-- what a `match` says of a number that none of its arms has: the last arm's number stands first
abbrev pub NoneOf : ℕ → List ℕ → Type 0
NoneOf n [] = Unit {0}
NoneOf n (m ∷ more) = NoneOf n more × (n ≡ m → ⊥)

pub none_contained : (n : ℕ) (l : List ℕ) → NoneOf n l → T (contains n l) → ⊥
unfolding contains
none_contained n [] h t = t
none_contained n (m ∷ more) h t = go (or_cases (eqb n m) (contains n more) t) (none_contained n more h.0)
  where
    go : T (eqb n m) ⊎ T (contains n more) → (T (contains n more) → ⊥) → ⊥
    go (inl q) ih = h.1 (eqb→eq n m q)
    go (inr q) ih = ih q

-- alternatives that change places, and one that does not hold
pub or_swap : (a b c : Bool) → (a || (b || c)) ≡ (b || (a || c))
or_swap true true c = refl
or_swap true false c = refl
or_swap false b c = refl

pub or_shift : (a b c : Bool) → (a || (b || c)) ≡ ((b || a) || c)
or_shift true true c = refl
or_shift true false c = refl
or_shift false true c = refl
or_shift false false c = refl

pub or_true : (a : Bool) → (a || true) ≡ true
or_true true = refl
or_true false = refl

pub or_false : (a : Bool) → (a || false) ≡ a
or_false true = refl
or_false false = refl

-- a list is empty where it has no first element
pub no_first : {A : Type 0} (l : List A) → is_empty l ≡ not (present (first l))
unfolding is_empty first present
no_first [] = refl
no_first (a ∷ l) = refl
