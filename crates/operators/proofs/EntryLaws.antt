-- The head of a list and the parts of an entry, each at the numbers that the code has read.
use Prim.Native.Nat.{ℕ, ◌+◌, ◌-◌, ◌≤◌, ◌<◌}
use native.Mathlib.Omega.{arith}
use mathlib.Core.Path.{◌≡◌, refl, sym, ap, ◌∙◌}
use mathlib.Core.Bool.{Bool, true, false}
use mathlib.Core.List.{[]}
use lib.ListN.{length}
use lib.Dec.{leb, eqb}
use borrow.Author.Tests.{eq-eqb, ne_eqb, le-leb, lt-leb}
use Rattle.varint.specs.Bytes.{Bytes, byte, part, same}
use Rattle.operators.specs.Operators.{onnx, domain, two, four, headed, after, domain_of, lowest, highest, well_formed}

-- ---- domains; t is the answer of the comparison

module _ (d : Bytes) (t : Bool) (e : t ≡ same d onnx) where
  pub domain_onnx : t ≡ true → [] ≡ domain d
  unfolding domain
  domain_onnx h = rw (sym e ∙ h, domain) refl

  pub domain_other : t ≡ false → d ≡ domain d
  unfolding domain
  domain_other h = rw (sym e ∙ h, domain) refl

module _ (list : Bytes) where
  -- ---- the head

  pub head_short : length list < 5 → false ≡ headed list
  unfolding headed
  head_short h = simp (lt-leb 5 _ h)

  module _ (h : 5 ≤ length list) (n : ℕ) (e : n ≡ four list 0) where
    pub head_count : (n + 4 ≡ length list → ⊥) → false ≡ headed list
    unfolding headed
    head_count k = simp (le-leb 5 _ h, ← e, ne_eqb (n + 4) _ k)

    pub head_version : n + 4 ≡ length list → (b : ℕ) → b ≡ byte list 4 → eqb b 1 ≡ headed list
    unfolding headed
    head_version k b q = simp (le-leb 5 _ h, ← e, eq-eqb (n + 4) _ k, q)

  -- ---- an entry; n is the size of its domain

  module _ (entry n : ℕ) (e : n ≡ two list entry - 8) where
    pub lowest_is : (v : ℕ) → v ≡ four list (entry + 2 + n) → v ≡ lowest list entry
    unfolding lowest
    lowest_is v q = rw (← e) q

    pub highest_is : (v : ℕ) → v ≡ four list (entry + 6 + n) → v ≡ highest list entry
    unfolding highest
    highest_is v q = rw (← e) q

    pub domain_is : (x y : Bytes) → x ≡ part (entry + 2) (entry + 2 + n - (entry + 2)) list → y ≡ domain x → y ≡ domain_of list entry
    unfolding domain_of
    domain_is x y q k = let z : entry + 2 + n - (entry + 2) ≡ two list entry - 8 = omega arith in k ∙ ap domain (q ∙ ap (λ (m : ℕ). part (entry + 2) m list) z)

  -- r is the length of the rest of it, a the place after it, v the lowest version
  module _ (entry r : ℕ) (er : r ≡ two list entry) where
    pub rest_short : r < 8 → false ≡ well_formed list entry
    unfolding well_formed
    rest_short h = simp (← er, lt-leb 8 r h)

    module _ (h : 8 ≤ r) (a : ℕ) (ea : a ≡ after list entry) where
      pub past_end : length list < a → false ≡ well_formed list entry
      unfolding well_formed
      past_end k = simp (← er, le-leb 8 r h, ← ea, lt-leb _ _ k)

      module _ (k : a ≤ length list) (v : ℕ) (ev : v ≡ lowest list entry) where
        pub lowest_zero : v < 1 → false ≡ well_formed list entry
        unfolding well_formed
        lowest_zero l = simp (← er, le-leb 8 r h, ← ea, le-leb _ _ k, ← ev, lt-leb 1 v l)

        pub versions_order : 1 ≤ v → (w : ℕ) → w ≡ highest list entry → leb v w ≡ well_formed list entry
        unfolding well_formed
        versions_order l w e = simp (← er, le-leb 8 r h, ← ea, le-leb _ _ k, ← ev, le-leb 1 v l, ← e)
