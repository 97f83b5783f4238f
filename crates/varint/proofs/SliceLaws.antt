-- Parts of a slice, and two slices compared byte by byte.
use Prim.Native.Nat.{ℕ, zero, suc, ◌+◌, ◌*◌, ◌-◌, ◌/◌, ◌≤◌, ◌<◌, min}
use native.Mathlib.Omega.{arith}
use mathlib.Core.Path.{◌≡◌, refl, sym, ap, ap₂, ◌∙◌}
use mathlib.Core.Bool.{Bool, true, false, true≢false, not, ◌&&◌, and-false}
use mathlib.Core.List.{List, [], ◌∷◌, ◌++◌}
use lib.ListN.{length, take, drop, get_or, length-drop, drop_of_length-le}
use lib.Seq.{take-nil, drop-drop}
use lib.Dec.{T, leb, leb→le, nleb→lt, eqb, eqb_refl}
use Rattle.varint.specs.Bytes.{Bytes, part, same}
use lib.Pointwise.{pointwise, bytes_decides}
use Rattle.std.specs.Simd.{first_chunks}
use Rattle.std.proofs.lemmas.List.{take-append-drop}
use Rattle.varint.proofs.Bytes.{same→eq, same_refl}
use Rattle.varint.proofs.Lists.{T_true}

-- ---- a part that is cut to what there is

take_cut : (n m : ℕ) (l : Bytes) → m ≡ min n (length l) → take m l ≡ take n l
take_cut zero zero l e = refl
take_cut zero (suc m) l e = absurd (omega arith)
take_cut (suc n) zero [] e = refl
take_cut (suc n) zero (x ∷ l) e = absurd (omega arith)
take_cut (suc n) (suc m) [] e = absurd (omega arith)
take_cut (suc n) (suc m) (x ∷ l) e = ap (λ (r : Bytes). x ∷ r) (take_cut n m l (omega arith))

pub part_cut : (s : Bytes) (start end first last : ℕ) → last ≡ min end (length s) → first ≡ min start last → take (last - first) (drop first s) ≡ part start (end - start) s
unfolding part
part_cut s start end first last e f = go (leb start last) (leb→le start last) (nleb→lt start last)
  where
    outside : (b : Bool) → last < start → (T b → end ≤ start) → (T (not b) → start < end) → [] ≡ take (end - start) (drop start s)
    outside true h l m = let k = l tt in let q : end - start ≡ 0 = omega arith in rw q refl
    outside false h l m = let k = m tt in let q : length s ≤ start = omega arith in rw (drop_of_length-le s q) (sym (take-nil (end - start)))

    go : (b : Bool) → (T b → start ≤ last) → (T (not b) → last < start) → take (last - first) (drop first s) ≡ take (end - start) (drop start s)
    go true h k = let l = h tt in let q : first ≡ start = omega arith in rw q (take_cut (end - start) (last - start) (drop start s) (omega (arith, length-drop start s)))
    go false h k = let l = k tt in let q : last - first ≡ 0 = omega arith in rw q (outside (leb end start) l (leb→le end start) (nleb→lt end start))

-- ---- comparing

pub same_length : (x y : Bytes) → (length x ≡ length y → ⊥) → false ≡ same x y
unfolding same
same_length [] [] h = absurd (h refl)
same_length [] (b ∷ y) h = refl
same_length (a ∷ x) [] h = refl
same_length (a ∷ x) (b ∷ y) h = sym (ap (λ (t : Bool). eqb a b && t) (sym (same_length x y (λ e. h (ap suc e)))) ∙ and-false (eqb a b))

-- the library's equality of slices
pub pointwise_same : (x y : Bytes) → pointwise eqb x y ≡ same x y
unfolding same
pointwise_same [] [] = refl
pointwise_same [] (b ∷ y) = refl
pointwise_same (a ∷ x) [] = refl
pointwise_same (a ∷ x) (b ∷ y) = ap (λ (t : Bool). eqb a b && t) (pointwise_same x y)

-- ---- by eights

-- a part that differs, where strings that are one would share it
pub same_unless : {a b p q : Bytes} → (a ≡ b → p ≡ q) → true ≡ not (pointwise eqb p q) → false ≡ same a b
same_unless {a} {b} {p} {q} shared e = go (same a b) (same→eq a b)
  where
    go : (t : Bool) → (T t → a ≡ b) → false ≡ t
    go true h = absurd (true≢false (e ∙ ap not ((bytes_decides p q).1 (shared (h tt)))))
    go false h = refl

-- what `!=` says of two parts where it says no
pub not_unlike : {p q : Bytes} → false ≡ not (pointwise eqb p q) → p ≡ q
not_unlike {p} {q} = go (pointwise eqb p q) (bytes_decides p q).0
  where
    go : (t : Bool) → (t ≡ true → p ≡ q) → false ≡ not t → p ≡ q
    go true h e = h refl
    go false h e = absurd (true≢false (sym e))

same_behind : (p x y : Bytes) → same (p ++ x) (p ++ y) ≡ same x y
unfolding same
same_behind [] x y = refl
same_behind (b ∷ p) x y = rw (T_true (eqb b b) (eqb_refl b)) (same_behind p x y)

-- what lies behind eight bytes that agree decides
same_after : (x y : Bytes) → take 8 x ≡ take 8 y → same (drop 8 x) (drop 8 y) ≡ same x y
same_after x y e =
    sym (same_behind (take 8 x) _ _) ∙ ap₂ same (take-append-drop 8 x) (ap (λ (p : Bytes). p ++ drop 8 y) e ∙ take-append-drop 8 y)

chunk_at : (k i : ℕ) (x : Bytes) → i < k → get_or (first_chunks 8 k x) i [] ≡ take 8 (drop (8 * i) x)
chunk_at zero i x h = absurd (omega arith)
chunk_at (suc k) zero x h = refl
chunk_at (suc k) (suc i) x h =
    chunk_at k i (drop 8 x) (omega arith) ∙ ap (take 8) (drop-drop (8 * i) 8 x ∙ ap (λ (n : ℕ). drop n x) (omega arith))

-- all before the eight of number i agrees
module _ (a b : Bytes) (i : ℕ) (rest : same (drop (8 * i) a) (drop (8 * i) b) ≡ same a b) where
  pub eight_on : {k m : ℕ} {x y : List Bytes} → x ≡ first_chunks 8 k a → y ≡ first_chunks 8 m b → i < k → i < m →
      get_or x i [] ≡ get_or y i [] → same (drop (8 * (i + 1)) a) (drop (8 * (i + 1)) b) ≡ same a b
  eight_on {k} {m} ex ey hk hm e =
      let next : 8 * (i + 1) ≡ 8 * i + 8 = omega arith in
      let alike : get_or (first_chunks 8 k a) i [] ≡ get_or (first_chunks 8 m b) i [] = rw (← ex, ← ey) e in
      rw (next, ← drop-drop 8 (8 * i) a, ← drop-drop 8 (8 * i) b)
      (same_after _ _ (sym (chunk_at k i a hk) ∙ alike ∙ chunk_at m i b hm) ∙ rest)

  -- of whole eights no more are left, and the last eight bytes agree
  pub eights_end : length a ≡ length b → length a / 8 ≤ i → drop (length a - 8) a ≡ drop (length b - 8) b → true ≡ same a b
  eights_end long h e =
      let from : (x : Bytes) → drop (8 * i) x ≡ drop (8 * i - (length a - 8)) (drop (length a - 8) x) =
      λ x. ap (λ (n : ℕ). drop n x) (omega arith) ∙ sym (drop-drop (8 * i - (length a - 8)) (length a - 8) x) in
      let alike : drop (8 * i) a ≡ drop (8 * i) b = from a ∙ ap (drop _) (e ∙ ap (λ (n : ℕ). drop (n - 8) b) (sym long)) ∙ sym (from b) in
      sym (T_true _ (same_refl (drop (8 * i) a))) ∙ ap (same _) alike ∙ rest
