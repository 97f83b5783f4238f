-- Cells that are zero: looked at one by one, and cleared part by part.
use Prim.Native.Nat.{ℕ, ◌+◌, ◌-◌, ◌≤◌, ◌<◌}
use native.Mathlib.Omega.{arith}
use native.Mathlib.Numerals.{add-one}
use mathlib.Core.Path.{◌≡◌, refl, sym, ap, ◌∙◌}
use mathlib.Core.List.{List, ◌++◌, append_assoc}
use lib.ListN.{length, take, drop, get_or, replicate, length-take, length-drop, length-replicate, replicate-append-replicate}
use lib.Seq.{take-suc, take_all, take_at, drop_at, drop-drop}

pub zeros_more : (l : List ℕ) (i : ℕ) → i < length l → take i l ≡ replicate i 0 → get_or l i 0 ≡ 0 → take (i + 1) l ≡ replicate (i + 1) 0
zeros_more l i h e k = ap (λ (n : ℕ). take n l) (add-one i) ∙ take-suc l i 0 h ∙ rw (e, k) (replicate-append-replicate i 1 0)

pub zeros_all : (l : List ℕ) (i : ℕ) → length l ≤ i → i ≤ length l → take i l ≡ replicate i 0 → l ≡ replicate (length l) 0
zeros_all l i h k e =
    let m : i ≡ length l = omega arith in
    sym (take_all i l h) ∙ e ∙ ap (λ (n : ℕ). replicate n 0) m

-- the first `i` are cleared and so is the part `p` from there to `end`
pub clear_part : (d l p : List ℕ) (i end : ℕ) → l ≡ replicate i 0 ++ drop i d → i < end → end ≤ length l → p ≡ replicate (length (take (end - i) (drop i l))) 0
    → take i l ++ (p ++ drop (end - i) (drop i l)) ≡ replicate end 0 ++ drop end d
clear_part d l p i end e h k q =
    let front : take i l ≡ replicate i 0 = rw e (take_at (replicate i 0) (drop i d) i (length-replicate {A = ℕ} i 0)) in
    let back : drop i l ≡ drop i d = rw e (drop_at (replicate i 0) (drop i d) i (length-replicate {A = ℕ} i 0)) in
    let size : length (take (end - i) (drop i l)) ≡ end - i = simp (length-take, length-drop) (omega arith) in
    let whole : i + (end - i) ≡ end = omega arith in
    let zeros : p ≡ replicate (end - i) 0 = q ∙ ap (λ (n : ℕ). replicate n 0) size in
    rw (front, zeros, back, drop-drop (end - i) i d) (sym (append_assoc (replicate i 0) (replicate (end - i) 0) (drop (i + (end - i)) d))
    ∙ rw (replicate-append-replicate {A = ℕ} i (end - i) 0, whole) refl)
