-- The fewest digits that hold a number are its decimal text.
use Prim.Native.Nat.{ℕ, zero, suc, ◌*◌, ◌-◌, ◌/◌, ◌%◌, ◌^◌, ◌≤◌, ◌<◌}
use mathlib.Core.Path.{◌≡◌, refl, sym, ap, subst, ◌∙◌}
use mathlib.Core.List.{[], ◌∷◌, ◌++◌}
use mathlib.Core.Bool.{Bool, true, false}
use native.Mathlib.Nat.{lt_of_not-le, le_of_suc-le-suc, mod-eq_of_lt, pow-suc, one-le-pow, pow-le-pow_right, le-div_iff_mul-le, div-lt_iff_lt-mul}
use native.Mathlib.Omega.{arith}
use lib.Dec.{ltb}
use borrow.Author.Tests.{lt-ltb, le-ltb, ltb-false}
use Rattle.varint.specs.Bytes.{Bytes}
use Rattle.io.specs.Digits.{hex_digit_ascii, last_digits, IsDigitCount}
use Rattle.report.specs.Line.{spell, decimal}

not_more : (n k most : ℕ) → IsDigitCount 10 1 n k → 1 ≤ most → n < 10 ^ most → most < k → ⊥
not_more n k most fewest some holds over =
    let p : 10 ^ (k - 1) ≤ n = fewest.2 (omega arith) in
    let q : 10 ^ most ≤ 10 ^ (k - 1) = pow-le-pow_right (omega arith) (omega arith) in
    omega arith

pub at_most : (n k most : ℕ) → IsDigitCount 10 1 n k → 1 ≤ most → n < 10 ^ most → k ≤ most
at_most n k most fewest some holds = le_of_suc-le-suc (lt_of_not-le (not_more n k most fewest some holds))

-- A number has no more digits than ones.
ones : (n : ℕ) → n < 10 ^ suc n
ones zero = omega arith
ones (suc n) = omega (arith, ones n, pow-suc 10 (suc n))

-- One step of `spell`, by its test.
step : (bound n : ℕ) → Bool → Bytes
step bound n b = elim b [ true ↦ hex_digit_ascii n ∷ [] | false ↦ spell bound (n / 10) ++ (hex_digit_ascii (n % 10) ∷ []) ]

spell_last : (bound n : ℕ) → n < 10 → last_digits 10 1 n ≡ spell (suc bound) n
unfolding spell step
spell_last bound n h = ap (λ d. hex_digit_ascii d ∷ []) (mod-eq_of_lt h) ∙ ap (step bound n) (sym (lt-ltb n 10 h))

spell_more : (bound n : ℕ) → 10 ≤ n → spell bound (n / 10) ++ (hex_digit_ascii (n % 10) ∷ []) ≡ spell (suc bound) n
unfolding spell step
spell_more bound n h = ap (step bound n) (sym (le-ltb n 10 h))

tens : (n j : ℕ) → IsDigitCount 10 1 n (suc (suc j)) → 10 ^ j * 10 ≤ n
tens n j (some, holds, least) =
    let e : suc (suc j) - 1 ≡ suc j = omega arith in
    subst (λ x. x ≤ n) (pow-suc 10 j) (subst (λ i. 10 ^ i ≤ n) e (least (omega arith)))

fewer : (n j : ℕ) → IsDigitCount 10 1 n (suc (suc j)) → IsDigitCount 10 1 (n / 10) (suc j)
fewer n j fewest =
    let e : j ≡ suc j - 1 = omega arith in (
      omega arith,
      (div-lt_iff_lt-mul {k = 10} (omega arith)).1 (subst (λ x. n < x) (pow-suc 10 (suc j)) fewest.1),
      λ more. subst (λ i. 10 ^ i ≤ n / 10) e ((le-div_iff_mul-le {k = 10} (omega arith)).1 (tens n j fewest)),
    )

spelled : (k bound n : ℕ) → k ≤ bound → IsDigitCount 10 1 n k → last_digits 10 k n ≡ spell bound n
spelled zero bound n within (some, holds, least) = absurd (omega arith)
spelled (suc k) zero n within fewest = absurd (omega arith)
spelled (suc zero) (suc bound) n within (some, holds, least) = spell_last bound n (omega arith)
spelled (suc (suc j)) (suc bound) n within fewest =
    ap (λ l. l ++ (hex_digit_ascii (n % 10) ∷ [])) (spelled (suc j) bound (n / 10) (omega arith) (fewer n j fewest))
    ∙ spell_more bound n (omega (arith, tens n j fewest, one-le-pow j 10 (omega arith)))

pub decimal_digits : (n k : ℕ) → IsDigitCount 10 1 n k → last_digits 10 k n ≡ decimal n
unfolding decimal
decimal_digits n k fewest = spelled k (suc n) n (at_most n k (suc n) fewest (omega arith) (ones n)) fewest

-- a bound above the number changes nothing
spell_agree : (a b n : ℕ) → n < a → n < b → spell a n ≡ spell b n
unfolding spell step
spell_agree zero b n h k = absurd (omega arith)
spell_agree (suc a) zero n h k = absurd (omega arith)
spell_agree (suc a) (suc b) n h k = go (ltb n 10) (ltb-false n 10) (λ i j. spell_agree a b (n / 10) i j)
  where
    go : (t : Bool) → (t ≡ false → 10 ≤ n) → (n / 10 < a → n / 10 < b → spell a (n / 10) ≡ spell b (n / 10)) → step a n t ≡ step b n t
    go true l ih = refl
    go false l ih = let tens = l refl in ap (λ l. l ++ (hex_digit_ascii (n % 10) ∷ [])) (ih (omega arith) (omega arith))

pub spell_bound : (bound n : ℕ) → n < bound → spell bound n ≡ decimal n
unfolding decimal
spell_bound bound n h = spell_agree bound (suc n) n h (omega arith)
