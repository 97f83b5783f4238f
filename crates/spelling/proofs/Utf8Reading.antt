-- A string as a loop goes through it.
use Prim.Native.Nat.{ℕ, zero, suc, ◌+◌, ◌-◌, ◌≤◌, ◌<◌}
use native.Mathlib.Omega.{arith}
use native.Mathlib.Numerals.{add-one}
use mathlib.Core.Path.{◌≡◌, refl, sym, ap, ◌∙◌}
use mathlib.Core.Bool.{Bool, false, ◌&&◌}
use mathlib.Core.List.{[], ◌∷◌}
use mathlib.Core.Option.{Option, none, some}
use lib.ListN.{length, get_or, drop, drop_of_length-le}
use lib.Seq.{drop-cons}
use lib.Dec.{eqb}
use borrow.Author.Tests.{ne_eqb}
use Rattle.varint.specs.Lists.{within}
use Rattle.varint.specs.Bytes.{Bytes}
use Rattle.spelling.specs.Utf8.{Ahead, leads, announced, octets, well_formed}
use Rattle.spelling.proofs.Utf8Rows.{within_in, within_above, within_below, ascii_in}

at_drop : (s : Bytes) (i : ℕ) → i < length s → drop i s ≡ get_or s i 0 ∷ drop (i + 1) s
at_drop s i h = rw (add-one, drop-cons s i 0 h) refl

pub ascii_at : (s : Bytes) (i : ℕ) → i < length s → get_or s i 0 < 0x80 → well_formed (drop i s) ≡ well_formed (drop (i + 1) s)
unfolding well_formed
ascii_at s i h k = ap (λ (x : Bytes). octets 0 0x80 0xBF x) (at_drop s i h) ∙ ascii_in (get_or s i 0) (drop (i + 1) s) (omega arith)

-- Whether the string is well-formed, which is w, the bytes from i on decide.
pub record Reading (w : Bool) (s : Bytes) (i tails lo hi : ℕ) : Type 0 where
  pub rest : octets tails lo hi (drop i s) ≡ w

pub reading_start : (s : Bytes) (i : ℕ) → Reading (well_formed (drop i s)) s i 0 0x80 0xBF
unfolding well_formed
reading_start s i = record { rest = refl }

nothing_left : (tails lo hi : ℕ) → eqb tails 0 ≡ octets tails lo hi []
unfolding octets
nothing_left zero lo hi = refl
nothing_left (suc tails) lo hi = ne_eqb (suc tails) 0 (λ e. omega arith)

-- without a tail that is due, no range says anything
no_range : (lo hi : ℕ) (s : Bytes) → octets 0 lo hi s ≡ octets 0 0x80 0xBF s
unfolding octets
no_range lo hi [] = refl
no_range lo hi (b ∷ more) = refl

module _ {w : Bool} {s : Bytes} {i tails lo hi : ℕ} (q : Reading w s i tails lo hi) where
  pub reading_end : length s ≤ i → eqb tails 0 ≡ w
  reading_end h = nothing_left tails lo hi ∙ ap (λ (x : Bytes). octets tails lo hi x) (sym (drop_of_length-le s h)) ∙ q.rest

  module _ (none_due : tails ≡ 0) (h : i < length s) where
    free_by : octets 0 lo hi (drop i s) ≡ w
    free_by = ap (λ (n : ℕ). octets n lo hi (drop i s)) (sym none_due) ∙ q.rest

    pub reading_ascii : get_or s i 0 < 0x80 → Reading w s (i + 1) tails lo hi
    unfolding well_formed
    reading_ascii k =
        let here = no_range lo hi (drop i s) in
        let next = no_range lo hi (drop (i + 1) s) in
        record { rest = ap (λ (n : ℕ). octets n lo hi (drop (i + 1) s)) none_due ∙ next ∙ sym (ascii_at s i h k) ∙ sym here ∙ free_by }

    -- o is what the byte at i announces
    module _ (o : Option Ahead) (e : o ≡ announced (get_or s i 0) leads) where
      lead_by : (elim o as (λ _. Bool) [ none ↦ false | some a ↦ octets a.tails a.lo a.hi (drop (i + 1) s) ]) ≡ w
      unfolding octets
      lead_by =
          ap (λ (o : Option Ahead). elim o as (λ _. Bool) [ none ↦ false | some a ↦ octets a.tails a.lo a.hi (drop (i + 1) s) ]) e
          ∙ sym (ap (λ (x : Bytes). octets 0 lo hi x) (at_drop s i h)) ∙ free_by

      pub reading_no_lead : o ≡ none → false ≡ w
      reading_no_lead n = rw n at lead_by

      pub reading_lead : (a : Ahead) → o ≡ some a → Reading w s (i + 1) a.tails a.lo a.hi
      reading_lead a n = record { rest = rw n at lead_by }

  -- the byte at i is the tail that is due, or not
  module _ (due : tails ≡ 0 → ⊥) (h : i < length s) where
    tail_by : (within lo hi (get_or s i 0) && octets (tails - 1) 0x80 0xBF (drop (i + 1) s)) ≡ w
    unfolding octets
    tail_by =
        let e : tails ≡ suc (tails - 1) = omega arith in
        sym (ap (λ (x : Bytes). octets (suc (tails - 1)) lo hi x) (at_drop s i h)) ∙ ap (λ (n : ℕ). octets n lo hi (drop i s)) (sym e) ∙ q.rest

    pub reading_below : get_or s i 0 < lo → false ≡ w
    reading_below k = rw (within_below lo hi (get_or s i 0) k) at tail_by

    pub reading_above : hi < get_or s i 0 → false ≡ w
    reading_above k = rw (within_above lo hi (get_or s i 0) k) at tail_by

    pub reading_tail : lo ≤ get_or s i 0 → get_or s i 0 ≤ hi → Reading w s (i + 1) (tails - 1) 0x80 0xBF
    reading_tail k l = record { rest = rw (within_in lo hi (get_or s i 0) k l) at tail_by }
