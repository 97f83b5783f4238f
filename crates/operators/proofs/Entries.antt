-- The entries of an operator list, step by step and with no bound in sight.
use Prim.Native.Nat.{ℕ, zero, suc, ◌+◌, ◌-◌, ◌≤◌, ◌<◌}
use native.Mathlib.Omega.{arith}
use mathlib.Core.Path.{◌≡◌, refl, sym, ap, ◌∙◌}
use mathlib.Core.Bool.{Bool, true, false}
use mathlib.Core.List.{List, [], ◌∷◌}
use lib.ListN.{length}
use lib.Dec.{leb, le→leb}
use mir.Facts.{no_leb}
use Rattle.varint.specs.Bytes.{Bytes}
use Rattle.varint.proofs.Lists.{T_true, T_false}
use Rattle.operators.specs.Operators.{after, entries_from, entries_at}

module _ (list : Bytes) where
  entries_end : (n pos : ℕ) → length list ≤ pos → entries_from list n pos ≡ []
  unfolding entries_from
  entries_end zero pos h = refl
  entries_end (suc n) pos h = rw (T_true (leb (length list) pos) (le→leb (length list) pos h), entries_from) refl

  entries_agree : (n m pos : ℕ) → length list ≤ pos + n → length list ≤ pos + m → entries_from list n pos ≡ entries_from list m pos
  unfolding entries_from after
  entries_agree zero zero pos h k = refl
  entries_agree zero (suc m) pos h k = sym (entries_end (suc m) pos (omega arith))
  entries_agree (suc n) zero pos h k = entries_end (suc n) pos (omega arith)
  entries_agree (suc n) (suc m) pos h k = go (leb (length list) pos) (entries_agree n m (after list pos) (omega arith) (omega arith))
    where
      go : (b : Bool) → entries_from list n (after list pos) ≡ entries_from list m (after list pos)
          → ◌≡◌ {A = List ℕ} (elim b [ true ↦ [] | false ↦ pos ∷ entries_from list n (after list pos) ]) (elim b [ true ↦ [] | false ↦ pos ∷ entries_from list m (after list pos) ])
      go true e = refl
      go false e = ap (λ (l : List ℕ). pos ∷ l) e

  -- a bound from the bytes left on changes nothing
  pub entries_bound : (bound pos : ℕ) → length list ≤ pos + bound → entries_from list bound pos ≡ entries_at list pos
  unfolding entries_at
  entries_bound bound pos h = entries_agree bound (length list - pos) pos h (omega arith)

  pub entries_done : (pos : ℕ) → length list ≤ pos → entries_at list pos ≡ []
  unfolding entries_at
  entries_done pos h = entries_end (length list - pos) pos h

  pub entries_step : (pos : ℕ) → pos < length list → entries_at list pos ≡ pos ∷ entries_at list (after list pos)
  unfolding entries_from after
  entries_step pos h =
      sym (entries_bound (suc (length list - pos)) pos (omega arith))
      ∙ rw (T_false (leb (length list) pos) (no_leb h), entries_from) (ap (λ (l : List ℕ). pos ∷ l) (entries_bound (length list - pos) (after list pos) (omega arith)))
