-- What one reading of a name tells of it.
use Prim.Native.Nat.{ℕ, ◌-◌, ◌≤◌, ◌<◌}
use native.Mathlib.Omega.{arith}
use mathlib.Core.Path.{◌≡◌, sym, ap, ap₂, ◌∙◌}
use mathlib.Core.Bool.{Bool, true, false, ◌&&◌, and-false}
use mathlib.Core.Option.{Option, none, some}
use lib.ListN.{length, take, drop, drop_of_length-le, length-drop}
use lib.Seq.{take_all}
use lib.Dec.{leb}
use borrow.Author.Tests.{le-leb, lt-leb}
use Rattle.varint.specs.Bytes.{Bytes}
use Rattle.spelling.specs.Identifier.{identifier}
use Rattle.spelling.specs.Utf8.{octets, well_formed}
use Rattle.spelling.specs.Identifier.{oddity}
use Rattle.spelling.specs.Spelling.{spelled}
use Rattle.spelling.proofs.IdentifierLaws.{Begun, name_empty}

pub oddity_few : (x : Bytes) → oddity x ≤ 1
unfolding oddity
oddity_few x = go (identifier x)
  where
    go : (t : Bool) → (elim t as (λ _. ℕ) [ true ↦ 0 | false ↦ 1 ]) ≤ 1
    go true = omega arith
    go false = omega arith

module _ (x : Bytes) where
  spelled_by : (w t : Bool) → well_formed x ≡ w → identifier x ≡ t
      → (elim w as (λ _. Option ℕ) [ true ↦ some (elim t [ true ↦ 0 | false ↦ 1 ]) | false ↦ none ]) ≡ spelled x
  unfolding spelled oddity
  spelled_by w t e f = ap₂ (λ (w t : Bool). elim w as (λ _. Option ℕ) [ true ↦ some (elim t [ true ↦ 0 | false ↦ 1 ]) | false ↦ none ]) (sym e) (sym f)

  module _ (r : ℕ) (q : Begun x r) where
    -- t is the answer of the test of the other bytes
    module _ (h : r < length x) (t : Bool) (et : t ≡ well_formed (take (length x - r) (drop r x))) where
      rest_by : t ≡ well_formed x
      rest_by = et ∙ ap well_formed (take_all (length x - r) (drop r x) (omega (arith, length-drop r x))) ∙ q.1.1

      other : identifier x ≡ false
      other = q.1.0 ∙ ap (λ (u : Bool). leb 1 r && u) (lt-leb (length x) r h) ∙ and-false (leb 1 r)

      pub spelled_odd : t ≡ true → some 1 ≡ spelled x
      spelled_odd e = spelled_by true false (sym rest_by ∙ e) other

      pub spelled_not : t ≡ false → none ≡ spelled x
      spelled_not e = spelled_by false false (sym rest_by ∙ e) other

    module _ (h : length x ≤ r) where
      whole : well_formed x ≡ true
      unfolding well_formed octets
      whole = sym q.1.1 ∙ ap well_formed (drop_of_length-le x h)

      pub spelled_empty : r ≡ 0 → some 1 ≡ spelled x
      spelled_empty e = spelled_by true false whole (name_empty x (omega arith))

      pub spelled_even : (r ≡ 0 → ⊥) → some 0 ≡ spelled x
      spelled_even n = spelled_by true true whole (q.1.0 ∙ simp (le-leb 1 r (omega arith), le-leb (length x) r h))
