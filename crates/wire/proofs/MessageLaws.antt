-- The fields of a message by number, as code looks for them.
use Rattle.std.specs.Prelude.{None, Some, is_some}
use Prim.Native.Nat.{ℕ}
use mathlib.Core.Path.{◌≡◌, refl, ap, ◌∙◌}
use mathlib.Core.List.{[]}
use mathlib.Core.Option.{Option, none, some}
use Rattle.varint.specs.Outcome.{pass}
use Rattle.varint.specs.Bytes.{Bytes}
use Rattle.varint.specs.Lists.{present}
use Rattle.wire.specs.Wire.{field}
use Rattle.wire.specs.Message.{all_of, first_of, number_of, place_of, text, bytes_of, message}
use Rattle.wire.specs.Answers.{sought_says, value_in, contents_of, after, found_in, sought_in, Sought}
use Rattle.wire.specs.declared.Field.{Field}
use Rattle.wire.specs.declared.Cursor.{Cursor}
use Rattle.varint.proofs.Answers.{says}
use Rattle.wire.proofs.Along.{Onward, all_some}

-- what is left of an answer without the cursor
without : Option (Field × Cursor) → Option Field
without none = none
without (some p) = some p.0

without_cursor : (end : ℕ) (o : Option Field) → without (found_in end o) ≡ o
unfolding found_in after without
without_cursor end none = refl
without_cursor end (some g) = refl

value_without : (r : Sought) → value_in r ≡ elim (without (sought_says r)) [ none ↦ 0 | some g ↦ g.value ]
unfolding value_in sought_says without
value_without (Some (g, c)) = refl
value_without None = refl

module _ (s : Bytes) (number : ℕ) (f : Field) where
  pub found_first : (r : Sought) {c : Cursor} → c ≡ contents_of f → sought_says r ≡ sought_in s number c.end c.at
      → sought_says r ≡ found_in f.next (first_of number (message s f))
  unfolding sought_in first_of all_of message contents_of
  found_first r k e = rw k at e

  module _ (r : Sought) (e : sought_says r ≡ found_in f.next (first_of number (message s f))) where
    told : {a : Sought} → r ≡ a → without (sought_says a) ≡ first_of number (message s f)
    told k = ap without (says sought_says e k) ∙ without_cursor _ _

    pub number_in : value_in r ≡ number_of number (message s f)
    unfolding number_of
    number_in = value_without r ∙ ap (λ (o : Option Field). elim o [ none ↦ 0 | some g ↦ g.value ]) (told refl)

    -- whether it is there
    pub some_present : is_some r ≡ present (first_of number (message s f))
    unfolding present sought_says without
    some_present = go r refl
      where
        go : (a : Sought) → r ≡ a → is_some a ≡ present (first_of number (message s f))
        go (Some (g, c)) k = ap present (told k)
        go None k = ap present (told k)

    module _ (k : r ≡ None) where
      pub missing : none ≡ first_of number (message s f)
      unfolding sought_says without
      missing = told k

      pub place_missing : f.place ≡ place_of number (message s f)
      unfolding place_of message
      place_missing = ap (λ (o : Option Field). elim o [ none ↦ f.place | some g ↦ g.place ]) missing

      pub bytes_missing : [] ≡ bytes_of s number (message s f)
      unfolding bytes_of
      bytes_missing = ap (λ (o : Option Field). elim o [ none ↦ [] | some g ↦ text s g ]) missing

    module _ {g : Field} {c : Cursor} (k : r ≡ Some (g, c)) where
      pub found : some g ≡ first_of number (message s f)
      unfolding sought_says without
      found = told k

      pub place_found : g.place ≡ place_of number (message s f)
      unfolding place_of message
      place_found = ap (λ (o : Option Field). elim o [ none ↦ f.place | some h ↦ h.place ]) found

      pub bytes_found : text s g ≡ bytes_of s number (message s f)
      unfolding bytes_of
      bytes_found = ap (λ (o : Option Field). elim o [ none ↦ [] | some h ↦ text s h ]) found

-- a message's first field with a number was read where it lies
module _ (s : Bytes) (number : ℕ) (m : Field) {f : Field} (k : some f ≡ first_of number (message s m)) where
  first_onward : Onward s number m.next m.start f (record { at = f.next; end = m.next })
  unfolding sought_in found_in first_of all_of message after
  first_onward = all_some s number m.next m.start (ap (found_in m.next) k)

  pub first_read : field s m.next f.place ≡ pass f
  first_read = first_onward.read
