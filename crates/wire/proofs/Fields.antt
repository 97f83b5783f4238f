-- The fields of a message, step by step and with no bound in sight; they lie apart and in order.
use Prim.Native.Nat.{ℕ, zero, suc, ◌+◌, ◌-◌, ◌≤◌, ◌<◌}
use native.Mathlib.Omega.{arith}
use mathlib.Core.Path.{◌≡◌, refl, sym, ap, ◌∙◌}
use mathlib.Core.Bool.{Bool, true, false}
use mathlib.Core.List.{List, [], ◌∷◌, ◌++◌, flat_map}
use lib.Dec.{leb, le→leb}
use mir.Facts.{no_leb}
use Rattle.varint.specs.Outcome.{pass, fail, Judged}
use Rattle.varint.specs.declared.Refusal.{Refusal}
use Rattle.varint.specs.Lists.{keep}
use Rattle.varint.specs.Bytes.{Bytes}
use Rattle.wire.specs.Wire.{field, fields_from, fields}
use Rattle.wire.specs.Message.{message, all_of}
use Rattle.wire.specs.Order.{Ordered}
use Rattle.wire.specs.declared.Field.{Field}
use Rattle.varint.proofs.Tells.{Tells}
use Rattle.varint.proofs.Lists.{T_true, T_false, All}
use Rattle.wire.proofs.Reading.{Fits, AtTag, field_tells}

module _ (model : Bytes) where
  fields_end : (n end pos : ℕ) → end ≤ pos → fields_from model n end pos ≡ []
  unfolding fields_from
  fields_end zero end pos h = refl
  fields_end (suc n) end pos h = rw (T_true (leb end pos) (le→leb end pos h), fields_from) refl

  fields_agree : (n m end pos : ℕ) → end ≤ pos + n → end ≤ pos + m → fields_from model n end pos ≡ fields_from model m end pos
  unfolding fields_from
  fields_agree zero zero end pos h k = refl
  fields_agree zero (suc m) end pos h k = sym (fields_end (suc m) end pos (omega arith))
  fields_agree (suc n) zero end pos h k = fields_end (suc n) end pos (omega arith)
  fields_agree (suc n) (suc m) end pos h k = go (leb end pos) (field model end pos) (field_tells model end pos) (λ p g g'. fields_agree n m end p g g')
    where
      go : (b : Bool) (o : Judged Field) → Tells (Fits pos end) (AtTag pos) o → ((p : ℕ) → end ≤ p + n → end ≤ p + m → fields_from model n end p ≡ fields_from model m end p)
          → ◌≡◌ {A = List Field} (elim b [ true ↦ [] | false ↦ elim o [ pass f ↦ f ∷ fields_from model n end f.next | fail r ↦ [] ] ])
          (elim b [ true ↦ [] | false ↦ elim o [ pass f ↦ f ∷ fields_from model m end f.next | fail r ↦ [] ] ])
      go true o e ih = refl
      go false (fail r) e ih = refl
      go false (pass f) e ih = ap (λ (l : List Field). f ∷ l) (ih f.next (omega arith) (omega arith))

  -- a bound from the bytes left on changes nothing
  pub fields_bound : (bound end pos : ℕ) → end ≤ pos + bound → fields_from model bound end pos ≡ fields model end pos
  unfolding fields
  fields_bound bound end pos h = fields_agree bound (end - pos) end pos h (omega arith)

  pub fields_done : (end pos : ℕ) → end ≤ pos → fields model end pos ≡ []
  unfolding fields
  fields_done end pos h = fields_end (end - pos) end pos h

  pub fields_step : (end pos : ℕ) (f : Field) → pos < end → field model end pos ≡ pass f → fields model end pos ≡ f ∷ fields model end f.next
  unfolding fields_from
  fields_step end pos f h e =
      sym (fields_bound (suc (end - pos)) end pos (omega arith))
      ∙ rw (T_false (leb end pos) (no_leb h), e, fields_from) (let g = fits in ap (λ (l : List Field). f ∷ l) (fields_bound (end - pos) end f.next (omega arith)))
    where
      fits : Fits pos end f
      fits = rw e at (field_tells model end pos)

  pub fields_stop : (end pos : ℕ) (r : Refusal) → pos < end → field model end pos ≡ fail r → fields model end pos ≡ []
  unfolding fields_from
  fields_stop end pos r h e =
      sym (fields_bound (suc (end - pos)) end pos (omega arith))
      ∙ rw (T_false (leb end pos) (no_leb h), e, fields_from) refl

  -- ---- order

  from_ordered : (n end pos : ℕ) → Ordered pos end (fields_from model n end pos)
  unfolding fields_from
  from_ordered zero end pos = tt
  from_ordered (suc n) end pos = go (leb end pos) (field model end pos) (field_tells model end pos) (λ p. from_ordered n end p)
    where
      go : (b : Bool) (o : Judged Field) → Tells (Fits pos end) (AtTag pos) o → ((p : ℕ) → Ordered p end (fields_from model n end p))
          → Ordered pos end (elim b [ true ↦ [] | false ↦ elim o [ pass f ↦ f ∷ fields_from model n end f.next | fail r ↦ [] ] ])
      go true o h ih = tt
      go false (pass f) h ih = (h.0, h.1, h.2, h.3, ih f.next)
      go false (fail r) h ih = tt

  pub fields_ordered : (end pos : ℕ) → Ordered pos end (fields model end pos)
  unfolding fields
  fields_ordered end pos = from_ordered (end - pos) end pos

  pub message_ordered : (f : Field) → Ordered f.start f.next (message model f).fields
  unfolding message fields
  message_ordered f = fields_ordered f.next f.start

pub ordered_widen : (lo lo' hi hi' : ℕ) (fs : List Field) → lo ≤ lo' → hi' ≤ hi → Ordered lo' hi' fs → Ordered lo hi fs
ordered_widen lo lo' hi hi' [] l h o = tt
ordered_widen lo lo' hi hi' (f ∷ fs) l h o = (omega arith, o.1, o.2, omega arith, ordered_widen f.next f.next hi hi' fs (omega arith) h o.4)

pub keep_ordered : (test : Field → Bool) (lo hi : ℕ) (fs : List Field) → Ordered lo hi fs → Ordered lo hi (keep test fs)
unfolding keep
keep_ordered test lo hi [] o = tt
keep_ordered test lo hi (f ∷ fs) o = go (test f) (keep_ordered test f.next hi fs o.4)
  where
    go : (b : Bool) → Ordered f.next hi (keep test fs) → Ordered lo hi (elim b [ true ↦ f ∷ keep test fs | false ↦ keep test fs ])
    go true ih = (o.0, o.1, o.2, o.3, ih)
    go false ih = ordered_widen lo f.next hi hi (keep test fs) (omega arith) (omega arith) ih

-- of each field alone
pub ordered_all : (lo hi : ℕ) (fs : List Field) → Ordered lo hi fs → All (Fits lo hi) fs
ordered_all lo hi [] o = tt
ordered_all lo hi (f ∷ fs) o = ((o.0, o.1, o.2, o.3), ordered_all lo hi fs (ordered_widen lo f.next hi hi fs (omega arith) (omega arith) o.4))

pub all_of_ordered : (model : Bytes) (n : ℕ) (f : Field) → Ordered f.start f.next (all_of n (message model f))
unfolding all_of
all_of_ordered model n f = keep_ordered _ f.start f.next (message model f).fields (message_ordered model f)

-- the fields of fields in order lie in order
ordered_append : (lo mid hi : ℕ) (fs gs : List Field) → lo ≤ mid → mid ≤ hi → Ordered lo mid fs → Ordered mid hi gs → Ordered lo hi (fs ++ gs)
ordered_append lo mid hi [] gs l h o p = ordered_widen lo mid hi hi gs l (omega arith) p
ordered_append lo mid hi (f ∷ fs) gs l h o p = (o.0, o.1, o.2, omega arith, ordered_append f.next mid hi fs gs o.3 h o.4 p)

pub ordered_flat : (k : Field → List Field) → ((f : Field) → Ordered f.start f.next (k f)) → (lo hi : ℕ) (fs : List Field) → Ordered lo hi fs → Ordered lo hi (flat_map k fs)
unfolding flat_map
ordered_flat k one lo hi [] o = tt
ordered_flat k one lo hi (f ∷ fs) o =
    ordered_append lo f.next hi (k f) (flat_map k fs) (omega arith) o.3
    (ordered_widen lo f.start f.next f.next (k f) (omega arith) (omega arith) (one f)) (ordered_flat k one f.next hi fs o.4)
