-- What was read with no padding is read the same by whoever lets padding pass.
use Prim.Native.Nat.{ℕ, zero, suc, ◌-◌, ◌<◌}
use native.Mathlib.Omega.{arith}
use mathlib.Core.Path.{◌≡◌, refl, ap}
use mathlib.Core.Bool.{Bool, true, false, not}
use mathlib.Core.List.{List, [], ◌∷◌}
use lib.Dec.{T, leb, eqb, nleb→lt}
use Rattle.varint.specs.Outcome.{pass, fail, ◌>>=◌, ◌>>◌, Judged, refuse◌at:◌when:◌}
use Rattle.varint.specs.Bytes.{Bytes}
use Rattle.varint.specs.Varint.{varint, shortest_varint}
use Rattle.varint.specs.declared.Varint.{Varint}
use Rattle.wire.specs.Wire.{tag, sized, value, field, fields_from, fields}
use Rattle.wire.specs.Plain.{plain_tag, plain_value, plain_field, plain_fields_from, plain_fields}
use Rattle.wire.specs.Message.{message}
use Rattle.wire.specs.Order.{Gapless}
use Rattle.wire.specs.declared.Tag.{Tag}
use Rattle.wire.specs.declared.Field.{Field}

-- the second reading gives what the first one gave
abbrev Again : {A : Type 0} → Judged A → Judged A → Type 0
Again (pass a) o = o ≡ pass a
Again (fail r) o = Unit {0}

again_bind : {A B : Type 0} (j o : Judged A) (f g : A → Judged B) → Again j o → ((a : A) → Again (f a) (g a)) → Again (j >>= f) (o >>= g)
unfolding ◌>>=◌
again_bind (pass a) o f g h k = rw h (k a)
again_bind (fail r) o f g h k = tt

-- a rule that the second reading breaks no sooner
again_rule : {A : Type 0} (n p : ℕ) (b c : Bool) (j o : Judged A) → (T (not b) → T (not c)) → Again j o → Again (refuse n at: p when: b >> j) (refuse n at: p when: c >> o)
unfolding ◌>>◌ refuse◌at:◌when:◌
again_rule n p true c j o h k = tt
again_rule n p false true j o h k = absurd (h tt)
again_rule n p false false j o h k = k

again_if : {A : Type 0} (b : Bool) (x y x' y' : Judged A) → Again x x' → Again y y' → Again {A = A} (elim b [ true ↦ x | false ↦ y ]) (elim b [ true ↦ x' | false ↦ y' ])
again_if true x y x' y' h k = h
again_if false x y x' y' h k = k

sized_same : (t : Tag) (end v start size : ℕ) → Again (sized t end v start size) (sized t end v start size)
sized_same t end v start size = go (sized t end v start size)
  where
    go : (o : Judged Field) → Again o o
    go (pass f) = refl
    go (fail r) = tt

module _ (model : Bytes) where
  plain_varint : (place end pos : ℕ) → Again (shortest_varint model place end pos) (varint model place end pos)
  unfolding shortest_varint ◌>>=◌ ◌>>◌ refuse◌at:◌when:◌
  plain_varint place end pos = go (varint model place end pos)
    where
      kept : (v : Varint) (b : Bool) → Again (refuse 9 at: place when: b >> pass v) (pass v)
      kept v true = tt
      kept v false = refl

      go : (o : Judged Varint) → Again (o >>= λ v. refuse 9 at: place when: not v.shortest >> pass v) o
      go (pass v) = kept v (not v.shortest)
      go (fail r) = tt

  plain_tag_lem : (end pos : ℕ) → Again (tag model end pos) (plain_tag model end pos)
  unfolding tag plain_tag
  plain_tag_lem end pos = again_bind _ _ _ _ (plain_varint pos end pos) (λ v. again_rule 3 _ _ _ _ _ (λ t. t) refl)

  plain_value_lem : (t : Tag) (end : ℕ) → Again (value model t end) (plain_value model t end)
  unfolding value plain_value
  plain_value_lem t end =
      again_if (eqb t.wire 0) _ _ _ _ (again_bind _ _ _ _ (plain_varint _ _ _) (λ v. sized_same t end v.value v.next 0))
      (again_if (eqb t.wire 2) _ _ _ _ (again_bind _ _ _ _ (plain_varint _ _ _) (λ v. sized_same t end 0 v.next v.value))
      (again_if (eqb t.wire 1) _ _ _ _ (sized_same t end 0 t.next 8) (sized_same t end 0 t.next 4)))

  plain_field_lem : (end pos : ℕ) → Again (field model end pos) (plain_field model end pos)
  unfolding field plain_field
  plain_field_lem end pos = again_bind _ _ _ _ (plain_tag_lem end pos) (λ t. plain_value_lem t end)

  plain_from : (n end pos : ℕ) → Gapless pos end (fields_from model n end pos) → plain_fields_from model n end pos ≡ fields_from model n end pos
  unfolding fields_from plain_fields_from
  plain_from zero end pos g = refl
  plain_from (suc n) end pos g = go (leb end pos) (nleb→lt end pos) (field model end pos) (plain_field model end pos) (plain_field_lem end pos) g (λ p k. plain_from n end p k)
    where
      go : (b : Bool) → (T (not b) → pos < end) → (o p : Judged Field) → Again o p
          → Gapless pos end (elim b [ true ↦ [] | false ↦ elim o [ pass f ↦ f ∷ fields_from model n end f.next | fail r ↦ [] ] ])
          → ((p : ℕ) → Gapless p end (fields_from model n end p) → plain_fields_from model n end p ≡ fields_from model n end p)
          → ◌≡◌ {A = List Field} (elim b [ true ↦ [] | false ↦ elim p [ pass f ↦ f ∷ plain_fields_from model n end f.next | fail r ↦ [] ] ])
          (elim b [ true ↦ [] | false ↦ elim o [ pass f ↦ f ∷ fields_from model n end f.next | fail r ↦ [] ] ])
      go true l o p a g ih = refl
      go false l (fail r) p a g ih = let k = l tt in absurd (omega arith)
      go false l (pass f) p a g ih = rw a (ap (λ (x : List Field). f ∷ x) (ih f.next g.1))

-- the fields of a message without a gap
pub plain_message : (model : Bytes) (f : Field) → Gapless f.start f.next (message model f).fields
    → plain_fields model f.next f.start ≡ (message model f).fields
unfolding message fields plain_fields
plain_message model f g = plain_from model (f.next - f.start) f.next f.start g
