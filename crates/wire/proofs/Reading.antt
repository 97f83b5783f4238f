-- What the readers of the wire tell: where what they read lies, and which refusals they give.
use Prim.Native.Nat.{ℕ, zero, suc, ◌+◌, ◌≤◌, ◌<◌}
use native.Mathlib.Omega.{arith}
use mathlib.Core.Path.{◌≡◌, refl}
use mathlib.Core.List.{List, [], ◌∷◌}
use lib.Dec.{ltb, eqb, nltb→le}
use Rattle.varint.specs.Outcome.{pass, fail, ◌>>=◌, Judged}
use Rattle.varint.specs.declared.Refusal.{Refusal}
use Rattle.varint.specs.Lists.{contains}
use Rattle.varint.specs.Bytes.{Bytes, byte}
use Rattle.varint.specs.Varint.{varint_from, varint, shortest_varint}
use Rattle.wire.specs.Wire.{tag, sized, value, field}
use Rattle.varint.specs.declared.Varint.{Varint}
use Rattle.wire.specs.declared.Tag.{Tag}
use Rattle.wire.specs.declared.Field.{Field}
use Rattle.varint.proofs.Tells.{Tells, Among, tells_bind, tells_rule, tells_if}

-- the refusals of a reader, at the place of the tag
abbrev pub Wire-refusals : List ℕ
Wire-refusals = 1 ∷ 2 ∷ 9 ∷ 3 ∷ []

abbrev pub AtTag : ℕ → Refusal → Type 0
AtTag place = Among Wire-refusals (λ p. p ≡ place)

-- a field that begins at `pos` or later and ends before `end`
abbrev pub Fits : (pos end : ℕ) → Field → Type 0
Fits pos end f = (pos ≤ f.place) × (f.place < f.start) × (f.start ≤ f.next) × (f.next ≤ end)

-- the same, with the place, the number and the wire type that its tag gave it
abbrev pub Follows : Tag → (end : ℕ) → Field → Type 0
Follows t end f =
    (f.place ≡ t.place) × (f.number ≡ t.number) × (t.next ≤ f.start) × (f.start ≤ f.next) × (f.next ≤ end) × (f.wire ≡ t.wire)

sized_tells : (t : Tag) (end v start size : ℕ) → t.next ≤ start → Tells (Follows t end) (AtTag t.place) (sized t end v start size)
unfolding sized contains
sized_tells t end v start size h =
    tells_rule (Follows t end) (AtTag t.place) 1 _ _ _ (λ g. (tt, refl, refl))
    (λ g. let k = nltb→le end (start + size) g in (refl, refl, h, omega arith, k, refl))

module _ (model : Bytes) where
  pub varint_tells : (left place end pos : ℕ) → Tells (λ v. pos < v.next) (AtTag place) (varint_from model left place end pos)
  unfolding varint_from contains
  varint_tells zero place end pos = (tt, refl, refl)
  varint_tells (suc left) place end pos =
      tells_rule _ _ 1 _ _ _ (λ h. (tt, refl, refl)) (λ h. tells_rule _ _ 2 _ _ _ (λ h. (tt, refl, refl)) (λ h.
      tells_if _ _ (ltb (byte model pos) 128) _ _ (λ h. omega arith) (λ h.
      tells_bind (λ (v : Varint). pos + 1 < v.next) (λ (v : Varint). pos < v.next) (AtTag place) _ _ (varint_tells left place end (pos + 1)) (λ v h. omega arith))))

  shortest_tells : (place end pos : ℕ) → Tells (λ v. pos < v.next) (AtTag place) (shortest_varint model place end pos)
  unfolding shortest_varint varint contains
  shortest_tells place end pos =
      tells_bind (λ (v : Varint). pos < v.next) (λ (v : Varint). pos < v.next) (AtTag place) _ _ (varint_tells 10 place end pos)
      (λ v h. tells_rule _ _ 9 _ _ _ (λ k. (tt, refl, refl)) (λ k. h))

  pub tag_tells : (end pos : ℕ) → Tells (λ t. (t.place ≡ pos) × (pos < t.next)) (AtTag pos) (tag model end pos)
  unfolding tag contains
  tag_tells end pos = tells_bind (λ v. pos < v.next) _ _ _ _ (shortest_tells pos end pos) (λ v h. tells_rule _ _ 3 _ _ _ (λ k. (tt, refl, refl)) (λ k. (refl, h)))

  pub value_tells : (t : Tag) (end : ℕ) → Tells (Follows t end) (AtTag t.place) (value model t end)
  unfolding value
  value_tells t end =
      tells_if _ _ (eqb t.wire 0) _ _ (λ k. measured 0) (λ k.
      tells_if _ _ (eqb t.wire 2) _ _ (λ k. counted) (λ k.
      tells_if _ _ (eqb t.wire 1) _ _ (λ k. sized_tells t end _ _ _ (omega arith)) (λ k. sized_tells t end _ _ _ (omega arith))))
    where
      measured : (size : ℕ) → Tells (Follows t end) (AtTag t.place) (shortest_varint model t.place end t.next >>= λ v. sized t end v.value v.next size)
      measured size = tells_bind (λ v. t.next < v.next) _ _ _ _ (shortest_tells t.place end t.next) (λ v k. sized_tells t end _ _ _ (omega arith))

      counted : Tells (Follows t end) (AtTag t.place) (shortest_varint model t.place end t.next >>= λ v. sized t end 0 v.next v.value)
      counted = tells_bind (λ v. t.next < v.next) _ _ _ _ (shortest_tells t.place end t.next) (λ v k. sized_tells t end _ _ _ (omega arith))

  pub field_tells : (end pos : ℕ) → Tells (Fits pos end) (AtTag pos) (field model end pos)
  unfolding field
  field_tells end pos =
      tells_bind (λ t. (t.place ≡ pos) × (pos < t.next)) (Fits pos end) (AtTag pos) _ _ (tag_tells end pos)
      (λ t h. go t h (value model t end) (value_tells t end))
    where
      go : (t : Tag) → (t.place ≡ pos) × (pos < t.next) → (o : Judged Field) → Tells (Follows t end) (AtTag t.place) o → Tells (Fits pos end) (AtTag pos) o
      go t h (pass f) k = (omega arith, omega arith, omega arith, omega arith)
      go t h (fail r) k = (k.0, omega arith, k.2)

  -- a field lies where it was read
  pub field_placed : (end pos : ℕ) → Tells (λ (f : Field). f.place ≡ pos) (AtTag pos) (field model end pos)
  unfolding field
  field_placed end pos =
      tells_bind (λ t. (t.place ≡ pos) × (pos < t.next)) (λ (f : Field). f.place ≡ pos) (AtTag pos) _ _ (tag_tells end pos)
      (λ t h. go t h (value model t end) (value_tells t end))
    where
      go : (t : Tag) → (t.place ≡ pos) × (pos < t.next) → (o : Judged Field) → Tells (Follows t end) (AtTag t.place) o → Tells (λ (f : Field). f.place ≡ pos) (AtTag pos) o
      go t h (pass f) k = omega arith
      go t h (fail r) k = (k.0, omega arith, k.2)
