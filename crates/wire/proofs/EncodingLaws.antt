-- What was read is what is written: the bytes of a field follow from what it says, and those of a message without a gap from its fields.
use Prim.Native.Nat.{ℕ, zero, suc, ◌+◌, ◌-◌, ◌*◌, ◌/◌, ◌%◌, ◌≤◌, ◌<◌}
use native.Mathlib.Omega.{arith}
use mathlib.Core.Path.{◌≡◌, refl, sym, ap, ap₂, subst, ◌∙◌}
use mathlib.Core.Bool.{Bool, true, false}
use mathlib.Core.List.{[], ◌∷◌, ◌++◌, map, flat_map}
use lib.Dec.{leb, ltb, eqb, nltb→le}
use lib.ListN.{length}
use Rattle.varint.specs.Outcome.{pass, fail, ◌>>=◌, Judged, refuse◌at:◌when:◌}
use Rattle.varint.specs.Bytes.{Bytes, part}
use Rattle.varint.specs.Varint.{shortest_varint}
use Rattle.varint.specs.Encoding.{encode, Octets}
use Rattle.wire.specs.Wire.{LEN, bad_tag, tag, sized, value, field, fields_from, fields}
use Rattle.wire.specs.Message.{text, message}
use Rattle.wire.specs.Order.{Gapless}
use Rattle.wire.specs.Encoding.{said, encoded_value, contents_at, encoded}
use Rattle.wire.specs.declared.Tag.{Tag}
use Rattle.wire.specs.declared.Field.{Field}
use Rattle.varint.proofs.Passing.{passed_bind, passed_seq, passed_rule, passed_tells, pass_same}
use Rattle.varint.proofs.EncodingLaws.{part_join, part_length, varint_written, varint_width, width_one}
use Rattle.wire.proofs.Reading.{AtTag, Follows, value_tells}

-- the field that a size makes
sized_is : (t : Tag) (end v start size : ℕ) (f : Field) → sized t end v start size ≡ pass f
    → (start + size ≤ end) × (f ≡ record { place = t.place; number = t.number; wire = t.wire; value = v; start = start; next = start + size })
unfolding sized
sized_is t end v start size f e =
    let p = passed_seq (refuse 1 at: t.place when: ltb end (start + size)) _ f e in
    (nltb→le end (start + size) (passed_rule 1 t.place (ltb end (start + size)) p.0), sym (pass_same _ f p.1))

module _ (model : Bytes) (octets : Octets model) (end : ℕ) (inside : end ≤ length model) where
  tag_written : (pos : ℕ) (t : Tag) → tag model end pos ≡ pass t
      → (t.place ≡ pos) × (pos < t.next) × (t.next ≤ end) × (part pos (t.next - pos) model ≡ encode (8 * t.number + t.wire))
  unfolding tag
  tag_written pos t e =
      let a = passed_bind (shortest_varint model pos end pos) _ t e in
      let v = a.0 in
      let b = passed_seq (refuse 3 at: pos when: bad_tag v.value) _ t a.2 in
      let same : t ≡ record { place = pos; number = v.value / 8; wire = v.value % 8; next = v.next } = sym (pass_same _ t b.1) in
      let w = varint_written model pos end inside octets pos v a.1 in
      let number : 8 * (v.value / 8) + v.value % 8 ≡ v.value = omega arith in
      rw same (refl, w.0, w.1, rw number w.2)

  empty : (pos : ℕ) → pos ≡ end → part pos (end - pos) model ≡ []
  unfolding part
  empty pos e = let none : end - pos ≡ 0 = omega arith in rw none refl

  -- the bytes after a tag
  record After (t : Tag) (f : Field) : Type 0 where
    number : f.number ≡ t.number
    wire : f.wire ≡ t.wire
    onward : t.next ≤ f.next
    within : f.next ≤ end
    bytes : part t.next (f.next - t.next) model ≡ encoded_value f.wire f.value (text model f)

  number_written : (t : Tag) (f : Field) → eqb t.wire 0 ≡ true
      → (shortest_varint model t.place end t.next >>= λ v. sized t end v.value v.next 0) ≡ pass f
      → After t f
  unfolding encoded_value
  number_written t f k e =
      let a = passed_bind (shortest_varint model t.place end t.next) _ f e in
      let v = a.0 in
      let b = sized_is t end v.value v.next 0 f a.2 in
      let w = varint_written model t.place end inside octets t.next v a.1 in
      let far = w.0 in
      let near = w.1 in
      let stop : v.next + 0 ≡ v.next = omega arith in
      rw b.1 (record { number = refl; wire = refl; onward = omega arith; within = omega arith; bytes = rw (stop, k, encoded_value) w.2 })

  length_written : (t : Tag) (f : Field) → eqb t.wire 0 ≡ false → eqb t.wire 2 ≡ true
      → (shortest_varint model t.place end t.next >>= λ v. sized t end 0 v.next v.value) ≡ pass f
      → After t f
  unfolding encoded_value text
  length_written t f k k' e =
      let a = passed_bind (shortest_varint model t.place end t.next) _ f e in
      let v = a.0 in
      let b = sized_is t end 0 v.next v.value f a.2 in
      let w = varint_written model t.place end inside octets t.next v a.1 in
      let far = w.0 in
      let near = b.0 in
      let stop = v.next + v.value in
      let contents = part v.next (stop - v.next) model in
      let size : length contents ≡ v.value = part_length model v.next stop (omega arith) ∙ omega arith in
      let two = part_join model t.next v.next stop (omega arith) (omega arith) in
      rw b.1 (record {
        number = refl;
        wire = refl;
        onward = omega arith;
        within = near;
        bytes = two ∙ rw (k, k', size, encoded_value) (ap (λ (x : Bytes). x ++ contents) w.2);
      })

  fixed_written : (t : Tag) (size : ℕ) (f : Field) → eqb t.wire 0 ≡ false → eqb t.wire 2 ≡ false → sized t end 0 t.next size ≡ pass f → After t f
  unfolding encoded_value text
  fixed_written t size f k k' e =
      let b = sized_is t end 0 t.next size f e in
      let near = b.0 in
      rw b.1 (record { number = refl; wire = refl; onward = omega arith; within = near; bytes = rw (k, k', encoded_value) refl })

  value_written : (t : Tag) (f : Field) → value model t end ≡ pass f → After t f
  unfolding value
  value_written t f e = go (eqb t.wire 0) (eqb t.wire 2) (eqb t.wire 1) refl refl e
    where
      go : (a b c : Bool) → eqb t.wire 0 ≡ a → eqb t.wire 2 ≡ b
          → ◌≡◌ {A = Judged Field} (elim a [
            | true ↦ shortest_varint model t.place end t.next >>= λ v. sized t end v.value v.next 0
            | false ↦ elim b [
              | true ↦ shortest_varint model t.place end t.next >>= λ v. sized t end 0 v.next v.value
              | false ↦ elim c [ true ↦ sized t end 0 t.next 8 | false ↦ sized t end 0 t.next 4 ]
            ]
          ]) (pass f)
          → After t f
      go true b c k l e = number_written t f k e
      go false true c k l e = length_written t f k l e
      go false false true k l e = fixed_written t 8 f k l e
      go false false false k l e = fixed_written t 4 f k l e

  pub field_written : (pos : ℕ) (f : Field) → field model end pos ≡ pass f
      → (pos < f.next) × (f.next ≤ end) × (part pos (f.next - pos) model ≡ encoded (said model f))
  unfolding field encoded said
  field_written pos f e =
      let a = passed_bind (tag model end pos) _ f e in
      let t = a.0 in
      let x = tag_written pos t a.1 in
      let y = value_written t f a.2 in
      let front = x.1 in
      let back = y.onward in
      let first = x.3 ∙ ap₂ (λ (n w : ℕ). encode (8 * n + w)) (sym y.number) (sym y.wire) in
      let two = part_join model pos t.next f.next (omega arith) back in
      (omega arith, y.within, two ∙ ap₂ (λ (u v : Bytes). u ++ v) first y.bytes)

  -- ---- a message

  pub fields_written : (n pos : ℕ) → pos ≤ end → Gapless pos end (fields_from model n end pos)
      → part pos (end - pos) model ≡ flat_map encoded (map (said model) (fields_from model n end pos))
  unfolding fields_from flat_map
  fields_written zero pos h g = empty pos g
  fields_written (suc n) pos h g = go (leb end pos) (field model end pos) refl g (λ p k l. fields_written n p k l)
    where
      go : (b : Bool) (o : Judged Field) → field model end pos ≡ o
          → Gapless pos end (elim b [ true ↦ [] | false ↦ elim o [ pass f ↦ f ∷ fields_from model n end f.next | fail r ↦ [] ] ])
          → ((p : ℕ) → p ≤ end → Gapless p end (fields_from model n end p) → part p (end - p) model ≡ flat_map encoded (map (said model) (fields_from model n end p)))
          → part pos (end - pos) model
          ≡ flat_map encoded (map (said model) (elim b [ true ↦ [] | false ↦ elim o [ pass f ↦ f ∷ fields_from model n end f.next | fail r ↦ [] ] ]))
      go true o e g ih = empty pos g
      go false (fail r) e g ih = empty pos g
      go false (pass f) e g ih =
          let w = field_written pos f e in
          let far = w.0 in
          let near = w.1 in
          part_join model pos f.next end (omega arith) near ∙ ap₂ (λ (u v : Bytes). u ++ v) w.2 (ih f.next near g.1)

-- the message that a field holds
pub message_written : (model : Bytes) → Octets model → (f : Field) → f.start ≤ f.next → f.next ≤ length model
    → Gapless f.start f.next (message model f).fields
    → text model f ≡ flat_map encoded (map (said model) (message model f).fields)
unfolding message text fields
message_written model octets f h inside g = fields_written model octets f.next inside (f.next - f.start) f.start h g

-- ---- "the bytes of a name follow from place and length (tag of one byte, shortest length)"

module _ (model : Bytes) (end : ℕ) (inside : end ≤ length model) where
  tag_short : (pos : ℕ) (t : Tag) → tag model end pos ≡ pass t → t.number < 16 → (t.place ≡ pos) × (t.next ≡ pos + 1)
  unfolding tag
  tag_short pos t e h =
      let a = passed_bind (shortest_varint model pos end pos) _ t e in
      let v = a.0 in
      let b = passed_seq (refuse 3 at: pos when: bad_tag v.value) _ t a.2 in
      let same : record { place = pos; number = v.value / 8; wire = v.value % 8; next = v.next } ≡ t = pass_same _ t b.1 in
      let number : v.value / 8 ≡ t.number = ap (λ (x : Tag). x.number) same in
      let next : v.next ≡ t.next = ap (λ (x : Tag). x.next) same in
      let width = varint_width model pos end inside pos v a.1 in
      let one = width_one v.value (omega arith) in
      (ap (λ (x : Tag). x.place) (sym same), omega arith)

  length_read : (t : Tag) (f : Field) → t.wire ≡ LEN → value model t end ≡ pass f
      → (shortest_varint model t.place end t.next >>= λ v. sized t end 0 v.next v.value) ≡ pass f
  unfolding value
  length_read t f k e = subst Read k e
    where
      Read : ℕ → Type 0
      Read wire = ◌≡◌ {A = Judged Field} (elim (eqb wire 0) [
        | true ↦ shortest_varint model t.place end t.next >>= λ v. sized t end v.value v.next 0
        | false ↦ elim (eqb wire 2) [
          | true ↦ shortest_varint model t.place end t.next >>= λ v. sized t end 0 v.next v.value
          | false ↦ elim (eqb wire 1) [ true ↦ sized t end 0 t.next 8 | false ↦ sized t end 0 t.next 4 ]
        ]
      ]) (pass f)

  pub contents_there : (pos : ℕ) (f : Field) → field model end pos ≡ pass f → f.number < 16 → f.wire ≡ LEN
      → f.start ≡ contents_at f.place (f.next - f.start)
  unfolding field contents_at
  contents_there pos f e h k =
      let a = passed_bind (tag model end pos) _ f e in
      let t = a.0 in
      let on = passed_tells (Follows t end) (AtTag t.place) (value model t end) f (value_tells model t end) a.2 in
      let short = tag_short pos t a.1 (rw on.1 at h) in
      let b = passed_bind (shortest_varint model t.place end t.next) _ f (length_read t f (sym on.5 ∙ k) a.2) in
      let v = b.0 in
      let width = varint_width model t.place end inside t.next v b.1 in
      let made = (sized_is t end 0 v.next v.value f b.2).1 in
      let start : f.start ≡ v.next = ap (λ (x : Field). x.start) made in
      let next : f.next ≡ v.next + v.value = ap (λ (x : Field). x.next) made in
      let size : f.next - f.start ≡ v.value = omega arith in
      rw size (omega arith)
