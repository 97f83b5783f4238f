-- An attribute's rules in the order of the code's tests.
use Rattle.std.specs.Prelude.{Err, Ok}
use Rattle.varint.specs.Answers.{Answer, outcome_of}
use Prim.Native.Nat.{ℕ}
use mathlib.Core.Path.{◌≡◌, sym, ap, ◌∙◌}
use mathlib.Core.Bool.{Bool, true, false, not, ◌&&◌}
use lib.ListN.{length}
use Rattle.varint.specs.Outcome.{pass, fail, ◌>>=◌, ◌>>◌, Judged, Rule, refused, refuse◌at:◌when:◌}
use Rattle.varint.specs.declared.Refusal.{Refusal}
use Rattle.wire.specs.declared.Field.{Field}
use Rattle.varint.specs.Lists.{is_empty}
use Rattle.varint.specs.Bytes.{Bytes, member}
use Rattle.wire.specs.Message.{number_of, text, bytes_of, message}
use Rattle.varint.proofs.Lists.{T_false}
use Rattle.varint.proofs.Passing.{passed_bind, passed_seq, passed_rule}
use Rattle.varint.proofs.Refusing.{when_broken, when_kept}
use Rattle.schema.specs.Numbers.{Node-attribute, Attribute-name, Attribute-type, Attribute-ref_attr_name}
use Rattle.rules.specs.Names.{Name, name_of, name_in}
use Rattle.rules.specs.Walk.{Walk, naming}
use Rattle.rules.specs.Node.{bad_value, unresolved, bad_reference, bad_attribute}
use Rattle.headers.specs.Earlier.{earlier_in}
use Rattle.values.specs.Answers.{more, naming_says, name_field}
use Rattle.values.proofs.NameLaws.{empty_none, empty_some, named_name, named_fails, named_passes}
use Rattle.values.proofs.RulingLaws.{ruled_kept, ruled_refused}
use Rattle.messages.specs.Around.{attributes_of, context}
use Rattle.messages.specs.Heads.{value_rules, attribute_rules}
use Rattle.messages.specs.declared.contexts.Surroundings.{Surroundings}

-- ---- its value: y is what it refers to

module _ (model : Bytes) (s : Surroundings) (f : Field) {y : Bytes} (l : y ≡ bytes_of model Attribute-ref_attr_name (message model f)) where
  abbrev Valued : Bool → Bytes → Rule
  Valued b z = do
    refuse 33 at: f.place when: (not (is_empty z) && not b)
    refuse 32 at: f.place when: bad_attribute z (message model f)

  valued : Valued (member y (attributes_of model s)) y ≡ value_rules model s f
  unfolding value_rules unresolved context
  valued = ap (λ (z : Bytes). Valued (member z (attributes_of model s)) z) l

  -- 32, of a value of its own and of a reference
  judged : {e b : Bool} → is_empty y ≡ e → b ≡ (elim e [
    | true ↦ bad_value (number_of Attribute-type (message model f)) (message model f)
    | false ↦ bad_reference (number_of Attribute-type (message model f)) (message model f)
  ]) → b ≡ bad_attribute y (message model f)
  unfolding bad_attribute
  judged e k =
      k ∙ sym (ap (λ (t : Bool). elim t [
        | true ↦ bad_value (number_of Attribute-type (message model f)) (message model f)
        | false ↦ bad_reference (number_of Attribute-type (message model f)) (message model f)
      ]) e)

  pub value_own : length y ≡ 0 → {v : Bool} → v ≡ bad_value (number_of Attribute-type (message model f)) (message model f)
      → (refuse 32 at: f.place when: v) ≡ value_rules model s f
  value_own z m =
      ap (λ (b : Bool). refuse 32 at: f.place when: b) (judged (empty_none y z) m)
      ∙ sym (when_kept 33 f.place _ (ap (λ (e : Bool). not e && not (member y (attributes_of model s))) (empty_none y z)))
      ∙ valued

  -- b is whether that is an attribute
  module _ (z : length y ≡ 0 → ⊥) {b : Bool} (i : b ≡ member y (attributes_of model s)) where
    refers : {t : Bool} → b ≡ t → (not (is_empty y) && not (member y (attributes_of model s))) ≡ not t
    refers k = ap (λ (e : Bool). not e && not (member y (attributes_of model s))) (empty_some y z) ∙ ap not (sym i ∙ k)

    pub value_unresolved : b ≡ false → refused 33 f.place ≡ value_rules model s f
    value_unresolved k = sym (when_broken 33 f.place _ (refers k)) ∙ valued

    pub value_refers : b ≡ true → {v : Bool} → v ≡ bad_reference (number_of Attribute-type (message model f)) (message model f)
        → (refuse 32 at: f.place when: v) ≡ value_rules model s f
    value_refers k m =
        ap (λ (b : Bool). refuse 32 at: f.place when: b) (judged (empty_some y z) m)
        ∙ sym (when_kept 33 f.place _ (refers k))
        ∙ valued

-- a rule by itself
pub bad_value_lem : (place : ℕ) {b : Bool} → b ≡ true → refused 32 place ≡ (refuse 32 at: place when: b)
unfolding refuse◌at:◌when:◌
bad_value_lem place k = sym (ap (λ (b : Bool). refuse 32 at: place when: b) k)

pub good_value : (place : ℕ) {b : Bool} → b ≡ false → pass tt ≡ (refuse 32 at: place when: b)
unfolding refuse◌at:◌when:◌
good_value place k = sym (ap (λ (b : Bool). refuse 32 at: place when: b) k)

-- ---- the attribute

module _ (model : Bytes) (s : Surroundings) (node f : Field) where
  -- what is asked once the name stands
  Asked : Name → Walk → Judged Walk
  Asked x t = do
    refuse 31 at: x.place when: member x.bytes (earlier_in model Node-attribute Attribute-name node f)
    value_rules model s f
    pass t

  asked : (w : Walk) {o : Judged Walk} → o ≡ naming 22 w (name_of model Attribute-name (message model f))
      → (o >>= Asked (name_of model Attribute-name (message model f))) ≡ attribute_rules model s node w f
  unfolding attribute_rules Asked
  asked w e = ap (λ (o : Judged Walk). o >>= Asked (name_of model Attribute-name (message model f))) e

  module _ {n : Answer (Field × ℕ)} (e : (w : Walk) → naming_says w n ≡ name_field model 22 Attribute-name w (message model f)) (w : Walk) where
    pub attribute_nameless : {r : Refusal} → n ≡ Err r → fail r ≡ attribute_rules model s node w f
    unfolding ◌>>=◌
    attribute_nameless k = asked w (named_fails _ _ _ _ _ e w k)

    module _ {g : Field} {k : ℕ} (i : n ≡ Ok (g, k)) {x : Bytes} (t : x ≡ text model g) {b : Bool}
        (j : b ≡ member x (earlier_in model Node-attribute Attribute-name node f)) where
      named_by : Asked (record { bytes = x; place = g.place }) (more w k) ≡ attribute_rules model s node w f
      unfolding name_in ◌>>=◌
      named_by =
          ap (λ (y : Bytes). Asked (record { bytes = y; place = g.place }) (more w k)) t
          ∙ ap (λ (y : Name). Asked y (more w k)) (named_name _ _ _ _ _ e i)
          ∙ asked w (named_passes _ _ _ _ _ e w i)

      pub attribute_twice : b ≡ true → refused 31 g.place ≡ attribute_rules model s node w f
      unfolding Asked
      attribute_twice h = sym (when_broken 31 g.place _ (sym j ∙ h)) ∙ named_by

      -- r is the ruling on its value
      module _ (h : b ≡ false) (r : Answer (Unit {0})) (ruled : outcome_of r ≡ value_rules model s f) where
        unique : (value_rules model s f >> pass (more w k)) ≡ attribute_rules model s node w f
        unfolding Asked
        unique = sym (when_kept 31 g.place _ (sym j ∙ h)) ∙ named_by

        pub attribute_bad : {x : Refusal} → r ≡ Err x → fail x ≡ attribute_rules model s node w f
        unfolding ◌>>◌
        attribute_bad u = ap (λ (o : Rule). o >> pass (more w k)) (sym (ruled_refused ruled u)) ∙ unique

        pub attribute_good : r ≡ (Ok tt) → pass (more w k) ≡ attribute_rules model s node w f
        unfolding ◌>>◌
        attribute_good u = ap (λ (o : Rule). o >> pass (more w k)) (sym (ruled_kept ruled u)) ∙ unique

-- an attribute whose rules are kept has a good value
pub attribute_value : (model : Bytes) (s : Surroundings) (node : Field) (w v : Walk) (f : Field) → attribute_rules model s node w f ≡ pass v
    → bad_attribute (bytes_of model Attribute-ref_attr_name (message model f)) (message model f) ≡ false
unfolding attribute_rules value_rules
attribute_value model s node w v f e =
    let p = passed_bind (naming 22 w (name_of model Attribute-name (message model f))) _ v e in
    let q = passed_seq _ _ v (passed_seq _ _ v p.2).1 in
    T_false _ (passed_rule 32 f.place _ (passed_seq _ _ tt q.0).1)
