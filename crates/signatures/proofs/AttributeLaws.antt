-- The rules of a function's attributes in the order of the code's tests.
use Rattle.std.specs.Prelude.{Err, Ok}
use Rattle.varint.specs.Answers.{Answer, outcome_of}
use Prim.Native.Nat.{ℕ}
use mathlib.Core.Path.{◌≡◌, refl, sym, ap, ◌∙◌}
use mathlib.Core.Bool.{Bool, true, false, not}
use lib.ListN.{length}
use Rattle.varint.specs.Outcome.{pass, fail, ◌>>=◌, ◌>>◌, Judged, Rule, refused, refuse◌at:◌when:◌}
use Rattle.varint.specs.declared.Refusal.{Refusal}
use Rattle.wire.specs.declared.Field.{Field}
use Rattle.varint.specs.Lists.{is_empty}
use Rattle.varint.specs.Bytes.{Bytes, member}
use Rattle.wire.specs.Message.{number_of, text, bytes_of, message}
use Rattle.varint.proofs.Lists.{T_false}
use Rattle.varint.proofs.Passing.{passed_seq, passed_rule}
use Rattle.varint.proofs.Refusing.{when_broken, when_kept, broken, kept}
use Rattle.schema.specs.Numbers.{Attribute-name, Attribute-type, Attribute-ref_attr_name}
use Rattle.rules.specs.Names.{Name, name_of, name_in}
use Rattle.rules.specs.Walk.{Walk, start, naming}
use Rattle.rules.specs.Function.{bad_default}
use Rattle.values.specs.Answers.{more, tally_says, naming_says, name_field}
use Rattle.values.proofs.TallyLaws.{tallied, untallied}
use Rattle.values.proofs.NameLaws.{empty_none, empty_some, named_name, named_fails, named_passes}
use Rattle.values.proofs.RulingLaws.{ruled_kept, ruled_refused}
use Rattle.messages.specs.Around.{attributes_before}
use Rattle.signatures.specs.Signature.{default_rules, attribute_again, default_again}

-- ---- a name of field 6

module _ (model : Bytes) (f a : Field) where
  -- what is asked once the name stands
  Unique : Walk → Judged Walk
  Unique v = do
    refuse 42 at: a.place when: member (text model a) (attributes_before model f a.place f.start)
    pass v

  unique : (w : Walk) {o : Judged Walk} → naming 22 w (name_in model a) ≡ o → (o >>= Unique) ≡ attribute_again model f w a
  unfolding attribute_again Unique
  unique w k = ap (λ (o : Judged Walk). o >>= Unique) (sym k)

  -- t is the tally of the name
  module _ {t : Answer ℕ} (e : (w : Walk) → tally_says w t ≡ naming 22 w (name_in model a)) where
    pub attribute_misnamed : {x : Refusal} → t ≡ Err x → (w : Walk) → fail x ≡ attribute_again model f w a
    unfolding ◌>>=◌
    attribute_misnamed k w = unique w (untallied w (e w) k)

    module _ {k : ℕ} (i : t ≡ Ok k) where
      -- a name that is counted is not empty
      pub attribute_some : is_empty (text model a) ≡ false
      unfolding naming name_in
      attribute_some = T_false _ (passed_rule 22 _ _ (passed_seq _ _ _ (tallied start (e start) i)).0)

      -- b is whether it stood before
      module _ {x : Bytes} (u : x ≡ text model a) {b : Bool} (j : b ≡ member x (attributes_before model f a.place f.start)) (w : Walk) where
        asked : (refuse 42 at: a.place when: b >> pass (more w k)) ≡ attribute_again model f w a
        unfolding Unique ◌>>=◌
        asked =
            ap (λ (v : Bool). refuse 42 at: a.place when: v >> pass (more w k))
            (j ∙ ap (λ (y : Bytes). member y (attributes_before model f a.place f.start)) u)
            ∙ unique w (tallied w (e w) i)

        pub attribute_twice : b ≡ true → refused 42 a.place ≡ attribute_again model f w a
        attribute_twice h = sym (when_broken 42 a.place _ h) ∙ asked

        pub attribute_once : b ≡ false → pass (more w k) ≡ attribute_again model f w a
        attribute_once h = sym (when_kept 42 a.place _ h) ∙ asked

-- ---- the value of a default: y is what it refers to

module _ (model : Bytes) (a : Field) {y : Bytes} (l : y ≡ bytes_of model Attribute-ref_attr_name (message model a)) where
  abbrev Value : Rule
  Value = refuse 32 at: a.place when: bad_default (number_of Attribute-type (message model a)) (message model a)

  refers : {t : Bool} → is_empty y ≡ t → (refuse 33 at: a.place when: not t >> Value) ≡ default_rules model a
  unfolding default_rules
  refers k =
      ap (λ (t : Bool). refuse 33 at: a.place when: not t >> Value) (sym k)
      ∙ ap (λ (z : Bytes). refuse 33 at: a.place when: not (is_empty z) >> Value) l

  pub default_refers : (length y ≡ 0 → ⊥) → refused 33 a.place ≡ default_rules model a
  default_refers z = sym (when_broken 33 a.place Value refl) ∙ refers (empty_some y z)

  module _ (z : length y ≡ 0) {v : Bool} (m : v ≡ bad_default (number_of Attribute-type (message model a)) (message model a)) where
    own : Value ≡ default_rules model a
    own = sym (when_kept 33 a.place Value refl) ∙ refers (empty_none y z)

    pub default_bad : v ≡ true → refused 32 a.place ≡ default_rules model a
    default_bad k = sym (broken 32 a.place (sym m ∙ k)) ∙ own

    pub default_good : v ≡ false → pass tt ≡ default_rules model a
    default_good k = sym (kept 32 a.place (sym m ∙ k)) ∙ own

-- ---- a default: n is what is read of its name

module _ (model : Bytes) (f a : Field) where
  -- what is asked once the name stands
  Asked : Name → Walk → Judged Walk
  Asked x t = do
    refuse 42 at: x.place when: member x.bytes (attributes_before model f f.next a.place)
    default_rules model a
    pass t

  asks : (w : Walk) {o : Judged Walk} → o ≡ naming 22 w (name_of model Attribute-name (message model a))
      → (o >>= Asked (name_of model Attribute-name (message model a))) ≡ default_again model f w a
  unfolding default_again Asked
  asks w e = ap (λ (o : Judged Walk). o >>= Asked (name_of model Attribute-name (message model a))) e

  module _ {n : Answer (Field × ℕ)} (e : (w : Walk) → naming_says w n ≡ name_field model 22 Attribute-name w (message model a)) (w : Walk) where
    pub default_nameless : {r : Refusal} → n ≡ Err r → fail r ≡ default_again model f w a
    unfolding ◌>>=◌
    default_nameless k = asks w (named_fails _ _ _ _ _ e w k)

    -- b is whether the name stood before, in either list
    module _ {g : Field} {k : ℕ} (i : n ≡ Ok (g, k)) {x : Bytes} (t : x ≡ text model g) {b : Bool}
        (j : b ≡ member x (attributes_before model f f.next a.place)) where
      named_by : Asked (record { bytes = x; place = g.place }) (more w k) ≡ default_again model f w a
      unfolding name_in ◌>>=◌
      named_by =
          ap (λ (y : Bytes). Asked (record { bytes = y; place = g.place }) (more w k)) t
          ∙ ap (λ (y : Name). Asked y (more w k)) (named_name _ _ _ _ _ e i)
          ∙ asks w (named_passes _ _ _ _ _ e w i)

      pub default_twice : b ≡ true → refused 42 g.place ≡ default_again model f w a
      unfolding Asked
      default_twice h = sym (when_broken 42 g.place _ (sym j ∙ h)) ∙ named_by

      -- r is the ruling on its value
      module _ (h : b ≡ false) (r : Answer (Unit {0})) (ruled : outcome_of r ≡ default_rules model a) where
        valued : (default_rules model a >> pass (more w k)) ≡ default_again model f w a
        unfolding Asked
        valued = sym (when_kept 42 g.place _ (sym j ∙ h)) ∙ named_by

        pub default_refused : {x : Refusal} → r ≡ Err x → fail x ≡ default_again model f w a
        unfolding ◌>>◌
        default_refused u = ap (λ (o : Rule). o >> pass (more w k)) (sym (ruled_refused ruled u)) ∙ valued

        pub default_kept : r ≡ (Ok tt) → pass (more w k) ≡ default_again model f w a
        unfolding ◌>>◌
        default_kept u = ap (λ (o : Rule). o >> pass (more w k)) (sym (ruled_kept ruled u)) ∙ valued
