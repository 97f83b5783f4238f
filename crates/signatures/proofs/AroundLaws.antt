-- The names that an attribute of a function may not have: one of field 6 those before it there, one of field 11 all of field 6 and those before it.
use Prim.Native.Nat.{ℕ}
use mathlib.Core.Path.{◌≡◌, ap, ◌∙◌}
use mathlib.Core.List.{List, ◌++◌, map, append-nil}
use Rattle.wire.specs.declared.Field.{Field}
use Rattle.varint.specs.Bytes.{Bytes}
use Rattle.wire.specs.Message.{all_of, text, bytes_of, message}
use Rattle.wire.proofs.Fields.{all_of_ordered}
use Rattle.schema.specs.Numbers.{Function-attribute, Function-attribute_proto, Attribute-name}
use Rattle.headers.specs.Earlier.{before, names_in, texts_in}
use Rattle.headers.proofs.EarlierLaws.{before_all, before_none}
use Rattle.messages.specs.Around.{attributes_before}

-- the name of a default
abbrev pub named : (model : Bytes) → Field → Bytes
named model a = bytes_of model Attribute-name (message model a)

module _ (model : Bytes) (f : Field) where
  abbrev pub Attributes : List Field
  Attributes = all_of Function-attribute (message model f)

  abbrev pub Defaults : List Field
  Defaults = all_of Function-attribute_proto (message model f)

  all_attributes : before f.next Attributes ≡ Attributes
  all_attributes = before_all f.start f.next Attributes (all_of_ordered model Function-attribute f)

  all_defaults : before f.next Defaults ≡ Defaults
  all_defaults = before_all f.start f.next Defaults (all_of_ordered model Function-attribute_proto f)

  -- nothing of field 11 stands before the contents
  pub before_first : (place : ℕ) → attributes_before model f place f.start ≡ map (text model) (before place Attributes)
  unfolding attributes_before texts_in names_in
  before_first place =
      ap (λ (l : List Field). map (text model) (before place Attributes) ++ map (named model) l)
      (before_none f.start f.next Defaults (all_of_ordered model Function-attribute_proto f))
      ∙ append-nil (map (text model) (before place Attributes))

  -- all of field 6 stands before the end
  pub before_second : (place : ℕ) → attributes_before model f f.next place ≡ map (text model) Attributes ++ map (named model) (before place Defaults)
  unfolding attributes_before texts_in names_in
  before_second place = ap (λ (l : List Field). map (text model) l ++ map (named model) (before place Defaults)) all_attributes

  pub all_first : attributes_before model f f.next f.start ≡ map (text model) Attributes
  all_first = before_first f.next ∙ ap (map (text model)) all_attributes

  pub all_second : attributes_before model f f.next f.next ≡ map (text model) Attributes ++ map (named model) Defaults
  all_second = before_second f.next ∙ ap (λ (l : List Field). map (text model) Attributes ++ map (named model) l) all_defaults
