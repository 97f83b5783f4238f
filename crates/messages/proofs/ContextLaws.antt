-- What surrounds a graph, as its nodes, references and initializers ask for it.
use Prim.Native.Nat.{ℕ}
use mathlib.Core.Path.{◌≡◌, refl, sym, ap, ap₂, ◌∙◌}
use mathlib.Core.Bool.{Bool, true, false, not, ◌&&◌, ◌||◌, and-true, and-false}
use mathlib.Core.List.{List, []}
use Rattle.wire.specs.declared.Field.{Field}
use Rattle.wire.specs.Message.{all_of, message}
use Rattle.schema.specs.Numbers.{Function-attribute, Function-attribute_proto, Attribute-name}
use Rattle.varint.specs.Bytes.{Bytes, member}
use Rattle.headers.specs.Earlier.{before, names_in, texts_in}
use Rattle.headers.proofs.EarlierLaws.{member_append}
use Rattle.rules.specs.Graph.{at_ir3, takes_defaults}
use Rattle.messages.specs.Around.{attributes_before, attributes_of, context}
use Rattle.messages.specs.declared.contexts.Owner.{Owner}
use Rattle.messages.specs.declared.contexts.Owner.TheVariants.{Model, Function}
use Rattle.messages.specs.declared.contexts.Surroundings.{Surroundings}

-- ---- the attributes of a function

-- r is whether the name is in the first list, t in the second
pub attribute_either : (model : Bytes) (f : Field) (first second : ℕ) (x : Bytes) {r t : Bool}
    → r ≡ member x (texts_in model (before first (all_of Function-attribute (message model f))))
    → t ≡ member x (names_in model Attribute-name (before second (all_of Function-attribute_proto (message model f))))
    → (r || t) ≡ member x (attributes_before model f first second)
unfolding attributes_before
attribute_either model f first second x e k = ap₂ (λ (a b : Bool). a || b) e k ∙ sym (member_append x _ _)

module _ (model : Bytes) (f : Field) (first second : ℕ) (x : Bytes) {r : Bool}
    (e : r ≡ member x (texts_in model (before first (all_of Function-attribute (message model f))))) where
  pub attribute_first : r ≡ true → true ≡ member x (attributes_before model f first second)
  attribute_first k = ap (λ (b : Bool). b || member x (names_in model Attribute-name (before second (all_of Function-attribute_proto (message model f))))) (sym k) ∙ attribute_either model f first second x e refl

  pub attribute_second : r ≡ false → {t : Bool} → t ≡ member x (names_in model Attribute-name (before second (all_of Function-attribute_proto (message model f))))
      → t ≡ member x (attributes_before model f first second)
  attribute_second k {t} h = ap (λ (b : Bool). b || t) (sym k) ∙ attribute_either model f first second x e h

module _ (model : Bytes) (s : Surroundings) where
  abbrev Attributes : Owner → List Bytes
  Attributes o = elim o [ Model f ↦ [] | Function f ↦ attributes_before model f f.next f.next ]

  pub attributes_all : {f : Field} → s.owner ≡ Function f → attributes_of model s ≡ attributes_before model f f.next f.next
  unfolding attributes_of
  attributes_all e = ap Attributes e

  pub resolved_none : {f : Field} (x : Bytes) → s.owner ≡ Model f → false ≡ member x (attributes_of model s)
  unfolding member attributes_of
  resolved_none x e = ap (λ (o : Owner). member x (Attributes o)) (sym e)

module _ (s : Surroundings) (model : Bytes) where
  pub main_takes : s.main ≡ true → true ≡ takes_defaults (context model s)
  unfolding takes_defaults context
  main_takes e = ap (λ (b : Bool). b || at_ir3 (context model s)) (sym e)

  -- t is whether it is IR 3
  pub nested_takes : s.main ≡ false → {t : Bool} → t ≡ at_ir3 (context model s) → t ≡ takes_defaults (context model s)
  unfolding takes_defaults context
  nested_takes e i = i ∙ ap (λ (b : Bool). b || at_ir3 (context model s)) (sym e)

  pub own_lacks : {own : Bool} → own ≡ true → false ≡ (at_ir3 (context model s) && not own)
  own_lacks e = sym (ap (λ (b : Bool). at_ir3 (context model s) && not b) e ∙ and-false (at_ir3 (context model s)))

  pub other_lacks : {own : Bool} → own ≡ false → {t : Bool} → t ≡ at_ir3 (context model s) → t ≡ (at_ir3 (context model s) && not own)
  other_lacks e i = i ∙ sym (ap (λ (b : Bool). at_ir3 (context model s) && not b) e ∙ and-true (at_ir3 (context model s)))
