-- What a function says before its body, in the order of the code's tests.
use Rattle.std.specs.Prelude.{Err, Ok}
use Rattle.varint.specs.Answers.{Answer, outcome_of}
use Prim.Native.Nat.{ℕ, ◌≤◌}
use mathlib.Core.Path.{◌≡◌, sym, ap, subst, ◌∙◌}
use mathlib.Core.Bool.{Bool, true, false, not}
use mathlib.Core.List.{List, []}
use Rattle.varint.specs.Outcome.{pass, fail, ◌>>=◌, ◌>>◌, each, Judged, Rule, refused, refuse◌at:◌when:◌}
use Rattle.varint.specs.declared.Refusal.{Refusal}
use Rattle.wire.specs.declared.Field.{Field}
use Rattle.varint.specs.Lists.{is_empty, present}
use Rattle.varint.specs.Bytes.{Bytes}
use Rattle.wire.specs.Message.{all_of, first_of, message}
use Rattle.varint.proofs.Lists.{no_first}
use Rattle.varint.proofs.Refusing.{when_broken, when_kept}
use Rattle.schema.specs.Numbers.{Function-name, Function-attribute, Function-opset_import, Function-attribute_proto}
use Rattle.schema.specs.Answers.{silent}
use Rattle.rules.specs.Names.{name_of}
use Rattle.rules.specs.Walk.{Walk, naming}
use Rattle.rules.specs.Import.{opset_import}
use Rattle.rules.specs.Function.{function_imports}
use Rattle.index.specs.declared.listings.Listing.{Listing}
use Rattle.values.specs.Answers.{more, naming_says, name_field}
use Rattle.values.proofs.NameLaws.{named_fails, named_passes}
use Rattle.values.proofs.RulingLaws.{ruled_kept, ruled_refused}
use Rattle.headers.specs.Imports.{imports_in}
use Rattle.headers.specs.Imported.{Imported, ruling_of, holds}
use Rattle.headers.specs.declared.imports.Imports.{Imports}
use Rattle.headers.proofs.HeaderLaws.{refused_heading, imported_heading}
use Rattle.signatures.specs.Signature.{attribute_again, default_again, attributes_again, named_again, signature_again, attributes_says}
use Rattle.signatures.proofs.AnswerLaws.{said_listed, said_refused}

-- ---- imports: b is whether there is one

module _ (model list : Bytes) (f : Field) {b : Bool} (e : b ≡ present (first_of Function-opset_import (message model f))) where
  abbrev Each : Judged (List Bytes)
  Each = each (opset_import model list) [] (all_of Function-opset_import (message model f))

  empty : {t : Bool} → b ≡ t → is_empty (all_of Function-opset_import (message model f)) ≡ not t
  unfolding first_of
  empty k = no_first (all_of Function-opset_import (message model f)) ∙ ap not (sym e ∙ k)

  pub imports_none : b ≡ false → refused 12 f.place ≡ silent (function_imports model list (message model f))
  unfolding function_imports message silent ◌>>=◌
  imports_none k = sym (ap silent (when_broken 12 f.place Each (empty k)))

  -- r is what the imports say
  pub imports_some : b ≡ true → {r : Rule} → r ≡ silent Each → r ≡ silent (function_imports model list (message model f))
  unfolding function_imports message
  imports_some k h = h ∙ sym (ap silent (when_kept 12 f.place Each (empty k)))

-- those that are passed are left in the lists
pub held_imports : (model : Bytes) (n : ℕ) (m : Field) (seed top : ℕ) (lists : List ℕ) {h : Answer Imports} → holds model n m seed top lists h → {i : Imports}
    → h ≡ Ok i
    → Imported model seed lists i (imports_in model n m) × (top ≤ i.listing.top)
unfolding holds
held_imports model n m seed top lists d e = subst (holds model n m seed top lists) e d

-- ---- attributes

module _ (model : Bytes) (f : Field) where
  Defaults : Walk → Judged Walk
  Defaults v = each (default_again model f) v (all_of Function-attribute_proto (message model f))

  defaults : (w : Walk) {o : Judged Walk} → each (attribute_again model f) w (all_of Function-attribute (message model f)) ≡ o
      → (o >>= Defaults) ≡ attributes_again model w f
  unfolding attributes_again Defaults
  defaults w k = ap (λ (o : Judged Walk). o >>= Defaults) (sym k)

  -- r is what those without a default say
  module _ {r : Answer (Listing × ℕ)} (e : (w : Walk) → attributes_says w r ≡ each (attribute_again model f) w (all_of Function-attribute (message model f))) where
    pub attributes_refused : {x : Refusal} → r ≡ Err x → (w : Walk) → fail x ≡ attributes_again model w f
    unfolding ◌>>=◌
    attributes_refused k w = defaults w (said_refused w (e w) k)

    -- d is what the defaults say
    pub attributes_listed : {l : Listing} {k : ℕ} → r ≡ Ok (l, k) → (d : Answer (Listing × ℕ))
        → ((w : Walk) → attributes_says w d ≡ each (default_again model f) w (all_of Function-attribute_proto (message model f)))
        → (w : Walk) → attributes_says (more w k) d ≡ attributes_again model w f
    unfolding Defaults ◌>>=◌
    attributes_listed {l} {k} i d h w = h (more w k) ∙ defaults w (said_listed w (e w) i)

-- ---- the name and 41: n is what is read of the name

module _ (model : Bytes) (f : Field) (twice : Bool) where
  Once : Walk → Judged Walk
  Once v = do
    refuse 41 at: f.place when: twice
    attributes_again model v f

  once : (w : Walk) {o : Judged Walk} → o ≡ naming 22 w (name_of model Function-name (message model f)) → (o >>= Once) ≡ named_again model twice w f
  unfolding named_again Once
  once w k = ap (λ (o : Judged Walk). o >>= Once) k

  module _ {n : Answer (Field × ℕ)} (e : (w : Walk) → naming_says w n ≡ name_field model 22 Function-name w (message model f)) where
    pub function_misnamed : {x : Refusal} → n ≡ Err x → (w : Walk) → fail x ≡ named_again model twice w f
    unfolding ◌>>=◌
    function_misnamed k w = once w (named_fails _ _ _ _ _ e w k)

    module _ {g : Field} {k : ℕ} (i : n ≡ Ok (g, k)) (w : Walk) where
      pub function_twice : twice ≡ true → refused 41 f.place ≡ named_again model twice w f
      unfolding Once ◌>>=◌
      function_twice h = sym (when_broken 41 f.place _ h) ∙ once w (named_passes _ _ _ _ _ e w i)

      -- o is what its attributes say
      pub function_once : twice ≡ false → {o : Judged Walk} → o ≡ attributes_again model (more w k) f → o ≡ named_again model twice w f
      unfolding Once ◌>>=◌
      function_once h d = d ∙ sym (when_kept 41 f.place _ h) ∙ once w (named_passes _ _ _ _ _ e w i)

-- ---- all of it

module _ (model list : Bytes) (twice : Bool) (f : Field) where
  Last : Walk → Judged Walk
  Last d = do
    silent (function_imports model list (message model f))
    pass d

  last : (w : Walk) {o : Judged Walk} → named_again model twice w f ≡ o → (o >>= Last) ≡ signature_again model list twice w f
  unfolding signature_again Last
  last w k = ap (λ (o : Judged Walk). o >>= Last) (sym k)

  -- r is what name and attributes say
  module _ {r : Answer (Listing × ℕ)} (e : (w : Walk) → attributes_says w r ≡ named_again model twice w f) where
    pub signature_refused : {x : Refusal} → r ≡ Err x → (w : Walk) → fail x ≡ signature_again model list twice w f
    unfolding ◌>>=◌
    signature_refused k w = last w (said_refused w (e w) k)

    module _ {l : Listing} {k : ℕ} (i : r ≡ Ok (l, k)) where
      passed : (w : Walk) {o : Rule} → silent (function_imports model list (message model f)) ≡ o → (o >> pass (more w k)) ≡ signature_again model list twice w f
      unfolding Last ◌>>=◌
      passed w j = ap (λ (o : Rule). o >> pass (more w k)) (sym j) ∙ last w (said_listed w (e w) i)

      -- h is what the imports say
      module _ {h : Answer Imports} (ruled : outcome_of (ruling_of h) ≡ silent (function_imports model list (message model f))) where
        pub signature_unimported : {x : Refusal} → h ≡ Err x → (w : Walk) → fail x ≡ signature_again model list twice w f
        unfolding ◌>>◌
        signature_unimported j w = passed w (ruled_refused ruled (refused_heading j))

        pub signature_imported : {m : Imports} → h ≡ Ok m → (w : Walk) → pass (more w k) ≡ signature_again model list twice w f
        unfolding ◌>>◌
        signature_imported j w = passed w (ruled_kept ruled (imported_heading j))
