-- What a function says before its body, and its outputs: of a function's head the other files know this and no more.
use Prim.Native.Nat.{ℕ, ◌+◌}
use native.Mathlib.Omega.{arith}
use mathlib.Core.Path.{◌≡◌, refl, ap, ◌∙◌}
use mathlib.Core.Bool.{false}
use mathlib.Core.List.{List, [], ◌∷◌, ◌++◌, map, flat_map}
use Rattle.varint.specs.Outcome.{each}
use Rattle.varint.specs.declared.Refusal.{Refusal}
use Rattle.wire.specs.declared.Field.{Field}
use Rattle.varint.specs.Lists.{contains}
use Rattle.varint.specs.Bytes.{Bytes}
use Rattle.wire.specs.Message.{Message, all_of, text, bytes_of, message}
use Rattle.varint.proofs.Lists.{All, subset}
use Rattle.varint.proofs.Tells.{Tells, Any, any_all, Among, tells_bind, tells_rule}
use Rattle.schema.specs.Numbers.{Function-name, Function-attribute, Function-opset_import, Function-attribute_proto, Attribute-name}
use Rattle.rules.specs.Names.{name_of, name_in}
use Rattle.rules.specs.Walk.{Walk, Along, along, naming}
use Rattle.rules.specs.Identity.{Identity}
use Rattle.rules.specs.Count.{odds}
use Rattle.rules.specs.Function.{function_attribute, function_default, function_output, Heading, function_imports, function_head}
use Rattle.rules.proofs.Rules.{Adds, odds_append, map_flat, naming_tells, adds_along, GoodMessage, good_message, good_all, good_place, imports_tell}

abbrev pub Function-refusals : List ℕ
Function-refusals = 21 ∷ 22 ∷ 41 ∷ 42 ∷ 33 ∷ 32 ∷ 12 ∷ 13 ∷ 14 ∷ []

abbrev pub Output-refusals : List ℕ
Output-refusals = 21 ∷ 22 ∷ 35 ∷ []

module _ (model : Bytes) where
  -- the name of an attribute, of one with a default, and all names of the head, as `function_names` has them
  abbrev pub in_attribute : Field → List Bytes
  in_attribute f = text model f ∷ []

  abbrev pub in_default : Field → List Bytes
  in_default a = bytes_of model Attribute-name (message model a) ∷ []

  abbrev pub head_names : Message → List Bytes
  head_names m =
      bytes_of model Function-name m
      ∷ map (text model) (all_of Function-attribute m)
      ++ map (λ a. bytes_of model Attribute-name (message model a)) (all_of Function-attribute_proto m)

  head_odds : (m : Message) → odds (head_names m)
      ≡ odds (bytes_of model Function-name m ∷ []) + odds (flat_map in_attribute (all_of Function-attribute m)) + odds (flat_map in_default (all_of Function-attribute_proto m))
  head_odds m =
      let name = bytes_of model Function-name m in
      let attributes = flat_map in_attribute (all_of Function-attribute m) in
      let defaults = flat_map in_default (all_of Function-attribute_proto m) in
      rw (map_flat (text model) (all_of Function-attribute m), map_flat (λ a. bytes_of model Attribute-name (message model a)) (all_of Function-attribute_proto m))
      (odds_append (name ∷ attributes) defaults ∙ ap (λ (n : ℕ). n + odds defaults) (odds_append (name ∷ []) attributes))

  -- The head adds no name, counts those that it tests, and what it puts around the body is not the main graph's and has the model's IR version.
  abbrev pub Headed : (ir_version : ℕ) → Walk → Message → Heading → Type 0
  Headed v w m h = Adds w (odds (head_names m)) h.walk × (h.around.main ≡ false) × (h.around.ir_version ≡ v)

module _ (model : Bytes) (Good : Field → Type 0) (Q : ℕ → Type 0) (good_at : (f : Field) → Good f → Q f.place)
    (good_in : (f : Field) → Good f → All Good (message model f).fields) where
  abbrev P : Refusal → Type 0
  P = Among Function-refusals Q

  pub function_attribute_tells : (w : Along) (f : Field) → Good f
      → Tells (λ t. Adds w.walk (odds (in_attribute model f)) t.walk) P (function_attribute model w f)
  unfolding function_attribute name_in contains
  function_attribute_tells w f g =
      let R : Along → Type 0 = λ t. Adds w.walk (odds (in_attribute model f)) t.walk in
      tells_bind (Adds w.walk (odds (in_attribute model f))) R P (naming 22 w.walk (name_in model f)) _
      (naming_tells P w.walk (name_in model f) 22 (tt, good_at f g, refl) (tt, good_at f g, refl)) (λ t h.
      tells_rule R P 42 _ _ _ (λ b. (tt, good_at f g, refl)) (λ b. h))

  pub function_default_tells : (w : Along) (f : Field) → Good f
      → Tells (λ t. Adds w.walk (odds (in_default model f)) t.walk) P (function_default model w f)
  unfolding function_default name_of message contains
  function_default_tells w f g =
      let m = message model f in
      let x = name_of model Attribute-name m in
      let R : Along → Type 0 = λ t. Adds w.walk (odds (in_default model f)) t.walk in
      let p = good_place model Good Q good_at good_in Attribute-name m (good_message model Good Q good_at good_in f g) in
      tells_bind (Adds w.walk (odds (in_default model f))) R P (naming 22 w.walk x) _
      (naming_tells P w.walk x 22 (tt, p, refl) (tt, p, refl)) (λ t h.
      tells_rule R P 42 _ _ _ (λ b. (tt, p, refl)) (λ b.
      tells_rule R P 33 _ _ _ (λ b. (tt, good_at f g, refl)) (λ b.
      tells_rule R P 32 _ _ _ (λ b. (tt, good_at f g, refl)) (λ b. h))))

  pub function_imports_tell : (list : Bytes) (m : Message) → GoodMessage model Good Q good_at good_in m → Tells Any P (function_imports model list m)
  unfolding function_imports contains subset
  function_imports_tell list m g =
      tells_rule Any P 12 _ _ _ (λ b. (tt, g.0, refl)) (λ b.
      imports_tell model Good Q good_at good_in list Function-refusals Function-opset_import m tt g)

  pub function_head_tells : (list : Bytes) (v : ℕ) (earlier : List Identity) (w : Walk) (m : Message) → GoodMessage model Good Q good_at good_in m
      → Tells (Headed model v w m) P (function_head model list v earlier w m)
  unfolding function_head name_of along contains
  function_head_tells list v earlier w m g =
      let x = name_of model Function-name m in
      let attributes = all_of Function-attribute m in
      let defaults = all_of Function-attribute_proto m in
      let R : Heading → Type 0 = Headed model v w m in
      let p = good_place model Good Q good_at good_in Function-name m g in
      let e = head_odds model m in
      tells_bind (Adds w (odds (x.bytes ∷ []))) R P (naming 22 w x) _ (naming_tells P w x 22 (tt, p, refl) (tt, p, refl)) (λ t h.
      tells_rule R P 41 _ _ _ (λ b. (tt, g.0, refl)) (λ b.
      tells_bind (λ a. Adds t (odds (flat_map (in_attribute model) attributes)) a.walk) R P (each (function_attribute model) (along t) attributes) _
      (adds_along (λ a. a.walk) Good P (in_attribute model) (function_attribute model) function_attribute_tells attributes
      (good_all model Good Q good_at good_in Function-attribute m g) (along t)) (λ a h₂.
      tells_bind (λ d. Adds a.walk (odds (flat_map (in_default model) defaults)) d.walk) R P (each (function_default model) a defaults) _
      (adds_along (λ d. d.walk) Good P (in_default model) (function_default model) function_default_tells defaults
      (good_all model Good Q good_at good_in Function-attribute_proto m g) a) (λ d h₃.
      tells_bind Any R P (function_imports model list m) _ (function_imports_tell list m g) (λ imports _.
      ((h₃.0 ∙ h₂.0 ∙ h.0, h₃.1 ∙ h₂.1 ∙ h.1, h₃.2 ∙ h₂.2 ∙ h.2, omega arith), refl, refl))))))

  -- (35 is tied to a stop: beside the runner an output has a law of its own)
  pub function_output_tells : (w : Walk) (f : Field) → Good f → Tells (Adds w (odds (text model f ∷ []))) (Among Output-refusals Q) (function_output model w f)
  unfolding function_output name_in contains
  function_output_tells w f g =
      let R : Walk → Type 0 = Adds w (odds (text model f ∷ [])) in
      tells_bind R R (Among Output-refusals Q) (naming 22 w (name_in model f)) _
      (naming_tells (Among Output-refusals Q) w (name_in model f) 22 (tt, good_at f g, refl) (tt, good_at f g, refl)) (λ v h.
      tells_rule R (Among Output-refusals Q) 35 _ _ _ (λ b. (tt, good_at f g, refl)) (λ b. h))

-- ---- the same where nothing is asked of places

module _ (model : Bytes) where
  pub head_tells : (list : Bytes) (v : ℕ) (earlier : List Identity) (w : Walk) (m : Message)
      → Tells (Headed model v w m) (Among Function-refusals Any) (function_head model list v earlier w m)
  head_tells list v earlier w m =
      function_head_tells model Any Any (λ f g. tt) (λ f g. any_all (message model f).fields) list v earlier w m (tt, any_all m.fields)

  pub output_tells : (w : Walk) (f : Field) → Tells (Adds w (odds (text model f ∷ []))) (Among Output-refusals Any) (function_output model w f)
  output_tells w f = function_output_tells model Any Any (λ f g. tt) (λ f g. any_all (message model f).fields) w f tt
