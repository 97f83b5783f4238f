-- What the code reads again before a function's body is the head of a function: what the definitions keep of earlier names answers as what the code reads again.
use Prim.Native.Nat.{ℕ, ◌+◌, ◌≤◌}
use native.Mathlib.Omega.{arith}
use mathlib.Core.Path.{◌≡◌, refl, sym, ap, subst, ◌∙◌}
use mathlib.Core.Bool.{Bool, false, not}
use mathlib.Core.List.{List, [], ◌∷◌, ◌++◌, map}
use lib.ListN.{length}
use Rattle.varint.specs.Outcome.{pass, fail, ◌>>=◌, ◌>>◌, each, Judged, Rule, refuse◌at:◌when:◌}
use Rattle.wire.specs.declared.Field.{Field}
use Rattle.varint.specs.Lists.{is_empty}
use Rattle.varint.specs.Bytes.{Bytes, member}
use Rattle.wire.specs.Message.{all_of, number_of, text, bytes_of, message}
use Rattle.wire.specs.Order.{Ordered}
use Rattle.wire.proofs.Fields.{all_of_ordered}
use Rattle.varint.proofs.Passing.{passed_seq}
use Rattle.varint.proofs.Tells.{Tells, Any, tells_weaken}
use Rattle.schema.specs.Numbers.{Function-name, Function-attribute, Function-opset_import, Function-attribute_proto}
use Rattle.schema.specs.Numbers.{Attribute-name, Attribute-type, Attribute-ref_attr_name}
use Rattle.schema.specs.Answers.{silent}
use Rattle.rules.specs.Names.{name_of, name_in}
use Rattle.rules.specs.Walk.{Walk, Along, along, naming}
use Rattle.rules.specs.Identity.{Identity, identity_of, identified}
use Rattle.rules.specs.Count.{odds}
use Rattle.rules.specs.Function.{bad_default, function_attribute, function_default, Heading, function_imports, function_head}
use Rattle.rules.proofs.Matching.{bind_assoc}
use Rattle.rules.proofs.Rules.{Adds}
use Rattle.rules.proofs.NamesFew.{odds_few}
use Rattle.headers.specs.Earlier.{before}
use Rattle.headers.specs.Imports.{imports_in}
use Rattle.headers.proofs.Silent.{seq_bind}
use Rattle.headers.proofs.EarlierLaws.{before_split}
use Rattle.headers.proofs.ImportLaws.{All, imports_agree}
use Rattle.messages.specs.Around.{attributes_before}
use Rattle.signatures.specs.Signature.{default_rules, attribute_again, default_again, attribute_names, attributes_again, named_again, signature_again}
use Rattle.signatures.proofs.CountLaws.{head_names, signature_adds}
use Rattle.signatures.proofs.AroundLaws.{Attributes, Defaults, named, before_first, before_second, all_second}
use Rattle.signatures.proofs.KeptLaws.{Agree, keeping, push, push_agrees, each_keeps, seq_assoc, seq_one}

-- what stands in a list before one of its fields
stood : (model : Bytes) (number : ℕ) (f : Field) (pre rest : List Field) (a : Field) → all_of number (message model f) ≡ pre ++ (a ∷ rest)
    → before a.place (all_of number (message model f)) ≡ pre
stood model number f pre rest a e =
    ap (before a.place) e ∙ before_split f.start f.next pre a rest (subst (Ordered f.start f.next) e (all_of_ordered model number f))

module _ (model : Bytes) (f : Field) where
  -- ---- one attribute

  attribute_keeps : (pre rest : List Field) (a : Field) → Attributes model f ≡ pre ++ (a ∷ rest) → (v : Along) → Agree v.earlier (map (text model) pre)
      → function_attribute model v a ≡ (attribute_again model f v.walk a >>= keeping (text model a ∷ v.earlier))
  unfolding function_attribute attribute_again name_in
  attribute_keeps pre rest a e v h =
      ap (λ (k : Walk → Judged Along). naming 22 v.walk (name_in model a) >>= k) (λ i t. step t i)
      ∙ sym (bind_assoc (naming 22 v.walk (name_in model a)) _ (keeping kept))
    where
      kept : List Bytes
      kept = text model a ∷ v.earlier

      again : member (text model a) v.earlier ≡ member (text model a) (attributes_before model f a.place f.start)
      again =
          h (text model a)
          ∙ ap (member (text model a)) (sym (before_first model f a.place ∙ ap (map (text model)) (stood model Function-attribute f pre rest a e)))

      step : (t : Walk) → (refuse 42 at: a.place when: member (text model a) v.earlier >> keeping kept t)
          ≡ (refuse 42 at: a.place when: member (text model a) (attributes_before model f a.place f.start) >> pass t >>= keeping kept)
      step t = ap (λ (b : Bool). refuse 42 at: a.place when: b >> keeping kept t) again ∙ sym (seq_one _ t (keeping kept))

  -- ---- one default

  default_keeps : (pre rest : List Field) (a : Field) → Defaults model f ≡ pre ++ (a ∷ rest) → (v : Along)
      → Agree v.earlier (map (text model) (Attributes model f) ++ map (named model) pre)
      → function_default model v a ≡ (default_again model f v.walk a >>= keeping (named model a ∷ v.earlier))
  unfolding function_default default_again default_rules name_of message
  default_keeps pre rest a e v h =
      ap (λ (k : Walk → Judged Along). naming 22 v.walk (name_of model Attribute-name (message model a)) >>= k) (λ i t. step t i)
      ∙ sym (bind_assoc (naming 22 v.walk (name_of model Attribute-name (message model a))) _ (keeping kept))
    where
      kept : List Bytes
      kept = named model a ∷ v.earlier

      place : ℕ
      place = (name_of model Attribute-name (message model a)).place

      refers : Rule
      refers = refuse 33 at: a.place when: not (is_empty (bytes_of model Attribute-ref_attr_name (message model a)))

      value : Rule
      value = refuse 32 at: a.place when: bad_default (number_of Attribute-type (message model a)) (message model a)

      again : member (named model a) v.earlier ≡ member (named model a) (attributes_before model f f.next a.place)
      again =
          h (named model a)
          ∙ ap (member (named model a)) (sym (before_second model f a.place
          ∙ ap (λ (l : List Field). map (text model) (Attributes model f) ++ map (named model) l) (stood model Function-attribute_proto f pre rest a e)))

      twice : Rule
      twice = refuse 42 at: place when: member (named model a) (attributes_before model f f.next a.place)

      step : (t : Walk) → (refuse 42 at: place when: member (named model a) v.earlier >> (refers >> (value >> keeping kept t)))
          ≡ (twice >> (refers >> value >> pass t) >>= keeping kept)
      step t =
          ap (λ (b : Bool). refuse 42 at: place when: b >> (refers >> (value >> keeping kept t))) again
          ∙ ap (λ (o : Judged Along). twice >> o) (sym (seq_one (refers >> value) t (keeping kept) ∙ seq_assoc refers value (keeping kept t)))
          ∙ sym (seq_bind twice (refers >> value >> pass t) (keeping kept))

  -- ---- all of them

  -- the names that are kept of the attributes, and of all
  abbrev First : List Bytes
  First = push (text model) (Attributes model f) []

  abbrev Names : List Bytes
  Names = push (named model) (Defaults model f) First

  first_agrees : Agree First (map (text model) (Attributes model f))
  first_agrees = push_agrees (text model) [] (Attributes model f) [] (λ x. refl)

  names_agree : Agree Names (attributes_before model f f.next f.next)
  names_agree x =
      push_agrees (named model) (map (text model) (Attributes model f)) (Defaults model f) First first_agrees x
      ∙ ap (member x) (sym (all_second model f))

  attributes_keep : (t : Walk) → each (function_attribute model) (along t) (Attributes model f)
      ≡ (each (attribute_again model f) t (Attributes model f) >>= keeping First)
  unfolding along
  attributes_keep t = each_keeps (text model) [] (function_attribute model) (attribute_again model f) (Attributes model f) attribute_keeps (along t) (λ x. refl)

  defaults_keep : (t : Walk) → each (function_default model) (record { walk = t; earlier = First }) (Defaults model f)
      ≡ (each (default_again model f) t (Defaults model f) >>= keeping Names)
  defaults_keep t =
      each_keeps (named model) (map (text model) (Attributes model f)) (function_default model) (default_again model f) (Defaults model f) default_keeps
      (record { walk = t; earlier = First }) first_agrees

  -- k is what comes after
  both_keep : {B : Type 0} (t : Walk) (k : Along → Judged B)
      → (each (function_attribute model) (along t) (Attributes model f) >>= λ a. each (function_default model) a (Defaults model f) >>= k)
      ≡ (attributes_again model t f >>= λ d. k (record { walk = d; earlier = Names }))
  unfolding attributes_again ◌>>=◌
  both_keep {B} t k =
      let As = each (attribute_again model f) t (Attributes model f) in
      let Ds : Walk → Judged Walk = λ u. each (default_again model f) u (Defaults model f) in
      let after : Walk → Judged B = λ d. k (record { walk = d; earlier = Names }) in
      ap (λ (o : Judged Along). o >>= λ a. each (function_default model) a (Defaults model f) >>= k) (attributes_keep t)
      ∙ bind_assoc As (keeping First) (λ a. each (function_default model) a (Defaults model f) >>= k)
      ∙ ap (λ (g : Walk → Judged B). As >>= g) (λ i u.
      (ap (λ (o : Judged Along). o >>= k) (defaults_keep u) ∙ bind_assoc (Ds u) (keeping Names) k) i)
      ∙ sym (bind_assoc As Ds after)

-- ---- the head

-- What surrounds the body is not the main graph's, has the model's IR version, the function's imports and its attributes.
pub record Headed (model : Bytes) (f : Field) (v : ℕ) (h : Heading) : Type 0 where
  pub main : h.around.main ≡ false
  pub version : h.around.ir_version ≡ v
  pub imports : (x : Bytes) → member x h.around.imports ≡ member x (imports_in model Function-opset_import f)
  pub attributes : (x : Bytes) → is_empty x ≡ false → member x h.around.attributes ≡ member x (attributes_before model f f.next f.next)

module _ (model list : Bytes) (v : ℕ) (f : Field) where
  abbrev Imports : Judged (List Bytes)
  Imports = function_imports model list (message model f)

  -- what is passed on with the imports
  abbrev heading : Along → List Bytes → Heading
  heading d imports = record { walk = d.walk; around = record { imports = imports; main = false; ir_version = v; attributes = d.earlier } }

  abbrev headed : Walk → Judged Heading
  headed d = Imports >>= λ i. pass (heading (record { walk = d; earlier = Names model f }) i)

  named_keeps : (earlier : List Identity) (twice : Bool) (w : Walk) → twice ≡ identified (identity_of model v (message model f)) earlier
      → function_head model list v earlier w (message model f) ≡ (named_again model twice w f >>= headed)
  unfolding function_head named_again message
  named_keeps earlier twice w e =
      ap (λ (k : Walk → Judged Heading). naming 22 w (name_of model Function-name (message model f)) >>= k) (λ i t. step t i)
      ∙ sym (bind_assoc (naming 22 w (name_of model Function-name (message model f))) _ headed)
    where
      kept : Walk → Judged Heading
      kept t =
          each (function_attribute model) (along t) (Attributes model f)
          >>= λ a. each (function_default model) a (Defaults model f) >>= λ d. Imports >>= λ i. pass (heading d i)

      step : (t : Walk) → (refuse 41 at: f.place when: identified (identity_of model v (message model f)) earlier >> kept t)
          ≡ (refuse 41 at: f.place when: twice >> attributes_again model t f >>= headed)
      step t =
          ap (λ (b : Bool). refuse 41 at: f.place when: b >> kept t) (sym e)
          ∙ ap (λ (o : Judged Heading). refuse 41 at: f.place when: twice >> o) (both_keep model f t (λ d. Imports >>= λ i. pass (heading d i)))
          ∙ sym (seq_bind (refuse 41 at: f.place when: twice) (attributes_again model t f) headed)

  -- imports that are passed are those of the function
  imports_passed : (imports : List Bytes) → Imports ≡ pass imports → (x : Bytes) → member x imports ≡ member x (imports_in model Function-opset_import f)
  unfolding function_imports imports_in
  imports_passed imports e x = imports_agree model list (All model Function-opset_import f) imports (passed_seq _ _ imports e).1 x

  -- what comes after looks at what is passed on, or at the walk alone
  module _ {A : Type 0} (k : Heading → Judged A) (g : Walk → Judged A) (same : (h : Heading) → Headed model f v h → k h ≡ g h.walk) where
    after : (d : Walk) → (headed d >>= k) ≡ (silent Imports >> pass d >>= g)
    unfolding silent ◌>>=◌ ◌>>◌
    after d = go Imports refl
      where
        go : (o : Judged (List Bytes)) → Imports ≡ o
            → (o >>= (λ i. pass (heading (record { walk = d; earlier = Names model f }) i)) >>= k) ≡ (silent o >> pass d >>= g)
        go (pass i) e = same (heading (record { walk = d; earlier = Names model f }) i) (record {
          main = refl;
          version = refl;
          imports = imports_passed i e;
          attributes = λ x _. names_agree model f x;
        })
        go (fail r) e = refl

    signature_same : (twice : Bool) (w : Walk) → (named_again model twice w f >>= headed >>= k) ≡ (signature_again model list twice w f >>= g)
    unfolding signature_again
    signature_same twice w =
        bind_assoc (named_again model twice w f) headed k
        ∙ ap (λ (j : Walk → Judged A). named_again model twice w f >>= j) (λ i d. after d i)
        ∙ sym (bind_assoc (named_again model twice w f) (λ d. silent Imports >> pass d) g)

-- What the code reads again is the head of a function, for whatever comes after it.
pub head_again : (model list : Bytes) (v : ℕ) (earlier : List Identity) (twice : Bool) (w : Walk) (f : Field)
    → twice ≡ identified (identity_of model v (message model f)) earlier
    → {A : Type 0} (k : Heading → Judged A) (g : Walk → Judged A) → ((h : Heading) → Headed model f v h → k h ≡ g h.walk)
    → (function_head model list v earlier w (message model f) >>= k) ≡ (signature_again model list twice w f >>= g)
head_again model list v earlier twice w f e {A} k g same =
    ap (λ (o : Judged Heading). o >>= k) (named_keeps model list v f earlier twice w e) ∙ signature_same model list v f k g same twice w

-- It adds no name and no node, and counts no more odd names than it tests.
pub head_most : (model list : Bytes) (twice : Bool) (w : Walk) (f : Field)
    → Tells (λ v. (v.scope ≡ w.scope) × (v.nodes ≡ w.nodes) × (v.most ≡ w.most) × (v.odd ≤ w.odd + (1 + length (attribute_names model f)))) Any
    (signature_again model list twice w f)
head_most model list twice w f =
    let few = odds_few (head_names model f) in
    tells_weaken (Adds w (odds (head_names model f))) _ Any Any (signature_again model list twice w f)
    (λ v a. (a.0, a.1, a.2, let n = a.3 in omega arith)) (λ r _. tt) (signature_adds model f list twice w)
