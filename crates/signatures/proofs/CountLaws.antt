-- What the head of a function counts: the odd ones among its names, and no more than there are.
use Rattle.std.specs.Prelude.{Ok, Some}
use Rattle.varint.specs.Answers.{Answer}
use Prim.Native.Nat.{ℕ, ◌+◌, ◌-◌, ◌≤◌}
use native.Mathlib.Omega.{arith}
use mathlib.Core.Path.{◌≡◌, refl, ap, ◌∙◌}
use mathlib.Core.Bool.{Bool}
use mathlib.Core.List.{List, [], ◌∷◌, flat_map}
use lib.ListN.{length, length-append}
use Rattle.varint.specs.Outcome.{pass, each, Judged, refuse◌at:◌when:◌}
use Rattle.varint.specs.Bytes.{Bytes}
use Rattle.wire.specs.declared.Field.{Field}
use Rattle.wire.specs.declared.Cursor.{Cursor}
use Rattle.wire.specs.Answers.{contents_of, sought_says, sought_in, Sought}
use Rattle.wire.specs.Message.{all_of, text, bytes_of, message}
use Rattle.wire.proofs.Along.{all_from}
use Rattle.wire.proofs.Fields.{all_of_ordered}
use Rattle.varint.proofs.Tells.{Tells, Any, any_all, tells_bind, tells_weaken}
use Rattle.schema.specs.Numbers.{Function-name, Function-attribute, Function-attribute_proto, Attribute-name}
use Rattle.schema.specs.Answers.{silent}
use Rattle.rules.specs.Names.{name_of, name_in}
use Rattle.rules.specs.Walk.{Walk, start, naming}
use Rattle.rules.specs.Count.{odds}
use Rattle.rules.specs.Function.{function_imports}
use Rattle.rules.proofs.Rules.{Adds, odds_append, naming_tells, adds_each}
use Rattle.rules.proofs.Counting.{past}
use Rattle.rules.proofs.NamesFew.{ordered_few}
use Rattle.values.specs.Answers.{tally_says}
use Rattle.values.proofs.TallyLaws.{tally_few, Tallying, tallying_fits}
use Rattle.messages.specs.Again.{field_names}
use Rattle.signatures.specs.Signature.{default_rules, attribute_again, default_again, default_names, attribute_names}
use Rattle.signatures.specs.Signature.{attributes_again, named_again, signature_again}

-- ---- by the rules

module _ (model : Bytes) (f : Field) where
  attribute_adds : (w : Walk) (a : Field) → Tells (Adds w (odds (field_names model a))) Any (attribute_again model f w a)
  unfolding attribute_again field_names name_in
  attribute_adds w a =
      let R : Walk → Type 0 = Adds w (odds (text model a ∷ [])) in
      tells_bind R R Any (naming 22 w (name_in model a)) _ (naming_tells Any w (name_in model a) 22 tt tt) (λ t h.
      past R (refuse 42 at: _ when: _) (pass t) h)

  default_adds : (w : Walk) (a : Field) → Tells (Adds w (odds (default_names model a))) Any (default_again model f w a)
  unfolding default_again default_names name_of
  default_adds w a =
      let x = name_of model Attribute-name (message model a) in
      let R : Walk → Type 0 = Adds w (odds (x.bytes ∷ [])) in
      tells_bind R R Any (naming 22 w x) _ (naming_tells Any w x 22 tt tt) (λ t h.
      past R (refuse 42 at: _ when: _) _ (past R (default_rules model a) (pass t) h))

  attributes_adds : (w : Walk) → Tells (Adds w (odds (attribute_names model f))) Any (attributes_again model w f)
  unfolding attributes_again attribute_names
  attributes_adds w =
      let as' = all_of Function-attribute (message model f) in
      let ds = all_of Function-attribute_proto (message model f) in
      let R : Walk → Type 0 = Adds w (odds (attribute_names model f)) in
      let e = odds_append (flat_map (field_names model) as') (flat_map (default_names model) ds) in
      tells_bind (Adds w (odds (flat_map (field_names model) as'))) R Any (each (attribute_again model f) w as') _
      (adds_each Any Any (field_names model) (attribute_again model f) (λ v a _. attribute_adds v a) as' (any_all as') w) (λ t h.
      tells_weaken (Adds t (odds (flat_map (default_names model) ds))) R Any Any (each (default_again model f) t ds)
      (λ v i. (i.0 ∙ h.0, i.1 ∙ h.1, i.2 ∙ h.2, omega arith)) (λ r _. tt)
      (adds_each Any Any (default_names model) (default_again model f) (λ v a _. default_adds v a) ds (any_all ds) t))

  -- the name of the function, and those of its attributes
  abbrev pub head_names : List Bytes
  head_names = bytes_of model Function-name (message model f) ∷ attribute_names model f

  named_adds : (twice : Bool) (w : Walk) → Tells (Adds w (odds head_names)) Any (named_again model twice w f)
  unfolding named_again name_of
  named_adds twice w =
      let x = name_of model Function-name (message model f) in
      let R : Walk → Type 0 = Adds w (odds head_names) in
      let e = odds_append (x.bytes ∷ []) (attribute_names model f) in
      tells_bind (Adds w (odds (x.bytes ∷ []))) R Any (naming 22 w x) _ (naming_tells Any w x 22 tt tt) (λ t h.
      past R (refuse 41 at: _ when: _) _
      (tells_weaken (Adds t (odds (attribute_names model f))) R Any Any (attributes_again model t f)
      (λ v i. (i.0 ∙ h.0, i.1 ∙ h.1, i.2 ∙ h.2, omega arith)) (λ r _. tt) (attributes_adds t)))

  pub signature_adds : (list : Bytes) (twice : Bool) (w : Walk) → Tells (Adds w (odds head_names)) Any (signature_again model list twice w f)
  unfolding signature_again
  signature_adds list twice w =
      let R : Walk → Type 0 = Adds w (odds head_names) in
      tells_bind R R Any (named_again model twice w f) _ (named_adds twice w) (λ d h.
      past R (silent (function_imports model list (message model f))) (pass d) h)

-- ---- by the tallies

module _ (model : Bytes) where
  pub attribute_few : (f a : Field) {t : Answer ℕ} → ((w : Walk) → tally_says w t ≡ attribute_again model f w a) → {k : ℕ} → t ≡ Ok k
      → k ≤ length (field_names model a)
  attribute_few f a e i = tally_few start (e start) (field_names model a) (Adds start (odds (field_names model a))) (λ v h. h.3) (attribute_adds model f start a) i

  pub default_few : (f a : Field) {t : Answer ℕ} → ((w : Walk) → tally_says w t ≡ default_again model f w a) → {k : ℕ} → t ≡ Ok k
      → k ≤ length (default_names model a)
  default_few f a e i = tally_few start (e start) (default_names model a) (Adds start (odds (default_names model a))) (λ v h. h.3) (default_adds model f start a) i

-- ---- as many names as there are fields, and each of those takes a byte

singles : {B : Type 0} (name : Field → B) (l : List Field) → length (flat_map (λ a. name a ∷ []) l) ≡ length l
unfolding flat_map
singles name [] = refl
singles name (a ∷ l) = let e = singles name l in omega arith

singles_few : {B : Type 0} (model : Bytes) (name : Field → B) (number : ℕ) (f : Field)
    → length (flat_map (λ a. name a ∷ []) (all_of number (message model f))) ≤ f.next - f.start
singles_few model name number f =
    let e = singles name (all_of number (message model f)) in
    let h = ordered_few f.start f.next (all_of number (message model f)) (all_of_ordered model number f) in
    omega arith

module _ (model : Bytes) (f : Field) where
  pub attributes_few : length (flat_map (field_names model) (all_of Function-attribute (message model f))) ≤ f.next
  unfolding field_names
  attributes_few = let h = singles_few model (text model) Function-attribute f in omega arith

  pub defaults_few : length (flat_map (default_names model) (all_of Function-attribute_proto (message model f))) ≤ f.next
  unfolding default_names
  defaults_few = let h = singles_few model (λ a. bytes_of model Attribute-name (message model a)) Function-attribute_proto f in omega arith

  pub names_both : length (attribute_names model f)
      ≡ length (flat_map (field_names model) (all_of Function-attribute (message model f)))
      + length (flat_map (default_names model) (all_of Function-attribute_proto (message model f)))
  unfolding attribute_names
  names_both =
      length-append (flat_map (field_names model) (all_of Function-attribute (message model f)))
      (flat_map (default_names model) (all_of Function-attribute_proto (message model f)))

-- ---- a loop over the fields of a message: it counts no more than those have names

contents_fields : (s : Bytes) (number : ℕ) (m : Field) {c : Cursor} → c ≡ contents_of m → all_from s number c.end c.at ≡ all_of number (message s m)
unfolding all_from all_of message contents_of
contents_fields s number m e = rw e refl

module _ {s : Bytes} {number end start : ℕ} {Q : Walk → Type 0} {names : Field → List Bytes} {step : Walk → Field → Judged Walk} {odd : ℕ} {c : Cursor}
    (q : Tallying s number end start Q names step odd c) (m : Field) (at : record { at = start; end = end } ≡ contents_of m) where
  all_names : length (flat_map names (all_from s number end start)) ≡ length (flat_map names (all_of number (message s m)))
  all_names = ap (λ (l : List Field). length (flat_map names l)) (contents_fields s number m at)

  pub tallied_few : odd ≤ length (flat_map names (all_of number (message s m)))
  tallied_few = let few = q.few in let all = all_names in omega arith

  -- with those of one field more
  pub tallied_sum : {a : Sought} → sought_says a ≡ sought_in s number c.end c.at → {f : Field} {next : Cursor} → a ≡ Some (f, next)
      → {k : ℕ} → k ≤ length (names f)
      → odd + k ≤ length (flat_map names (all_of number (message s m)))
  tallied_sum read e h = let fits = tallying_fits q read e h in let all = all_names in omega arith
