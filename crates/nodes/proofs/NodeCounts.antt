-- What is counted of a node before its attributes: the odd ones among its names. The tests leave the rest of a walk as it was.
use Rattle.std.specs.Prelude.{Ok, Some}
use Rattle.varint.specs.Answers.{Answer}
use Prim.Native.Nat.{ℕ, ◌+◌, ◌≤◌, ◌<◌, ◌^◌}
use native.Mathlib.Omega.{arith}
use mathlib.Core.Path.{◌≡◌, refl, ap, ◌∙◌}
use mathlib.Core.List.{List, [], ◌∷◌, flat_map}
use lib.ListN.{length}
use Rattle.varint.specs.Outcome.{pass, each, Judged, refuse◌at:◌when:◌}
use Rattle.varint.specs.Lists.{is_empty}
use Rattle.varint.specs.Bytes.{Bytes}
use Rattle.wire.specs.declared.Field.{Field}
use Rattle.wire.specs.declared.Cursor.{Cursor}
use Rattle.wire.specs.Answers.{contents_of, sought_says, sought_in, Sought}
use Rattle.wire.specs.Message.{all_of, text, bytes_of, message}
use Rattle.wire.proofs.Along.{all_from}
use Rattle.varint.proofs.Tells.{Tells, Any, any_all, tells_bind, tells_if, tells_weaken}
use Rattle.schema.specs.Numbers.{Node-input, Node-name, Node-op_type, Attribute-name}
use Rattle.rules.specs.Names.{Name, name_of, name_in}
use Rattle.rules.specs.Walk.{Walk, start, tested, naming}
use Rattle.rules.specs.Count.{odds}
use Rattle.rules.specs.Node.{node_name, node_input}
use Rattle.rules.proofs.Rules.{Adds, odds_append, odds_none, tested_tells, naming_tells, adds_each}
use Rattle.rules.proofs.Counting.{past, grew_name}
use Rattle.rules.proofs.NamesFew.{odds_few, from_few}
use Rattle.headers.specs.Earlier.{earlier_in}
use Rattle.values.specs.Answers.{tally_says}
use Rattle.values.proofs.TallyLaws.{tally_most, tally_few, Tallying, tallying_fits}
use Rattle.messages.specs.Heads.{walk_of, value_rules, attribute_rules, node_head}
use Rattle.messages.specs.Again.{field_names, node_rules}
use Rattle.messages.specs.declared.contexts.Surroundings.{Surroundings}

-- the fields of a loop over the message that a field holds
pub contents_fields : (s : Bytes) (number : ℕ) (m : Field) {c : Cursor} → c ≡ contents_of m → all_from s number c.end c.at ≡ all_of number (message s m)
unfolding all_from all_of message contents_of
contents_fields s number m e = rw e refl

-- a loop that counts, where there is room in 64 bits to count every name
module _ {s : Bytes} {number end start : ℕ} {Q : Walk → Type 0} {names : Field → List Bytes} {step : Walk → Field → Judged Walk} {odd : ℕ} {c : Cursor}
    (q : Tallying s number end start Q names step odd c) {a : Sought} (read : sought_says a ≡ sought_in s number c.end c.at)
    {f : Field} {next : Cursor} (e : a ≡ Some (f, next)) (m : Field) (at : record { at = start; end = end } ≡ contents_of m)
    (room : length (flat_map names (all_of number (message s m))) < 2 ^ 64) where
  pub tallying_sum : {k : ℕ} → k ≤ length (names f) → odd + k < 2 ^ 64
  tallying_sum h =
      let fits = tallying_fits q read e h in
      let all = ap (λ (l : List Field). length (flat_map names l)) (contents_fields s number m at) in
      omega arith

  pub tallying_room : length (names f) < 2 ^ 64
  tallying_room = let sum = tallying_sum {k = length (names f)} (omega arith) in omega arith

-- a walk with this scope
abbrev pub seeing : List Name → Walk
seeing scope = record { scope = scope; nodes = 0; most = 0; odd = 0 }

module _ (model : Bytes) where
  -- ---- by the rules

  adds_input : (w : Walk) (f : Field) → Tells (Adds w (odds (field_names model f))) Any (node_input model w f)
  unfolding node_input name_in field_names
  adds_input w f =
      let R : Walk → Type 0 = Adds w (odds (text model f ∷ [])) in
      tells_if R Any (is_empty (text model f)) _ _ (λ b. let e = odds_none (text model f) b in (refl, refl, refl, omega arith)) (λ b.
      tells_bind R R Any (tested w (name_in model f)) _ (tested_tells Any w (name_in model f) b tt) (λ v h. past R (refuse 30 at: _ when: _) (pass v) h))

  adds_inputs : (w : Walk) (l : List Field) → Tells (Adds w (odds (flat_map (field_names model) l))) Any (each (node_input model) w l)
  adds_inputs w l = adds_each Any Any (field_names model) (node_input model) (λ v f _. adds_input v f) l (any_all l) w

  abbrev pub head_names : Field → List Bytes
  head_names f = bytes_of model Node-op_type (message model f) ∷ bytes_of model Node-name (message model f) ∷ []

  adds_head : (s : Surroundings) (graph : Field) (w : Walk) (f : Field) → Tells (Adds w (odds (head_names f))) Any (node_head model s graph w f)
  unfolding node_head walk_of name_of
  adds_head s graph w f =
      let m = message model f in
      let x = name_of model Node-op_type m in
      let name = bytes_of model Node-name m in
      let R : Walk → Type 0 = Adds w (odds (head_names f)) in
      let e = odds_append (x.bytes ∷ []) (name ∷ []) in
      tells_bind (Adds w (odds (x.bytes ∷ []))) R Any (naming 27 w x) _ (naming_tells Any w x 27 tt tt) (λ t h.
      past R (refuse 28 at: _ when: _) _
      (tells_bind (λ n. Adds t (odds (name ∷ [])) n.walk) R Any (node_name model (earlier_in model s.nodes Node-name graph f) t m) _
      (grew_name model (earlier_in model s.nodes Node-name graph f) t m) (λ n i. (i.0 ∙ h.0, i.1 ∙ h.1, i.2 ∙ h.2, omega arith))))

  module _ (s : Surroundings) (graph : Field) (w : Walk) (f : Field) where
    abbrev Inputs : List Bytes
    Inputs = flat_map (field_names model) (all_of Node-input (message model f))

    pub rules_adds : Tells (Adds w (odds (head_names f) + odds Inputs)) Any (node_rules model s graph w f)
    unfolding node_rules
    rules_adds =
        let R : Walk → Type 0 = Adds w (odds (head_names f) + odds Inputs) in
        tells_bind (Adds w (odds (head_names f))) R Any (node_head model s graph w f) _ (adds_head s graph w f) (λ t h.
        tells_weaken (Adds t (odds Inputs)) R Any Any (each (node_input model) t (all_of Node-input (message model f)))
        (λ v i. (i.0 ∙ h.0, i.1 ∙ h.1, i.2 ∙ h.2, omega arith)) (λ r _. tt) (adds_inputs t (all_of Node-input (message model f))))

    pub rules_odd : Tells (λ v. v.odd ≤ w.odd + (2 + length (flat_map (field_names model) (all_of Node-input (message model f))))) Any
        (node_rules model s graph w f)
    rules_odd =
        let few = odds_few Inputs in
        let two = odds_few (head_names f) in
        tells_weaken (Adds w (odds (head_names f) + odds Inputs)) (λ v. v.odd ≤ w.odd + (2 + length Inputs)) Any Any (node_rules model s graph w f)
        (λ v a. let n = a.3 in omega arith) (λ r _. tt) rules_adds

  pub attribute_adds : (s : Surroundings) (node : Field) (w : Walk) (f : Field)
      → Tells (Adds w (odds (bytes_of model Attribute-name (message model f) ∷ []))) Any (attribute_rules model s node w f)
  unfolding attribute_rules name_of
  attribute_adds s node w f =
      let x = name_of model Attribute-name (message model f) in
      let R : Walk → Type 0 = Adds w (odds (x.bytes ∷ [])) in
      tells_bind R R Any (naming 22 w x) _ (naming_tells Any w x 22 tt tt) (λ t h.
      past R (refuse 31 at: _ when: _) _ (past R (value_rules model s f) (pass t) h))

  -- ---- by the tallies

  pub input_few : (scope : List Name) (f : Field) {t : Answer ℕ} → ((w : Walk) → w.scope ≡ scope → tally_says w t ≡ node_input model w f)
      → {k : ℕ} → t ≡ Ok k → k ≤ length (field_names model f)
  input_few scope f e i =
      let w = seeing scope in
      tally_few w (e w refl) (field_names model f) (Adds w (odds (field_names model f))) (λ v a. a.3) (adds_input w f) i

  pub head_few : (s : Surroundings) (graph f : Field) {t : Answer ℕ} → ((w : Walk) → tally_says w t ≡ node_head model s graph w f) → {k : ℕ} → t ≡ Ok k → k ≤ 2
  head_few s graph f e i = tally_few start (e start) (head_names f) (Adds start (odds (head_names f))) (λ v a. a.3) (adds_head s graph start f) i

  pub inputs_most : (scope : List Name) (f : Field) {t : Answer ℕ}
      → ((w : Walk) → w.scope ≡ scope → tally_says w t ≡ each (node_input model) w (all_of Node-input (message model f)))
      → {k : ℕ} → t ≡ Ok k → k ≤ length (flat_map (field_names model) (all_of Node-input (message model f)))
  inputs_most scope f e i =
      let w = seeing scope in
      let l = all_of Node-input (message model f) in
      tally_few w (e w refl) (flat_map (field_names model) l) (Adds w (odds (flat_map (field_names model) l))) (λ v a. a.3) (adds_inputs w l) i

  pub rules_few : (s : Surroundings) (graph f : Field) (scope : List Name) {t : Answer ℕ}
      → ((w : Walk) → w.scope ≡ scope → tally_says w t ≡ node_rules model s graph w f)
      → {k : ℕ} → t ≡ Ok k → k ≤ 2 + length (flat_map (field_names model) (all_of Node-input (message model f)))
  rules_few s graph f scope e i = tally_most (seeing scope) (e (seeing scope) refl) _ (rules_odd s graph (seeing scope) f) i

  pub attribute_few : (s : Surroundings) (node f : Field) {t : Answer ℕ} → ((w : Walk) → tally_says w t ≡ attribute_rules model s node w f)
      → {k : ℕ} → t ≡ Ok k → k ≤ 1
  attribute_few s node f e i =
      let names = bytes_of model Attribute-name (message model f) ∷ [] in
      tally_few start (e start) names (Adds start (odds names)) (λ v a. a.3) (attribute_adds s node start f) i

  -- as many inputs as there are fields, so no more than 64 bits can count
  singles : (l : List Field) → length (flat_map (field_names model) l) ≡ length l
  unfolding flat_map field_names
  singles [] = refl
  singles (f ∷ l) = let e = singles l in omega arith

  pub inputs_few : (number end pos : ℕ) → length (flat_map (field_names model) (all_from model number end pos)) ≤ end
  inputs_few number end pos =
      let e = singles (all_from model number end pos) in
      let h = from_few model number end pos in
      omega arith
