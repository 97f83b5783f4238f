-- What is asked of a node beside its attributes, in the order of the code's tests.
use Rattle.std.specs.Prelude.{Err, Ok}
use Rattle.varint.specs.Answers.{Answer}
use Prim.Native.Nat.{ℕ}
use mathlib.Core.Path.{◌≡◌, sym, ap, ◌∙◌}
use mathlib.Core.Bool.{Bool, true, false, not}
use mathlib.Core.List.{List}
use lib.ListN.{length}
use Rattle.varint.specs.Outcome.{pass, ◌>>=◌, ◌>>◌, each, Judged, refused, refuse◌at:◌when:◌}
use Rattle.varint.specs.declared.Refusal.{Refusal}
use Rattle.wire.specs.declared.Field.{Field}
use Rattle.varint.specs.Lists.{is_empty}
use Rattle.varint.specs.Bytes.{Bytes}
use Rattle.wire.specs.Message.{all_of, text, message}
use Rattle.varint.proofs.Refusing.{when_broken, when_kept}
use Rattle.schema.specs.Numbers.{Node-input}
use Rattle.rules.specs.Names.{Name, name_in}
use Rattle.rules.specs.Walk.{Walk, visible, tested}
use Rattle.rules.specs.Node.{node_input}
use Rattle.values.specs.Answers.{more, tally_says, adding}
use Rattle.values.proofs.TallyLaws.{more_none, tallied, untallied, adding_says}
use Rattle.values.proofs.NameLaws.{empty_none, empty_some}
use Rattle.messages.specs.Heads.{node_head}
use Rattle.messages.specs.Again.{node_rules}
use Rattle.messages.specs.declared.contexts.Surroundings.{Surroundings}

-- an input of a node
module _ (model : Bytes) (w : Walk) (f : Field) {x : Bytes} (t : x ≡ text model f) where
  Read : Walk → Judged Walk
  Read v = refuse 30 at: f.place when: not (visible (text model f) v.scope) >> pass v

  input_by : {b : Bool} → is_empty x ≡ b → node_input model w f ≡ elim b [ true ↦ pass w | false ↦ (tested w (name_in model f) >>= Read) ]
  unfolding node_input Read
  input_by e = ap (λ (b : Bool). elim b [ true ↦ pass w | false ↦ (tested w (name_in model f) >>= Read) ]) (ap is_empty (sym t) ∙ e)

  pub input_out : length x ≡ 0 → pass (more w 0) ≡ node_input model w f
  input_out h = ap pass (more_none w) ∙ sym (input_by (empty_none x h))

  module _ (h : length x ≡ 0 → ⊥) where
    input_some : {o : Judged Walk} → tested w (record { bytes = x; place = f.place }) ≡ o → (o >>= Read) ≡ node_input model w f
    unfolding name_in
    input_some k =
        ap (λ (o : Judged Walk). o >>= Read) (sym k ∙ ap (λ (y : Bytes). tested w (record { bytes = y; place = f.place })) t)
        ∙ sym (input_by (empty_some x h))

    module _ {c : Answer ℕ} (e : tally_says w c ≡ tested w (record { bytes = x; place = f.place })) where
      pub input_bad : {r : Refusal} → c ≡ Err r → tally_says w c ≡ node_input model w f
      unfolding tally_says ◌>>=◌
      input_bad i = ap (tally_says w) i ∙ input_some (untallied w e i)

      module _ {k : ℕ} (i : c ≡ Ok k) {scope : List Name} (s : w.scope ≡ scope) {v : Bool} (j : v ≡ visible x scope) where
        read : (refuse 30 at: f.place when: not v >> pass (more w k)) ≡ node_input model w f
        unfolding Read more ◌>>=◌
        read =
            ap (λ (y : Bool). refuse 30 at: f.place when: not y >> pass (more w k))
            (j ∙ ap (λ (y : Bytes). visible y scope) t ∙ ap (visible (text model f)) (sym s))
            ∙ input_some (tallied w e i)

        pub input_visible : v ≡ true → pass (more w k) ≡ node_input model w f
        input_visible l = sym (when_kept 30 f.place _ (ap not l)) ∙ read

        pub input_hidden : v ≡ false → refused 30 f.place ≡ node_input model w f
        input_hidden l = sym (when_broken 30 f.place _ (ap not l)) ∙ read

-- what is asked before the attributes
module _ (model : Bytes) (s : Surroundings) (graph f : Field) (w : Walk) where
  abbrev Inputs : Walk → Judged Walk
  Inputs t = each (node_input model) t (all_of Node-input (message model f))

  rules_by : {o : Judged Walk} → node_head model s graph w f ≡ o → (o >>= Inputs) ≡ node_rules model s graph w f
  unfolding node_rules
  rules_by k = ap (λ (o : Judged Walk). o >>= Inputs) (sym k)

  module _ {r : Answer ℕ} (e : tally_says w r ≡ node_head model s graph w f) where
    pub rules_headed : {x : Refusal} → r ≡ Err x → tally_says w r ≡ node_rules model s graph w f
    unfolding tally_says ◌>>=◌
    rules_headed k = ap (tally_says w) k ∙ rules_by (untallied w e k)

    pub rules_inputs : {k : ℕ} → r ≡ Ok k → (t : Answer ℕ) → tally_says (more w k) t ≡ Inputs (more w k)
        → tally_says w (adding k t) ≡ node_rules model s graph w f
    unfolding ◌>>=◌
    rules_inputs {k} i t l = adding_says w k t ∙ l ∙ rules_by (tallied w e i)
