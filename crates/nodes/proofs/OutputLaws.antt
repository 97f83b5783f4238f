-- Outputs in the order of the code's tests.
use Rattle.std.specs.Prelude.{Err, Ok}
use Rattle.varint.specs.Answers.{Answer}
use Prim.Native.Nat.{ℕ, ◌+◌, ◌≤◌, ◌<◌, ◌^◌}
use native.Mathlib.Omega.{arith}
use mathlib.Core.Path.{◌≡◌, refl, sym, ap, ◌∙◌}
use mathlib.Core.Bool.{Bool, true, false, not}
use mathlib.Core.List.{List, [], ◌∷◌, flat_map}
use lib.ListN.{length}
use Rattle.varint.specs.Outcome.{pass, fail, ◌>>=◌, ◌>>◌, each, Judged, refused, refuse◌at:◌when:◌}
use Rattle.varint.specs.declared.Refusal.{Refusal}
use Rattle.wire.specs.declared.Field.{Field}
use Rattle.varint.specs.Lists.{is_empty}
use Rattle.varint.specs.Bytes.{Bytes}
use Rattle.wire.specs.Message.{text, message}
use Rattle.varint.proofs.Refusing.{when_broken, when_kept}
use Rattle.varint.proofs.Tells.{Tells, Any, tells_weaken}
use Rattle.schema.specs.Numbers.{ValueInfo-name}
use Rattle.rules.specs.Names.{Name, name_of, name_in}
use Rattle.rules.specs.Walk.{Context, in_main, Walk, start, visible, tested, naming, define}
use Rattle.rules.specs.Types.{declared_type}
use Rattle.rules.specs.Count.{odds, value_names}
use Rattle.rules.specs.Verdict.{fills}
use Rattle.rules.specs.Node.{node_output}
use Rattle.rules.specs.Graph.{output}
use Rattle.rules.proofs.Rules.{Adds}
use Rattle.rules.proofs.Counting.{Grew, names_each, typed, grew_type, grew_node_output, grew_output}
use Rattle.rules.proofs.NamesFew.{odds_few}
use Rattle.values.specs.Answers.{more, tally_says, naming_says, name_field, adding, Addable}
use Rattle.values.proofs.TallyLaws.{tallied, untallied, tally_few, adding_says, addable}
use Rattle.values.proofs.NameLaws.{empty_none, empty_some, named_name, named_passes, named_fails}
use Rattle.scope.specs.Scope.{walk_in, step_says, with_odd}
use Rattle.scope.specs.declared.scopes.Progress.{Progress}
use Rattle.scope.proofs.StepLaws.{plain, Counts, odd_walk}
use Rattle.messages.specs.Again.{field_names}
use Rattle.nodes.proofs.NodeCounts.{seeing}

-- an output of a node
module _ (model : Bytes) (full : ℕ → Bool) (w : Walk) (f : Field) {x : Bytes} (t : x ≡ text model f) where
  Named : Walk → Judged Walk
  Named v = define full v (name_in model f)

  output_by : {b : Bool} → is_empty x ≡ b → node_output model full w f ≡ elim b [ true ↦ pass w | false ↦ (tested w (name_in model f) >>= Named) ]
  unfolding node_output Named
  output_by e = ap (λ (b : Bool). elim b [ true ↦ pass w | false ↦ (tested w (name_in model f) >>= Named) ]) (ap is_empty (sym t) ∙ e)

  pub output_out : length x ≡ 0 → pass w ≡ node_output model full w f
  output_out h = sym (output_by (empty_none x h))

  module _ (h : length x ≡ 0 → ⊥) where
    output_some : {o : Judged Walk} → tested w (record { bytes = x; place = f.place }) ≡ o → (o >>= Named) ≡ node_output model full w f
    unfolding name_in
    output_some k =
        ap (λ (o : Judged Walk). o >>= Named) (sym k ∙ ap (λ (y : Bytes). tested w (record { bytes = y; place = f.place })) t)
        ∙ sym (output_by (empty_some x h))

    module _ {c : Answer ℕ} (e : tally_says w c ≡ tested w (record { bytes = x; place = f.place })) where
      pub output_bad : {r : Refusal} → c ≡ Err r → fail r ≡ node_output model full w f
      unfolding ◌>>=◌
      output_bad i = output_some (untallied w e i)

      pub output_new : {k : ℕ} → c ≡ Ok k → define full (more w k) (name_in model f) ≡ node_output model full w f
      unfolding Named ◌>>=◌
      output_new i = output_some (tallied w e i)

-- the step of a name that was counted if it is odd
pub odd_says : (p : Progress) {q : Progress} (k : ℕ) → q ≡ with_odd p k
    → (model : Bytes) (cells later : List ℕ) (s : Answer Progress) (full : ℕ → Bool) (x : Name)
    → step_says model later s ≡ define full (walk_in model cells q) x → step_says model later s ≡ define full (more (walk_in model cells p) k) x
odd_says p k e model cells later s full x h = h ∙ ap (λ (w : Walk). define full w x) (odd_walk p k e model cells)

-- it counts no more than its name
pub output_counts : (model : Bytes) → Counts (field_names model) (λ n. node_output model (fills n))
unfolding field_names
output_counts model n w f =
    let few = odds_few (text model f ∷ []) in
    tells_weaken (Grew w 0 (odds (text model f ∷ []))) (λ v. v.odd ≤ w.odd + length (text model f ∷ [])) Any Any (node_output model (fills n) w f)
    (λ v a. let e = a.1 in omega arith) (λ r _. tt) (grew_node_output model (fills n) w f)

-- an output of a graph; its rule asks of the graph only whether it is the main one
pub outputs_any : (model : Bytes) (w : Walk) (main : Bool) (k : Context)
    → k.main ≡ main → (l : List Field)
    → each (output model (plain main)) w l ≡ each (output model k) w l
unfolding output in_main
outputs_any model w main k e l = ap (λ (b : Bool). each (output model (plain b)) w l) (sym e)

module _ (model : Bytes) (k : Context) (w : Walk) (f : Field) where
  abbrev Declared : Walk → Judged Walk
  Declared v = in_main k (declared_type model (message model f)) v

  Seen : Name → Walk → Judged Walk
  Seen x v = refuse 35 at: x.place when: not (visible x.bytes v.scope) >> Declared v

  listed_by : {o : Judged Walk} → o ≡ naming 22 w (name_of model ValueInfo-name (message model f))
      → (o >>= Seen (name_of model ValueInfo-name (message model f))) ≡ output model k w f
  unfolding output Seen
  listed_by e = ap (λ (o : Judged Walk). o >>= Seen (name_of model ValueInfo-name (message model f))) e

  module _ (n : Answer (Field × ℕ)) (named : (w : Walk) → naming_says w n ≡ name_field model 22 ValueInfo-name w (message model f)) where
    pub listed_unnamed : {x : Refusal} → n ≡ Err x → fail x ≡ output model k w f
    unfolding ◌>>=◌
    listed_unnamed e = listed_by (named_fails _ _ _ _ _ named w e)

    module _ {g : Field} {j : ℕ} (e : n ≡ Ok (g, j)) {x : Bytes} (t : x ≡ text model g) {scope : List Name} (s : w.scope ≡ scope)
        {v : Bool} (i : v ≡ visible x scope) where
      listed : (refuse 35 at: g.place when: not v >> Declared (more w j)) ≡ output model k w f
      unfolding name_in Seen more ◌>>=◌
      listed =
          ap (λ (b : Bool). refuse 35 at: g.place when: not b >> Declared (more w j))
          (i ∙ ap (λ (y : Bytes). visible y scope) t ∙ ap (visible (text model g)) (sym s))
          ∙ ap (λ (y : Name). Seen y (more w j)) (named_name _ _ _ _ _ named e)
          ∙ listed_by (named_passes _ _ _ _ _ named w e)

      pub listed_hidden : v ≡ false → refused 35 g.place ≡ output model k w f
      listed_hidden h = sym (when_broken 35 g.place _ (ap not h)) ∙ listed

      pub listed_visible : v ≡ true → (t : Answer ℕ) → tally_says (more w j) t ≡ Declared (more w j) → tally_says w (adding j t) ≡ output model k w f
      listed_visible h t l = adding_says w j t ∙ l ∙ sym (when_kept 35 g.place _ (ap not h)) ∙ listed

-- it counts no more than its names: the first, and those of its type
module _ (model : Bytes) (main : Bool) (f : Field) (t : Answer ℕ) where
  pub listed_fits : ((k : Context) (w : Walk) → k.main ≡ main → tally_says w t ≡ in_main k (declared_type model (message model f)) w)
      → {j : ℕ} → j ≤ 1 → length (value_names model main f) < 2 ^ 64 → Addable j t
  unfolding value_names
  listed_fits e {j} h n =
      let names = typed model (plain main) (message model f) in
      addable j t 1 (length names) h (λ l i. tally_few start (e (plain main) start refl) names (Adds start (odds names)) (λ v a. a.3)
      (grew_type model (plain main) (message model f) start) i) (omega arith)

  pub listed_few : (scope : List Name) → ((k : Context) (w : Walk) → k.main ≡ main → w.scope ≡ scope → tally_says w t ≡ output model k w f)
      → {j : ℕ} → t ≡ Ok j → j ≤ length (value_names model main f)
  listed_few scope e i =
      let w = seeing scope in
      tally_few w (e (plain main) w refl refl) (value_names model main f) (Grew w 0 (odds (value_names model main f))) (λ v a. a.1)
      (grew_output model (λ _. false) (plain main) w f) i

-- all of them
module _ (model : Bytes) (k : Context) (l : List Field) where
  outputs_grew : (w : Walk) → Tells (Grew w 0 (odds (flat_map (value_names model k.main) l))) Any (each (output model k) w l)
  outputs_grew w = names_each (λ u. u) (value_names model k.main) (output model k) (grew_output model (λ _. false) k) l w

  pub outputs_odd : (w : Walk) → Tells (λ v. v.odd ≤ w.odd + length (flat_map (value_names model k.main) l)) Any (each (output model k) w l)
  outputs_odd w =
      let names = flat_map (value_names model k.main) l in
      let few = odds_few names in
      tells_weaken (Grew w 0 (odds names)) (λ v. v.odd ≤ w.odd + length names) Any Any (each (output model k) w l)
      (λ v a. let e = a.1 in omega arith) (λ r _. tt) (outputs_grew w)

  pub outputs_few : (scope : List Name) {t : Answer ℕ} → ((w : Walk) → w.scope ≡ scope → tally_says w t ≡ each (output model k) w l)
      → {j : ℕ} → t ≡ Ok j → j ≤ length (flat_map (value_names model k.main) l)
  outputs_few scope e i =
      let w = seeing scope in
      let names = flat_map (value_names model k.main) l in
      tally_few w (e w refl) names (Grew w 0 (odds names)) (λ v a. a.1) (outputs_grew w) i
