-- What is asked of a node by itself, in the order of the code's tests.
use Rattle.std.specs.Prelude.{Err, Ok}
use Rattle.varint.specs.Answers.{Answer}
use Prim.Native.Nat.{ℕ, ◌+◌, ◌≤◌}
use mathlib.Core.Path.{◌≡◌, sym, ap, ap₂, ◌∙◌}
use mathlib.Core.Bool.{Bool, true, false, not}
use mathlib.Core.List.{List, [], ◌∷◌}
use mathlib.Core.Option.{Option, none, some}
use lib.ListN.{length}
use Rattle.varint.specs.Outcome.{pass, fail, ◌>>=◌, ◌>>◌, Judged, refused, refuse◌at:◌when:◌}
use Rattle.wire.specs.declared.Field.{Field}
use Rattle.varint.specs.Lists.{is_empty}
use Rattle.varint.specs.Bytes.{Bytes, member}
use Rattle.wire.specs.Message.{first_of, place_of, text, bytes_of, message}
use Rattle.varint.specs.declared.Refusal.{Refusal}
use Rattle.varint.proofs.Refusing.{when_broken, when_kept}
use Rattle.varint.proofs.Tells.{Tells, Any, tells_bind}
use Rattle.operators.specs.Operators.{domain}
use Rattle.schema.specs.Numbers.{Node-name, Node-op_type, Node-domain}
use Rattle.rules.specs.Names.{name_of}
use Rattle.rules.specs.Walk.{Walk, Along, tested, naming}
use Rattle.rules.specs.Node.{node_name}
use Rattle.rules.specs.Count.{odds}
use Rattle.rules.proofs.Rules.{Adds}
use Rattle.rules.proofs.Counting.{grew_name}
use Rattle.headers.specs.Earlier.{earlier_in}
use Rattle.headers.specs.Imports.{imports_before}
use Rattle.headers.proofs.ImportLaws.{imports_all}
use Rattle.values.specs.Answers.{more, tally_says, naming_says, name_field, adding}
use Rattle.values.proofs.TallyLaws.{more_none, tallied, untallied, tally_few, adding_says}
use Rattle.values.proofs.NameLaws.{empty_none, empty_some, named_fails, named_passes}
use Rattle.messages.specs.Around.{field_of, import_number, imports_of}
use Rattle.messages.specs.Heads.{walk_of, node_head}
use Rattle.messages.specs.declared.contexts.Surroundings.{Surroundings}

module _ (model : Bytes) (earlier : List Bytes) (m : Field) (w : Walk) where
  -- the rule on a name and its place
  Stands : Bytes → ℕ → Judged Walk → Judged Along
  Stands x p o = o >>= λ v. refuse 29 at: p when: member x earlier >> pass (record { walk = v; earlier = x ∷ earlier })

  Ruled : Bytes → ℕ → Judged Along
  Ruled x p = elim (is_empty x) [ true ↦ pass (record { walk = w; earlier = earlier }) | false ↦ Stands x p (tested w (record { bytes = x; place = p })) ]

  abbrev Name? : Judged Walk
  Name? = walk_of (node_name model earlier w (message model m))

  ruled : {o : Option Field} → o ≡ first_of Node-name (message model m)
      → walk_of (Ruled (elim o [ none ↦ [] | some f ↦ text model f ]) (elim o [ none ↦ m.place | some f ↦ f.place ])) ≡ Name?
  unfolding node_name name_of bytes_of place_of message Ruled Stands
  ruled k = ap (λ (o : Option Field). walk_of (Ruled (elim o [ none ↦ [] | some f ↦ text model f ]) (elim o [ none ↦ m.place | some f ↦ f.place ]))) k

  pub node_nameless : none ≡ first_of Node-name (message model m) → pass (more w 0) ≡ Name?
  unfolding Ruled is_empty walk_of ◌>>=◌
  node_nameless k = ap pass (more_none w) ∙ ruled k

  module _ {f : Field} (k : some f ≡ first_of Node-name (message model m)) {x : Bytes} (t : x ≡ text model f) where
    by_length : {b : Bool} → is_empty x ≡ b
        → walk_of (elim b [
          | true ↦ pass (record { walk = w; earlier = earlier })
          | false ↦ Stands x f.place (tested w (record { bytes = x; place = f.place }))
        ]) ≡ Name?
    unfolding Ruled
    by_length e =
        ap (λ (b : Bool). walk_of (elim b [
          | true ↦ pass (record { walk = w; earlier = earlier })
          | false ↦ Stands x f.place (tested w (record { bytes = x; place = f.place }))
        ])) (sym e)
        ∙ ap (λ (y : Bytes). walk_of (Ruled y f.place)) t
        ∙ ruled k

    pub node_unnamed : length x ≡ 0 → pass (more w 0) ≡ Name?
    unfolding walk_of ◌>>=◌
    node_unnamed h = ap pass (more_none w) ∙ by_length (empty_none x h)

    module _ (h : length x ≡ 0 → ⊥) where
      stood : {o : Judged Walk} → tested w (record { bytes = x; place = f.place }) ≡ o → walk_of (Stands x f.place o) ≡ Name?
      stood i = ap (λ (o : Judged Walk). walk_of (Stands x f.place o)) (sym i) ∙ by_length (empty_some x h)

      module _ {c : Answer ℕ} (e : tally_says w c ≡ tested w (record { bytes = x; place = f.place })) where
        pub node_misnamed : {r : Refusal} → c ≡ Err r → fail r ≡ Name?
        unfolding Stands walk_of ◌>>=◌
        node_misnamed i = stood (untallied w e i)

        module _ {n : ℕ} (i : c ≡ Ok n) {v : Bool} (j : v ≡ member x earlier) where
          new : walk_of (refuse 29 at: f.place when: v >> pass (record { walk = more w n; earlier = x ∷ earlier })) ≡ Name?
          unfolding Stands ◌>>=◌
          new =
              ap (λ (y : Bool). walk_of (refuse 29 at: f.place when: y >> pass (record { walk = more w n; earlier = x ∷ earlier }))) j
              ∙ stood (tallied w e i)

          pub node_twice : v ≡ true → refused 29 f.place ≡ Name?
          unfolding walk_of ◌>>=◌
          node_twice u = sym (ap walk_of (when_broken 29 f.place _ u)) ∙ new

          pub node_named : v ≡ false → pass (more w n) ≡ Name?
          unfolding walk_of ◌>>=◌
          node_named u = sym (ap walk_of (when_kept 29 f.place _ u)) ∙ new

  -- it counts no more than once
  name_tells : Tells (λ v. v.odd ≡ w.odd + odds (bytes_of model Node-name (message model m) ∷ [])) Any Name?
  unfolding walk_of
  name_tells =
      tells_bind (λ n. Adds w (odds (bytes_of model Node-name (message model m) ∷ [])) n.walk) _ Any (node_name model earlier w (message model m)) _
      (grew_name model earlier w (message model m)) (λ n a. a.3)

  pub node_name_few : {t : Answer ℕ} → tally_says w t ≡ Name? → {k : ℕ} → t ≡ Ok k → k ≤ 1
  node_name_few e i = tally_few w e (bytes_of model Node-name (message model m) ∷ []) _ (λ v a. a) name_tells i

-- ---- what is asked of a node by itself

-- o is the owner's field, n the number of the fields that hold its imports
pub imported_by : (model : Bytes) (s : Surroundings) {o : Field} {n : ℕ} → o ≡ field_of s.owner → n ≡ import_number s
    → imports_before model n o o.next ≡ imports_of model s
unfolding imports_of
imported_by model s e k = ap₂ (λ (o : Field) (n : ℕ). imports_before model n o o.next) e k ∙ imports_all model (import_number s) (field_of s.owner)

module _ (model : Bytes) (s : Surroundings) (graph f : Field) where
  abbrev Naming? : Walk → Judged Walk
  Naming? w = walk_of (node_name model (earlier_in model s.nodes Node-name graph f) w (message model f))

  Imported : Walk → Judged Walk
  Imported w = do
    refuse 28 at: place_of Node-domain (message model f) when: not (member (domain (bytes_of model Node-domain (message model f))) (imports_of model s))
    Naming? w

  module _ (n : Answer (Field × ℕ)) (e : (w : Walk) → naming_says w n ≡ name_field model 27 Node-op_type w (message model f)) (w : Walk) where
    headed : {o : Judged Walk} → o ≡ naming 27 w (name_of model Node-op_type (message model f)) → (o >>= Imported) ≡ node_head model s graph w f
    unfolding node_head Imported
    headed k = ap (λ (o : Judged Walk). o >>= Imported) k

    pub head_untyped : {x : Refusal} → n ≡ Err x → fail x ≡ node_head model s graph w f
    unfolding ◌>>=◌
    head_untyped k = headed (named_fails _ _ _ _ _ e w k)

    module _ {g : Field} {k : ℕ} (i : n ≡ Ok (g, k)) {x : Bytes} (t : x ≡ bytes_of model Node-domain (message model f)) {b : Bool}
        (j : b ≡ member (domain x) (imports_of model s)) where
      typed : (refuse 28 at: place_of Node-domain (message model f) when: not b >> Naming? (more w k)) ≡ node_head model s graph w f
      unfolding Imported ◌>>=◌
      typed =
          ap (λ (u : Bool). refuse 28 at: place_of Node-domain (message model f) when: not u >> Naming? (more w k))
          (j ∙ ap (λ (y : Bytes). member (domain y) (imports_of model s)) t)
          ∙ headed (named_passes _ _ _ _ _ e w i)

      pub head_foreign : b ≡ false → {p : ℕ} → p ≡ place_of Node-domain (message model f) → refused 28 p ≡ node_head model s graph w f
      head_foreign h q = ap (refused 28) q ∙ sym (when_broken 28 _ _ (ap not h)) ∙ typed

      pub head_named : b ≡ true → (t : Answer ℕ) → tally_says (more w k) t ≡ Naming? (more w k) → tally_says w (adding k t) ≡ node_head model s graph w f
      head_named h t l = adding_says w k t ∙ l ∙ sym (when_kept 28 _ _ (ap not h)) ∙ typed
