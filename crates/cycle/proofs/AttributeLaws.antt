-- An attribute as the cycle puts it together: each way out of the function, with all that it promises.
use Rattle.std.specs.Prelude.{Err, None, Ok, Some}
use Rattle.std.specs.declared.option.Option as code
use Rattle.varint.specs.Answers.{Answer, option_of}
use Prim.Native.Nat.{ℕ, ◌+◌, ◌≤◌}
use native.Mathlib.Omega.{arith}
use mathlib.Core.Path.{◌≡◌, refl, sym, ap, ◌∙◌}
use mathlib.Core.Bool.{Bool, true, false, ◌||◌}
use mathlib.Core.List.{List, flat_map}
use mathlib.Core.Option.{some}
use lib.ListN.{length}
use lib.Dec.{eqb}
use Rattle.varint.specs.Outcome.{pass, ◌>>=◌, each, Judged}
use Rattle.varint.specs.declared.Refusal.{Refusal}
use Rattle.wire.specs.declared.Field.{Field}
use Rattle.varint.specs.Lists.{lookup}
use Rattle.varint.specs.Bytes.{Bytes}
use Rattle.wire.specs.Message.{all_of, number_of, bytes_of, message}
use Rattle.wire.specs.Answers.{contents_of, sought_says, sought_in, Sought}
use Rattle.wire.specs.declared.Cursor.{Cursor}
use Rattle.wire.proofs.Along.{all_from, along_contents}
use Rattle.varint.proofs.Answers.{says}
use Rattle.schema.specs.Numbers.{Graph-node, Attribute-type, Attribute-ref_attr_name, Attribute-g, Attribute-graphs}
use Rattle.rules.specs.Names.{Name, bodies_of}
use Rattle.rules.specs.Walk.{Walk, GraphJudge, leaving}
use Rattle.rules.specs.Verdict.{fills}
use Rattle.rules.specs.Node.{carriers, bad_attribute, body}
use Rattle.rules.specs.Count.{attribute_names, names_in}
use Rattle.schema.specs.declared.Kind.{Kind}
use Rattle.scope.specs.Recall.{Minds}
use Rattle.scope.specs.declared.remembered.Index.{Index}
use Rattle.scope.specs.Scope.{walk_in, step_says, counting, Countable, left, grows, Enters, counted, Keeps}
use Rattle.values.specs.Answers.{tally_says, Addable}
use Rattle.messages.specs.Heads.{attribute_rules}
use Rattle.messages.specs.Around.{inside, import_number, attributes_of, imports_of}
use Rattle.messages.specs.Again.{attribute_again, graph_again}
use Rattle.messages.specs.declared.contexts.Surroundings.{Surroundings}
use Rattle.scope.specs.declared.scopes.Progress.{Progress}
use Rattle.scope.proofs.ScopeLaws.{scope_prefix}
use Rattle.messages.proofs.AttributeLaws.{attribute_value}
use Rattle.scope.proofs.StepLaws.{counting_few}
use Rattle.cycle.proofs.CycleLaws.{Going, going_goes}
use Rattle.values.proofs.TallyLaws.{addable}
use Rattle.nodes.proofs.NodeCounts.{attribute_few}
use Rattle.cycle.proofs.BodyLaws.{carried, bodies_none, bodies_all}
use Rattle.cycle.proofs.CountLaws.{attribute_names_lem, body_most, again_most}
use Rattle.cycle.proofs.PromiseLaws.{Promised, refused_bind, staying}
use Rattle.cycle.proofs.PromiseLaws.{headed, headed_stops, headed_goes, enters_first, promised_first, loop_done, loop_stops}

-- ---- a graph inside an attribute: s is the judge's answer, with the cells `last`

module _ (model : Bytes) (nested : GraphJudge) (cells : List ℕ) (q : Progress) (d : Field) (last : List ℕ) (s : Answer Progress)
    (judged : step_says model last s ≡ nested (walk_in model cells q) d) where
  Left : Judged Walk → Judged Walk
  Left o = o >>= λ v. pass (leaving (walk_in model cells q) v)

  body_by : Left (nested (walk_in model cells q) d) ≡ body nested (walk_in model cells q) d
  unfolding body Left
  body_by = refl

  body_stops : {x : Refusal} → s ≡ Err x → step_says model last s ≡ body nested (walk_in model cells q) d
  unfolding Left
  body_stops k = refused_bind model last _ judged k ∙ body_by

  -- its names vanish: the cells in use before it are as they were
  body_goes : {u : Progress} → s ≡ Ok u → Keeps q.used cells last → {l : Progress} → l ≡ left q u
      → step_says model last (Ok l) ≡ body nested (walk_in model cells q) d
  unfolding step_says Left walk_in leaving left ◌>>=◌
  body_goes {u} k kept e =
      ap (λ (l : Progress). pass (walk_in model last l)) e
      ∙ ap (λ (x : List Name). pass (record { scope = x; nodes = u.nodes; most = u.most; odd = u.odd }))
      (scope_prefix model last cells q.used q.used (omega arith) kept.below)
      ∙ ap Left (says (step_says model last) judged k)
      ∙ body_by

-- ---- attribute

abbrev pub Nested : (model : Bytes) (depth : ℕ) (around : Surroundings) (size : ℕ) → GraphJudge
Nested model depth around size = λ v g. graph_again model (fills size) depth (inside around) v g

-- `inner` is what surrounds a graph inside it
module _ {inner : Surroundings} (around : Surroundings) (e : inner ≡ inside around) where
  pub inner_nodes : inner.nodes ≡ Graph-node
  unfolding inside
  inner_nodes = ap (λ (s : Surroundings). s.nodes) e

  -- it goes by the same imports and attributes
  pub inner_minds : (model : Bytes) {ix : Index} {top : ℕ} {cells extra : List ℕ}
      → Minds model (imports_of model around) (attributes_of model around) ix top cells extra
      → Minds model (imports_of model inner) (attributes_of model inner) ix top cells extra
  unfolding inside imports_of import_number attributes_of
  inner_minds model m = rw e m

module _ (model : Bytes) (depth : ℕ) {inner : Surroundings} (around : Surroundings) (e : inner ≡ inside around) where
  pub inner_judged : (size : ℕ) (w : Walk) (g : Field) {o : Judged Walk}
      → o ≡ graph_again model (fills size) depth inner w g → o ≡ Nested model depth around size w g
  inner_judged size w g h = h ∙ ap (λ (i : Surroundings). graph_again model (fills size) depth i w g) e

  pub inner_countable : (q : Progress) (g : Field) → Countable q (names_in model depth false g) → Countable q (names_in model depth inner.main g)
  unfolding inside
  inner_countable q g h = rw e h

-- there is room to count its own name
pub attribute_fits : (model : Bytes) (around : Surroundings) (inner : Field → List Bytes) (node : Field) (p : Progress) (f : Field) (t : Answer ℕ)
    → ((w : Walk) → tally_says w t ≡ attribute_rules model around node w f)
    → Countable p (attribute_names model inner f) → Addable p.odd t
unfolding Countable
attribute_fits model around inner node p f t ruled room =
    let names = attribute_names_lem model inner f in
    addable p.odd t p.odd 1 (omega arith) (λ l i. attribute_few model around node f ruled i) (omega arith)

-- t is the tally of its rules, and s the step of that, which only counts
pub attribute_first : (model : Bytes) (around : Surroundings) (node : Field) (p : Progress) (f : Field) (t : Answer ℕ)
    → ((w : Walk) → tally_says w t ≡ attribute_rules model around node w f)
    → {s : Answer Progress} → s ≡ counting p t → {first : Progress} → s ≡ Ok first
    → (first.used ≡ p.used) × (first.nodes ≡ p.nodes) × (first.odd ≤ p.odd + 1)
attribute_first model around node p f t ruled stepped k = counting_few p t 1 (λ l i. attribute_few model around node f ruled i) stepped k

module _ (model : Bytes) (depth : ℕ) (around : Surroundings) (node : Field) (cells : List ℕ) (p : Progress) (f : Field) (t : Answer ℕ)
    (ruled : (w : Walk) → tally_says w t ≡ attribute_rules model around node w f) {s : Answer Progress} (stepped : s ≡ counting p t) where
  abbrev Attribute : Judged Walk
  Attribute = attribute_again model (fills (length cells)) (Nested model depth around (length cells)) around node (walk_in model cells p) f

  abbrev Bodies : List Field → Walk → Judged Walk
  Bodies l w = each (body (Nested model depth around (length cells))) w l

  pub attribute_stops : {x : Refusal} → s ≡ Err x → Promised model Attribute cells cells p f s
  unfolding attribute_again
  attribute_stops k = headed_stops model cells p (Bodies (bodies_of (message model f))) t (ruled (walk_in model cells p)) stepped k

  module _ {first : Progress} (k : s ≡ Ok first) where
    started : (first.used ≡ p.used) × (first.nodes ≡ p.nodes) × (first.odd ≤ p.odd + 1)
    started = attribute_first model around node p f t ruled stepped k

    by_bodies : Bodies (bodies_of (message model f)) (walk_in model cells first) ≡ Attribute
    unfolding attribute_again
    by_bodies = headed_goes model cells p (Bodies (bodies_of (message model f))) t (ruled (walk_in model cells p)) stepped k

    good : bad_attribute (bytes_of model Attribute-ref_attr_name (message model f)) (message model f) ≡ false
    unfolding step_says
    good =
        attribute_value model around node (walk_in model cells p) (walk_in model cells first) f
        (sym (headed model cells p (Bodies (bodies_of (message model f))) t (ruled (walk_in model cells p)) stepped k))

    own : {kind : ℕ} → kind ≡ number_of Attribute-type (message model f) → {v : code.Option ℕ} → option_of v ≡ lookup kind carriers
        → {c : code.Option ℕ} → v ≡ c → lookup (number_of Attribute-type (message model f)) carriers ≡ option_of c
    own ek ev ec = sym (ap option_of (sym ec) ∙ ev ∙ ap (λ (i : ℕ). lookup i carriers) ek)

    -- its type is in 1..14
    pub attribute_carried : {kind : ℕ} → kind ≡ number_of Attribute-type (message model f) → {v : code.Option ℕ} → option_of v ≡ lookup kind carriers
        → v ≡ None → ⊥
    unfolding option_of
    attribute_carried ek ev ec = carried (message model f) _ good (own ek ev ec)

    module _ {kind : ℕ} (ek : kind ≡ number_of Attribute-type (message model f)) {v : code.Option ℕ} (ev : option_of v ≡ lookup kind carriers)
        {n : ℕ} (en : v ≡ Some n) {b : Bool} (eb : b ≡ (eqb Attribute-g n || eqb Attribute-graphs n)) where
      carrier : lookup (number_of Attribute-type (message model f)) carriers ≡ some n
      unfolding option_of
      carrier = own ek ev en

      pub attribute_plain : {kind : Kind} → Enters model kind p f → b ≡ false → Promised model Attribute cells cells p f (Ok first)
      unfolding each
      attribute_plain e h =
          promised_first started.0 started.1
          (staying model first (enters_first started.0 started.1 e)
          (ap (λ (l : List Field). Bodies l (walk_in model cells first)) (sym (bodies_none (message model f) _ good carrier (sym eb ∙ h))) ∙ by_bodies))

      attribute_all : b ≡ true → Bodies (all_from model n f.next f.start) (walk_in model cells first) ≡ Attribute
      unfolding contents_of
      attribute_all h =
          along_contents model n _ _ f refl
          ∙ ap (λ (l : List Field). Bodies l (walk_in model cells first)) (sym (bodies_all (message model f) _ good carrier (sym eb ∙ h)))
          ∙ by_bodies

      -- there is room to count the names of the bodies
      pub bodies_countable : b ≡ true → Countable p (attribute_names model (names_in model depth false) f)
          → Countable first (flat_map (names_in model depth false) (all_from model n f.next f.start))
      unfolding Countable all_from all_of message
      bodies_countable h room =
          let names = attribute_names_lem model (names_in model depth false) f in
          let all = ap (λ (l : List Field). length (flat_map (names_in model depth false) l)) (bodies_all (message model f) _ good carrier (sym eb ∙ h)) in
          let odd = started.2 in
          omega arith

      -- the loop over the bodies, from the cursor `begin` on
      module _ (h : b ≡ true) {begin : Cursor} (o : begin ≡ contents_of f) {later : List ℕ} {q : Progress} {c : Cursor}
          (g : Going model n begin.end begin.at (names_in model depth false) (λ size. body (Nested model depth around size))
          (Bodies (all_from model n begin.end begin.at) (walk_in model cells first)) cells first later q c)
          {a : Sought} (read : sought_says a ≡ sought_in model n c.end c.at) where
        pub bodies_done : {kind : Kind} → Enters model kind p f → a ≡ None → Promised model Attribute cells later p f (Ok q)
        unfolding contents_of
        bodies_done e i =
            promised_first started.0 started.1 (loop_done (rw o at g) read (enters_first started.0 started.1 e) i (attribute_all h))

        module _ {d : Field} {next : Cursor} (e : a ≡ Some (d, next)) {last : List ℕ} (r : Answer Progress)
            (judged : step_says model last r ≡ Nested model depth around (length later) (walk_in model later q) d) (more : grows q r) (count : counted d q r)
            (kept : Keeps q.used later last) where
          pub bodies_stop : {x : Refusal} → r ≡ Err x → Promised model Attribute cells last p f r
          unfolding contents_of
          bodies_stop i =
              promised_first started.0 started.1
              (loop_stops (rw o at g) read e r (body_stops model (Nested model depth around (length later)) later q d last r judged i) more kept i
              (attribute_all h))

          pub bodies_go : {u : Progress} → r ≡ Ok u → {l : Progress} → l ≡ left q u
              → Going model n begin.end begin.at (names_in model depth false) (λ size. body (Nested model depth around size))
              (Bodies (all_from model n begin.end begin.at) (walk_in model cells first)) cells first last l next
          unfolding grows counted left inside
          bodies_go {u} i {l} m =
              let used : l.used ≡ q.used = ap (λ (x : Progress). x.used) m in
              let nodes : l.nodes ≡ u.nodes = ap (λ (x : Progress). x.nodes) m in
              let few : u.nodes + d.place ≤ q.nodes + d.next = rw i at count in
              going_goes g read e (Ok l) (body_goes model (Nested model depth around (length later)) later q d last r judged i kept m) (omega arith) kept
              (λ size w b. body_most model (fills size) (Nested model depth around size) (names_in model depth false)
              (again_most model (fills size) depth (inside around)) w b)
              (omega arith) refl
