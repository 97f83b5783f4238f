-- A graph as the cycle puts it together: each way out of the function, with all that it promises.
use Rattle.std.specs.Prelude.{Err, None, Ok, Some}
use Rattle.varint.specs.Answers.{Answer}
use Prim.Native.Nat.{ℕ, zero, suc, ◌+◌, ◌-◌, ◌^◌, ◌≤◌, ◌<◌}
use native.Mathlib.Omega.{arith}
use mathlib.Core.Path.{◌≡◌, refl, sym, ap, subst, ◌∙◌}
use mathlib.Core.Bool.{Bool, false}
use mathlib.Core.List.{List, flat_map}
use lib.ListN.{length}
use Rattle.varint.specs.Outcome.{◌>>=◌, each, Judged, refused}
use Rattle.varint.specs.declared.Refusal.{Refusal}
use Rattle.wire.specs.declared.Field.{Field}
use Rattle.varint.specs.Bytes.{Bytes}
use Rattle.wire.specs.Message.{all_of, message}
use Rattle.wire.specs.Answers.{contents_of, sought_says, sought_in, Sought}
use Rattle.wire.specs.declared.Cursor.{Cursor}
use Rattle.wire.proofs.Along.{all_from, along_contents}
use Rattle.varint.proofs.Answers.{says}
use Rattle.varint.proofs.Passing.{passed_tells}
use Rattle.varint.proofs.Tells.{Any}
use Rattle.schema.specs.Numbers.{Graph-node, Graph-output}
use Rattle.rules.specs.Walk.{Context, Walk}
use Rattle.rules.specs.Verdict.{fills}
use Rattle.rules.specs.Graph.{output}
use Rattle.rules.specs.Count.{value_names, node_names, names_in}
use Rattle.schema.specs.declared.Kind.{Kind}
use Rattle.scope.specs.Scope.{scope_in, walk_in, step_says, counting, Countable, grows, Enters, counted, Keeps}
use Rattle.values.specs.Answers.{tally_says, Addable}
use Rattle.messages.specs.Around.{inside, context}
use Rattle.messages.specs.Again.{opening_names, opening, node_again, graph_from, graph_again}
use Rattle.messages.specs.declared.contexts.Surroundings.{Surroundings}
use Rattle.scope.specs.declared.scopes.Progress.{Progress}
use Rattle.scope.proofs.ScopeLaws.{keeps_fewer, keeps_then}
use Rattle.scope.proofs.StepLaws.{Counts, counting_says, grew_few}
use Rattle.cycle.proofs.CycleLaws.{Going, enters_low, going_few, going_odd, going_done, going_stops}
use Rattle.values.proofs.TallyLaws.{addable}
use Rattle.parts.proofs.OpeningLaws.{grows_then, opening_grew, opening_stays}
use Rattle.nodes.proofs.OutputLaws.{outputs_few}
use Rattle.cycle.proofs.CountLaws.{graph_names_lem, node_most, again_most}
use Rattle.cycle.proofs.PromiseLaws.{Promised, refusing, refused_bind, counting_more, counting_counts, used_more}
use Rattle.cycle.proofs.AttributeLaws.{Nested}

-- no more is counted of a node than it has names
pub nodes_count : (model : Bytes) (depth : ℕ) (around : Surroundings) (f : Field)
    → Counts (node_names model (names_in model depth false)) (λ size. node_again model (fills size) (Nested model depth around size) around f)
unfolding inside
nodes_count model depth around f size w n =
    node_most model (fills size) (Nested model depth around size) (names_in model depth false)
    (again_most model (fills size) depth (inside around)) around f w n

-- the names of the graphs inside, and room to count those of the whole
abbrev Inner : (model : Bytes) (depth : ℕ) → Field → List Bytes
Inner model depth = names_in model (depth - 1) false

names_all : (model : Bytes) (depth : ℕ) (main : Bool) (f : Field) → (depth ≡ 0 → ⊥) → length (names_in model depth main f)
    ≡ length (opening_names model main f)
    + length (flat_map (node_names model (Inner model depth)) (all_of Graph-node (message model f)))
    + length (flat_map (value_names model main) (all_of Graph-output (message model f)))
unfolding names_in
names_all model zero main f h = absurd (h refl)
names_all model (suc d) main f h = let e : suc d - 1 ≡ d = omega arith in rw e (graph_names_lem model (names_in model d false) f main)

module _ (model : Bytes) (depth : ℕ) (main : Bool) (p : Progress) (f : Field) (h : depth ≡ 0 → ⊥) (room : Countable p (names_in model depth main f)) where
  pub opening_countable : Countable p (opening_names model main f)
  unfolding Countable
  opening_countable = let n = names_all model depth main f h in omega arith

  pub outputs_room : length (flat_map (value_names model main) (all_of Graph-output (message model f))) < 2 ^ 64
  unfolding Countable
  outputs_room = let n = names_all model depth main f h in omega arith

module _ (model : Bytes) (depth : ℕ) (around : Surroundings) (cells : List ℕ) (p : Progress) (f : Field) where
  abbrev Graph : Judged Walk
  Graph = graph_again model (fills (length cells)) depth around (walk_in model cells p) f

  pub graph_deep : depth ≡ 0 → refused 6 f.place ≡ Graph
  unfolding graph_again
  graph_deep e = ap (λ (d : ℕ). graph_again model (fills (length cells)) d around (walk_in model cells p) f) (sym e)

  abbrev Opening : Judged Walk
  Opening = opening model (fills (length cells)) around (walk_in model cells p) f

  abbrev Nodes : ℕ → Walk → List Field → Judged Walk
  Nodes size v l = each (node_again model (fills size) (Nested model (depth - 1) around size) around f) v l

  Outputs : Walk → Judged Walk
  Outputs n = each (output model (context model around)) n (all_of Graph-output (message model f))

  Opened : Walk → Judged Walk
  Opened v = Nodes (length cells) v (all_of Graph-node (message model f)) >>= Outputs

  -- s is the answer of opening it, with the cells `later`
  module _ (h : depth ≡ 0 → ⊥) (later : List ℕ) (s : Answer Progress) (opened : step_says model later s ≡ Opening) (kept : Keeps p.used cells later) where
    graph_by : (Opening >>= Opened) ≡ Graph
    unfolding graph_again graph_from Opened Outputs
    graph_by = go depth h
      where
        go : (d : ℕ) → (d ≡ 0 → ⊥)
            → (Opening
            >>= λ v. each (node_again model (fills (length cells)) (Nested model (d - 1) around (length cells)) around f) v
            (all_of Graph-node (message model f))
            >>= λ n. each (output model (context model around)) n (all_of Graph-output (message model f)))
            ≡ graph_again model (fills (length cells)) d around (walk_in model cells p) f
        go zero i = absurd (i refl)
        go (suc d) i = let e : suc d - 1 ≡ d = omega arith in rw e refl

    pub graph_unopened : {x : Refusal} → s ≡ Err x → Promised model Graph cells later p f s
    graph_unopened k = refusing model p k (refused_bind model later Opened opened k ∙ graph_by) kept

    module _ {first : Progress} (k : s ≡ Ok first) where
      -- nothing is counted before the nodes
      pub graph_still : first.nodes ≡ p.nodes
      unfolding step_says walk_in
      graph_still =
          opening_stays model (fills (length cells)) around (walk_in model cells p) f (walk_in model later first)
          (sym (says (step_says model later) opened k))

      pub first_low : {kind : Kind} → Enters model kind p f → first.nodes + f.next ≤ f.start + 2 ^ 33
      first_low n = let low = enters_low n in let still = graph_still in omega arith

      first_odd : first.odd ≤ p.odd + length (opening_names model around.main f)
      unfolding step_says walk_in
      first_odd =
          passed_tells _ Any _ _ (grew_few (walk_in model cells p) 0 (opening_names model around.main f) Opening
          (opening_grew model (fills (length cells)) around (walk_in model cells p) f))
          (sym (says (step_says model later) opened k))

      pub nodes_countable : Countable p (names_in model depth around.main f)
          → Countable first (flat_map (node_names model (Inner model depth)) (all_from model Graph-node f.next f.start))
      unfolding Countable all_from all_of message
      nodes_countable room = let n = names_all model depth around.main f h in let o = first_odd in omega arith

      nodes_by : (Nodes (length later) (walk_in model later first) (all_from model Graph-node f.next f.start) >>= Outputs) ≡ Graph
      unfolding step_says Opened contents_of ◌>>=◌
      nodes_by =
          ap (λ (o : Judged Walk). o >>= Outputs)
          (ap (λ (size : ℕ). Nodes size (walk_in model later first) (all_from model Graph-node f.next f.start)) kept.size
          ∙ along_contents model Graph-node _ _ f refl)
          ∙ ap (λ (o : Judged Walk). o >>= Opened) (says (step_says model later) opened k)
          ∙ graph_by

      module _ (more : grows p s) where
        first_more : p.used ≤ first.used
        first_more = used_more p first (subst (grows p) k more)

        -- the loop over the nodes
        module _ {now : List ℕ} {q : Progress} {c : Cursor}
            (g : Going model Graph-node f.next f.start (node_names model (Inner model depth))
            (λ size. node_again model (fills size) (Nested model (depth - 1) around size) around f)
            (Nodes (length later) (walk_in model later first) (all_from model Graph-node f.next f.start)) later first now q c) where
          -- r is the tally of the outputs
          module _ (r : Answer ℕ) (ruled : (k : Context) (w : Walk) → k.main ≡ around.main → w.scope ≡ scope_in model now q.used
              → tally_says w r ≡ each (output model k) w (all_of Graph-output (message model f))) where
            pub outputs_fit : Countable p (names_in model depth around.main f) → Addable q.odd r
            unfolding Countable all_from all_of message context
            outputs_fit room =
                let n = names_all model depth around.main f h in
                let o = first_odd in
                let odd = going_odd g in
                addable q.odd r q.odd (length (flat_map (value_names model around.main) (all_of Graph-output (message model f)))) (omega arith)
                (λ l i. outputs_few model (context model around) (all_of Graph-output (message model f)) (scope_in model now q.used)
                (λ w e. ruled (context model around) w refl e) i) (omega arith)

          module _ {a : Sought} (read : sought_says a ≡ sought_in model Graph-node c.end c.at) where
            module _ {d : Field} {next : Cursor} (e : a ≡ Some (d, next)) {last : List ℕ} (t : Answer Progress)
                (judged : step_says model last t
                ≡ node_again model (fills (length now)) (Nested model (depth - 1) around (length now)) around f (walk_in model now q) d)
                (on : grows q t) (held : Keeps q.used now last) where
              pub nodes_stop : {x : Refusal} → t ≡ Err x → Promised model Graph cells last p f t
              nodes_stop i =
                  let u = going_stops g read e t judged on held i in
                  refusing model p i (refused_bind model last Outputs u.0 i ∙ nodes_by) (keeps_then kept (keeps_fewer first_more u.1))

            pub nodes_done : {kind : Kind} → Enters model kind p f → a ≡ None → (r : Answer ℕ)
                → ((k : Context) (w : Walk) → k.main ≡ around.main → w.scope ≡ scope_in model now q.used
                → tally_says w r ≡ each (output model k) w (all_of Graph-output (message model f)))
                → {t : Answer Progress} → t ≡ counting q r
                → Promised model Graph cells now p f t
            unfolding Outputs context walk_in step_says counted ◌>>=◌
            nodes_done n e r ruled {t} i =
                let d = going_done g read e in
                let few = going_few g in
                let still = graph_still in
                let tagged = n.tagged in
                let at_most : q.nodes + f.place ≤ p.nodes + f.next = omega arith in
                record {
                  answer = ap (step_says model now) i
                      ∙ counting_says model now q r
                      ∙ ruled (context model around) (walk_in model now q) refl refl
                      ∙ ap (λ (o : Judged Walk). o >>= Outputs) d.0
                      ∙ nodes_by;
                  grown = rw i (counting_more p q r (grows_then p first (Ok q) (subst (grows p) k more) d.1.0));
                  counts = rw i (counting_counts f p q r at_most);
                  kept = keeps_then kept (keeps_fewer first_more d.1.1);
                }
