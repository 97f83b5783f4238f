-- A node as the cycle puts it together: each way out of the function, with all that it promises.
use Rattle.std.specs.Prelude.{Err, None, Ok, Some}
use Rattle.varint.specs.Answers.{Answer}
use Prim.Native.Nat.{ℕ, ◌+◌, ◌^◌, ◌≤◌, ◌<◌}
use native.Mathlib.Omega.{arith}
use mathlib.Core.Path.{◌≡◌, refl, sym, ap, ◌∙◌}
use mathlib.Core.Bool.{false}
use mathlib.Core.List.{List, flat_map}
use lib.ListN.{length}
use Rattle.varint.specs.Outcome.{◌>>=◌, each, Judged}
use Rattle.varint.specs.declared.Refusal.{Refusal}
use Rattle.wire.specs.declared.Field.{Field}
use Rattle.varint.specs.Bytes.{Bytes}
use Rattle.wire.specs.Message.{all_of, message}
use Rattle.wire.specs.Answers.{contents_of, sought_says, sought_in, Sought}
use Rattle.wire.specs.declared.Cursor.{Cursor}
use Rattle.wire.proofs.Along.{all_from, along_contents}
use Rattle.schema.specs.Numbers.{Node-input, Node-output, Node-attribute}
use Rattle.rules.specs.Names.{Name}
use Rattle.rules.specs.Walk.{Walk}
use Rattle.rules.specs.Verdict.{fills}
use Rattle.rules.specs.Count.{attribute_names, node_names, names_in}
use Rattle.schema.specs.declared.Kind.{Kind}
use Rattle.scope.specs.Scope.{scope_in, walk_in, step_says, counting, Countable, grows, Enters, counted, Keeps}
use Rattle.values.specs.Answers.{tally_says, Addable}
use Rattle.messages.specs.Around.{inside}
use Rattle.messages.specs.Again.{field_names, node_rules, closing, attribute_again, node_again}
use Rattle.messages.specs.declared.contexts.Surroundings.{Surroundings}
use Rattle.scope.specs.declared.scopes.Progress.{Progress}
use Rattle.scope.proofs.ScopeLaws.{keeps_fewer, keeps_then}
use Rattle.scope.proofs.StepLaws.{Adder, Counts, counting_few}
use Rattle.cycle.proofs.CycleLaws.{Going, enters_low, going_few, going_odd, going_done, going_stops}
use Rattle.values.proofs.TallyLaws.{addable}
use Rattle.parts.proofs.OpeningLaws.{grows_then}
use Rattle.nodes.proofs.NodeCounts.{rules_few}
use Rattle.nodes.proofs.ClosingLaws.{closing_counts}
use Rattle.cycle.proofs.CountLaws.{node_names_lem, attribute_most, again_most}
use Rattle.cycle.proofs.PromiseLaws.{Promised, refusing, refused_bind, used_more}
use Rattle.cycle.proofs.PromiseLaws.{headed_stops, headed_goes, promised_first}
use Rattle.cycle.proofs.AttributeLaws.{Nested}

-- it can be counted
pub node_low : {model : Bytes} {number : ℕ} {names : Field → List Bytes} {rule : Adder} {o : Judged Walk}
    {first : List ℕ} {p : Progress} {cells : List ℕ} {q : Progress} {c : Cursor} {f : Field}
    → Going model number f.next f.start names rule o first p cells q c → {kind : Kind} → Enters model kind p f
    → q.nodes ≤ 2 ^ 33
node_low g n =
    let few = going_few g in
    let low = enters_low n in
    let short = n.short in
    let inside = n.walked.inside in
    let ends = n.ends in
    omega arith

-- there is room to count what its rules do
module _ (model : Bytes) (depth : ℕ) (p : Progress) (f : Field) (room : Countable p (node_names model (names_in model depth false) f)) where
  pub node_inputs_room : 2 + length (flat_map (field_names model) (all_of Node-input (message model f))) < 2 ^ 64
  unfolding Countable
  node_inputs_room = let names = node_names_lem model (names_in model depth false) f in omega arith

  pub node_fits : (around : Surroundings) (graph : Field) (scope : List Name) (t : Answer ℕ)
      → ((w : Walk) → w.scope ≡ scope → tally_says w t ≡ node_rules model around graph w f) → Addable p.odd t
  unfolding Countable
  node_fits around graph scope t ruled =
      let names = node_names_lem model (names_in model depth false) f in
      addable p.odd t p.odd (2 + length (flat_map (field_names model) (all_of Node-input (message model f)))) (omega arith)
      (λ l i. rules_few model around graph f scope ruled i) (omega arith)

-- no more is counted of an attribute than it has names
pub attributes_count : (model : Bytes) (depth : ℕ) (around : Surroundings) (f : Field)
    → Counts (attribute_names model (names_in model depth false)) (λ size. attribute_again model (fills size) (Nested model depth around size) around f)
unfolding inside
attributes_count model depth around f size w a =
    attribute_most model (fills size) (Nested model depth around size) (names_in model depth false)
    (again_most model (fills size) depth (inside around)) around f w a

-- t is the tally of its rules, and s the step of that, which only counts
pub node_first : (model : Bytes) (around : Surroundings) (graph : Field) (scope : List Name) (p : Progress) (f : Field) (t : Answer ℕ)
    → ((w : Walk) → w.scope ≡ scope → tally_says w t ≡ node_rules model around graph w f)
    → {s : Answer Progress} → s ≡ counting p t → {first : Progress} → s ≡ Ok first
    → (first.used ≡ p.used) × (first.nodes ≡ p.nodes)
    × (first.odd ≤ p.odd + (2 + length (flat_map (field_names model) (all_of Node-input (message model f)))))
node_first model around graph scope p f t ruled stepped k = counting_few p t _ (λ l i. rules_few model around graph f scope ruled i) stepped k

module _ (model : Bytes) (depth : ℕ) (around : Surroundings) (graph : Field) (cells : List ℕ) (p : Progress) (f : Field) (t : Answer ℕ)
    (ruled : (w : Walk) → w.scope ≡ scope_in model cells p.used → tally_says w t ≡ node_rules model around graph w f)
    {s : Answer Progress} (stepped : s ≡ counting p t) where
  abbrev Node : Judged Walk
  Node = node_again model (fills (length cells)) (Nested model depth around (length cells)) around graph (walk_in model cells p) f

  abbrev Attributes : List Field → Walk → Judged Walk
  Attributes l w = each (attribute_again model (fills (length cells)) (Nested model depth around (length cells)) around f) w l

  Closed : Judged Walk → Judged Walk
  Closed o = o >>= λ v. closing model (fills (length cells)) v f

  here : tally_says (walk_in model cells p) t ≡ node_rules model around graph (walk_in model cells p) f
  unfolding walk_in
  here = ruled (walk_in model cells p) refl

  pub node_stops : {x : Refusal} → s ≡ Err x → Promised model Node cells cells p f s
  unfolding node_again Closed
  node_stops k = headed_stops model cells p (λ w. Closed (Attributes (all_of Node-attribute (message model f)) w)) t here stepped k

  module _ {first : Progress} (k : s ≡ Ok first) where
    begun : (first.used ≡ p.used) × (first.nodes ≡ p.nodes)
        × (first.odd ≤ p.odd + (2 + length (flat_map (field_names model) (all_of Node-input (message model f)))))
    begun = node_first model around graph (scope_in model cells p.used) p f t ruled stepped k

    node_by : Closed (Attributes (all_from model Node-attribute f.next f.start) (walk_in model cells first)) ≡ Node
    unfolding node_again Closed contents_of
    node_by =
        ap Closed (along_contents model Node-attribute _ _ f refl)
        ∙ headed_goes model cells p (λ w. Closed (Attributes (all_of Node-attribute (message model f)) w)) t here stepped k

    -- there is room to count the names of the attributes
    pub attributes_countable : Countable p (node_names model (names_in model depth false) f)
        → Countable first (flat_map (attribute_names model (names_in model depth false)) (all_from model Node-attribute f.next f.start))
    unfolding Countable all_from all_of message
    attributes_countable room = let names = node_names_lem model (names_in model depth false) f in let odd = begun.2 in omega arith

    -- the loop over the attributes
    module _ {later : List ℕ} {q : Progress} {c : Cursor}
        (g : Going model Node-attribute f.next f.start (attribute_names model (names_in model depth false))
        (λ size. attribute_again model (fills size) (Nested model depth around size) around f)
        (Attributes (all_from model Node-attribute f.next f.start) (walk_in model cells first)) cells first later q c) where
      -- and then those of the outputs
      pub closing_countable : Countable p (node_names model (names_in model depth false) f)
          → Countable q (flat_map (field_names model) (all_of Node-output (message model f)))
      unfolding Countable all_from all_of message
      closing_countable room =
          let names = node_names_lem model (names_in model depth false) f in
          let first_odd = begun.2 in
          let odd = going_odd g in
          omega arith

      module _ {a : Sought} (read : sought_says a ≡ sought_in model Node-attribute c.end c.at) where
        module _ {d : Field} {next : Cursor} (e : a ≡ Some (d, next)) {last : List ℕ} (r : Answer Progress)
            (judged : step_says model last r
            ≡ attribute_again model (fills (length later)) (Nested model depth around (length later)) around f (walk_in model later q) d) (more : grows q r)
            (kept : Keeps q.used later last) where
          pub attributes_stop : {x : Refusal} → r ≡ Err x → Promised model Node cells last p f r
          unfolding Closed
          attributes_stop i =
              let u = going_stops g read e r judged more kept i in
              promised_first begun.0 begun.1 (refusing model first i (refused_bind model last _ u.0 i ∙ node_by) u.1)

        -- r is the answer of closing it, with the cells `last`
        module _ {kind : Kind} (n : Enters model kind p f) (e : a ≡ None) {last : List ℕ} (r : Answer Progress)
            (closed : step_says model last r ≡ closing model (fills (length later)) (walk_in model later q) f) (more : grows q r)
            (kept : Keeps q.used later last) where
          one_more : (u : Answer Progress) → step_says model last u ≡ closing model (fills (length later)) (walk_in model later q) f → counted f first u
          unfolding step_says counted walk_in
          one_more (Ok u) h =
              let one : u.nodes ≡ q.nodes + 1 = closing_counts model (fills (length later)) (walk_in model later q) f (walk_in model last u) (sym h) in
              let few = going_few g in
              let tagged = n.tagged in
              omega arith
          one_more (Err x) h = tt

          pub attributes_done : Promised model Node cells last p f r
          unfolding Closed step_says ◌>>=◌
          attributes_done =
              let d = going_done g read e in
              promised_first begun.0 begun.1 (record {
                answer = closed ∙ ap (λ (size : ℕ). closing model (fills size) (walk_in model later q) f) d.1.1.size ∙ ap Closed d.0 ∙ node_by;
                grown = grows_then first q r d.1.0 more;
                counts = one_more r closed;
                kept = keeps_then d.1.1 (keeps_fewer (used_more first q d.1.0) kept);
              })
