-- The loop over the functions of a model.
use Rattle.std.specs.Prelude.{Err, None, Ok, Option, Some}
use Rattle.varint.specs.Answers.{Answer}
use Prim.Native.Nat.{ℕ, ◌+◌, ◌-◌, ◌*◌, ◌^◌, ◌≤◌, ◌<◌}
use native.Mathlib.Omega.{arith}
use mathlib.Core.Path.{◌≡◌, refl, sym, ap, subst, ◌∙◌}
use mathlib.Core.Bool.{Bool, false}
use mathlib.Core.List.{List, [], Memᴰ, map}
use lib.ListN.{length, take, drop}
use Rattle.varint.specs.Outcome.{pass, each, Judged}
use Rattle.varint.specs.Bytes.{Bytes}
use Rattle.varint.specs.declared.Refusal.{Refusal}
use Rattle.varint.proofs.Answers.{says}
use Rattle.varint.proofs.Passing.{passed_tells}
use Rattle.varint.proofs.Tells.{Any}
use Rattle.wire.specs.Wire.{field}
use Rattle.wire.specs.Message.{all_of, message, whole}
use Rattle.wire.specs.Outline.{Starts}
use Rattle.wire.specs.Answers.{sought_says, sought_in, Sought}
use Rattle.wire.specs.declared.Field.{Field}
use Rattle.wire.specs.declared.Cursor.{Cursor}
use Rattle.wire.proofs.Along.{all_from, Onward, found_onward, Along, along_done, along_fails, along_goes, along_falls, along_here, along_later, along_from, along_past}
use Rattle.wire.proofs.Reading.{Fits, AtTag, field_tells}
use Rattle.schema.specs.declared.Kind.TheVariants.{Function}
use Rattle.schema.specs.Numbers.{Model-functions}
use Rattle.schema.specs.FirstWalk.{first_walk}
use Rattle.schema.proofs.Opened.{walked_inner, walked_whole, model_functions}
use Rattle.rules.specs.Walk.{Walk}
use Rattle.rules.specs.Verdict.{fills}
use Rattle.rules.specs.Identity.{identity_of, identified}
use Rattle.rules.specs.Count.{names_in, function_names}
use Rattle.rules.proofs.NamesFew.{function_names_few}
use Rattle.scope.specs.Scope.{walk_in, step_says, Enters, Countable, counted}
use Rattle.scope.specs.Recall.{Recalling}
use Rattle.scope.specs.declared.remembered.Index.{Index}
use Rattle.scope.specs.declared.scopes.Progress.{Progress}
use Rattle.identities.specs.Functions.{functions_before}
use Rattle.identities.specs.Identified.{Identified, Added}
use Rattle.identities.proofs.LoopLaws.{Defining, defining_start, defining_goes}
use Rattle.functions.specs.Function.{function_again}
use Rattle.functions.proofs.FunctionLaws.{function_most}
use Rattle.second_walk.specs.Walks.{one_again, functions_again, few_counted}

-- a function that was found lies in the model, behind its tag
pub onward_fits : {model : Bytes} {number pos : ℕ} {f : Field} {next : Cursor} → Onward model number (length model) pos f next → Fits f.place (length model) f
onward_fits {model} {number} {pos} {f} o =
    passed_tells (Fits f.place (length model)) (AtTag f.place) (field model (length model) f.place) f (field_tells model (length model) f.place) o.read

-- The functions before the cursor are judged, and answered `o` is what all of them answer. What is counted fits: a function has no more nodes than bytes, and
-- no more names than 49 for each.
pub record Judging (model list : Bytes) (v : ℕ) (ix : Index) (last : ℕ) (o : Judged Walk) (first lent : List ℕ)
    (cells extra : List ℕ) (q : Progress) (known : Option ℕ) (c : Cursor) : Type 0 where
  pub along : Along model Model-functions (length model) (one_again model list (fills (length first)) v) o (walk_in model cells q) c
  pub within : (f : Field) → Memᴰ f (all_from model Model-functions (length model) c.at) → Memᴰ f (all_of Model-functions (message model (whole model)))
  pub size : length cells ≡ length first
  pub sized : length extra ≡ length lent
  pub memory : Recalling model ix cells (take last extra)
  pub table : Defining model ix.seed v (drop last extra) known c
  pub nodes : q.nodes ≤ 2 ^ 32 + c.at
  pub odd : q.odd ≤ 48 * 2 ^ 32 + 49 * c.at

pub judging_start : {model : Bytes} (list : Bytes) {v : ℕ} {ix : Index} {last : ℕ} {cells extra : List ℕ} {p : Progress} {pos : ℕ}
    → Starts model (whole model) Model-functions pos → Recalling model ix cells (take last extra)
    → Identified model ix.seed v (drop last extra) (Some 0) [] → few_counted (Ok p)
    → Judging model list v ix last (functions_again model list (fills (length cells)) v (walk_in model cells p)) cells extra cells extra p
    (Some 0) (record { at = pos; end = length model })
unfolding functions_again few_counted whole all_from
judging_start {model} list {v} {ix} {last} {cells} {extra} {p} {pos} s m i few = record {
  along = record { ends = refl; rest = ap (each (one_again model list (fills (length cells)) v) (walk_in model cells p)) s.same };
  within = λ f h. subst (Memᴰ f) s.same h;
  size = refl;
  sized = refl;
  memory = m;
  table = defining_start s i;
  nodes = (let n = few.0 in omega arith);
  odd = (let n = few.1 in omega arith);
}

module _ {model list : Bytes} {v : ℕ} {ix : Index} {last : ℕ} {o : Judged Walk} {first lent cells extra : List ℕ} {q : Progress} {known : Option ℕ} {c : Cursor}
    (g : Judging model list v ix last o first lent cells extra q known c) {a : Sought} (read : sought_says a ≡ sought_in model Model-functions c.end c.at) where
  pub judging_done : a ≡ None → step_says model cells (Ok q) ≡ o
  unfolding step_says
  judging_done e = sym (along_done g.along read e)

  module _ {f : Field} {next : Cursor} (e : a ≡ Some (f, next)) where
    pub judging_falls : length model - next.at < length model - c.at
    judging_falls = along_falls g.along read e

    fits : Fits f.place (length model) f
    fits = onward_fits (found_onward model Model-functions (length model) g.along.ends read e)

    -- the walk may go into the function
    pub judging_enters : length model < 2 ^ 32 → first_walk model ≡ pass tt → Enters model Function q f
    judging_enters h passed =
        let low = along_from g.along read e in
        let nodes = g.nodes in
        let inside = fits.3 in
        record {
          short = h;
          walked = walked_inner (walked_whole model passed) Model-functions (g.within f (along_here g.along read e)) model_functions;
          tagged = fits.1;
          ends = fits.2;
          few = omega arith;
        }

    -- there is room to count its names
    pub judging_countable : length model < 2 ^ 32 → Countable q (function_names model (names_in model 7 false) f)
    unfolding Countable
    judging_countable h =
        let few = function_names_few model f fits.1 fits.2 in
        let low = along_from g.along read e in
        let odd = g.odd in
        let tagged = fits.1 in
        let ends = fits.2 in
        let inside = fits.3 in
        omega arith

    -- b is whether it stood before, r its answer with the cells `later`
    module _ {b : Bool}
        (twice : b ≡ identified (identity_of model v (message model f)) (map (λ h. identity_of model v (message model h)) (functions_before model f.place)))
        (later : List ℕ) (r : Answer Progress) (answer : step_says model later r ≡ function_again model (fills (length cells)) 7 list v b (walk_in model cells q) f) where
      answered : step_says model later r ≡ one_again model list (fills (length first)) v (walk_in model cells q) f
      unfolding one_again
      answered =
          answer
          ∙ ap (λ (n : ℕ). function_again model (fills n) 7 list v b (walk_in model cells q) f) g.size
          ∙ ap (λ (t : Bool). function_again model (fills (length first)) 7 list v t (walk_in model cells q) f) twice

      pub judging_stops : {x : Refusal} → r ≡ Err x → step_says model later r ≡ o
      unfolding step_says
      judging_stops k = ap (step_says model later) k ∙ sym (along_fails g.along read e (sym (says (step_says model later) answered k)))

      pub judging_goes : counted f q r → {u : Progress} → r ≡ Ok u → {among : List ℕ} → length later ≡ length cells → length among ≡ length extra
          → Recalling model ix later (take last among)
          → {more : Option ℕ} → Added model ix.seed v known f (drop last extra) (drop last among) more
          → Judging model list v ix last o first lent later among u more next
      unfolding step_says counted walk_in
      judging_goes n {u} k {among} size sized memory {more} added =
          let low = along_from g.along read e in
          let past = along_past g.along read e in
          let nodes = g.nodes in
          let odd = g.odd in
          let few = function_names_few model f fits.1 fits.2 in
          let counts : u.nodes + f.place ≤ q.nodes + f.next = rw k at n in
          let names = passed_tells _ Any _ (walk_in model later u) (function_most model (fills (length cells)) 7 list v b (walk_in model cells q) f)
          (sym (says (step_says model later) answer k)) in
          let tagged = fits.1 in
          let ends = fits.2 in
          record {
            along = along_goes g.along read e (sym (says (step_says model later) answered k));
            within = λ h m. g.within h (along_later g.along read e m);
            size = size ∙ g.size;
            sized = sized ∙ g.sized;
            memory = memory;
            table = defining_goes g.table read e added;
            nodes = omega arith;
            odd = omega arith;
          }
