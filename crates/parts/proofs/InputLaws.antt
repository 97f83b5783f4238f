-- Inputs of a graph in the order of the code's tests.
use Rattle.std.specs.Prelude.{Err, Ok}
use Rattle.varint.specs.Answers.{Answer}
use Prim.Native.Nat.{ℕ, ◌+◌, ◌^◌, ◌≤◌, ◌<◌}
use native.Mathlib.Omega.{arith}
use mathlib.Core.Path.{◌≡◌, refl, sym, ap, ◌∙◌}
use mathlib.Core.Bool.{Bool}
use mathlib.Core.List.{List}
use Rattle.varint.specs.Outcome.{fail, ◌>>=◌, each, Judged}
use Rattle.varint.specs.declared.Refusal.{Refusal}
use Rattle.wire.specs.declared.Field.{Field}
use Rattle.varint.specs.Bytes.{Bytes}
use Rattle.wire.specs.Message.{message}
use Rattle.varint.proofs.Answers.{says}
use Rattle.varint.proofs.Passing.{passed_tells}
use Rattle.varint.proofs.Tells.{Any}
use Rattle.schema.specs.Numbers.{ValueInfo-name}
use Rattle.rules.specs.Names.{Name, name_of, name_in}
use Rattle.rules.specs.Walk.{Context, in_main, Walk, start, naming, define}
use Rattle.rules.specs.Types.{declared_type}
use Rattle.rules.specs.Graph.{input}
use Rattle.rules.specs.Verdict.{fills}
use Rattle.rules.specs.Count.{odds, value_names}
use Rattle.rules.proofs.Rules.{Adds}
use Rattle.rules.proofs.Counting.{grew_define, typed, grew_type, grew_input}
use Rattle.scope.proofs.StepLaws.{plain, Counts, grew_few, counting_says, countable_adds, odd_walk}
use Rattle.scope.specs.Scope.{walk_in, step_says, with_odd, counting, grows, Countable}
use Rattle.values.specs.Answers.{more, tally_says, naming_says, name_field, Addable}
use Rattle.scope.specs.declared.scopes.Progress.{Progress}
use Rattle.values.proofs.TallyLaws.{tally_few}
use Rattle.values.proofs.NameLaws.{named_name, named_passes, named_fails}

-- an input's rule asks of its graph only whether it is the main one
pub inputs_any : (model : Bytes) (full : ℕ → Bool) (main : Bool) (k : Context)
    → k.main ≡ main → (w : Walk) (l : List Field)
    → each (input model full (plain main)) w l ≡ each (input model full k) w l
unfolding input in_main
inputs_any model full main k e w l = ap (λ (b : Bool). each (input model full (plain b)) w l) (sym e)

-- ---- what it says

-- n is the answer of reading the name
module _ (model : Bytes) (full : ℕ → Bool) (k : Context) (cells : List ℕ) (p : Progress) (f : Field) (n : Answer (Field × ℕ))
    (named : (v : Walk) → naming_says v n ≡ name_field model 22 ValueInfo-name v (message model f)) where
  abbrev w : Walk
  w = walk_in model cells p

  abbrev Declared : Walk → Judged Walk
  Declared v = in_main k (declared_type model (message model f)) v

  input_by : {o : Judged Walk} → o ≡ naming 22 w (name_of model ValueInfo-name (message model f))
      → (o >>= λ t. define full t (name_of model ValueInfo-name (message model f)) >>= Declared) ≡ input model full k w f
  unfolding input
  input_by e = ap (λ (o : Judged Walk). o >>= λ t. define full t (name_of model ValueInfo-name (message model f)) >>= Declared) e

  pub input_unnamed : {x : Refusal} → n ≡ Err x → fail x ≡ input model full k w f
  unfolding ◌>>=◌
  input_unnamed e = input_by (named_fails _ _ _ _ _ named w e)

  module _ {g : Field} {j : ℕ} (e : n ≡ Ok (g, j)) where
    input_named : (define full (more w j) (name_in model g) >>= Declared) ≡ input model full k w f
    unfolding ◌>>=◌
    input_named =
        ap (λ (x : Name). define full (more w j) x >>= Declared) (named_name _ _ _ _ _ named e)
        ∙ input_by (named_passes _ _ _ _ _ named w e)

    -- s is the answer of defining it, after it was counted, with the cells `later`
    module _ {t : Progress} (counted : t ≡ with_odd p j) (later : List ℕ) (s : Answer Progress)
        (defined : step_says model later s ≡ define full (walk_in model cells t) (name_in model g)) where
      input_defined : {r : Answer Progress} → s ≡ r → (step_says model later r >>= Declared) ≡ input model full k w f
      input_defined q =
          ap (λ (o : Judged Walk). o >>= Declared)
          (says (step_says model later) defined q ∙ ap (λ (v : Walk). define full v (name_in model g)) (odd_walk p j counted model cells))
          ∙ input_named

      pub input_stops : {x : Refusal} → s ≡ Err x → step_says model later s ≡ input model full k w f
      unfolding step_says ◌>>=◌
      input_stops q = ap (step_says model later) q ∙ input_defined q

      pub input_goes : {v : Progress} → s ≡ Ok v → (c : Answer ℕ) → tally_says (walk_in model later v) c ≡ Declared (walk_in model later v)
          → step_says model later (counting v c) ≡ input model full k w f
      unfolding step_says ◌>>=◌
      input_goes {v} q c ruled = counting_says model later v c ∙ ruled ∙ input_defined q

-- ---- what it counts

pub input_counts : (model : Bytes) (main : Bool) → Counts (value_names model main) (λ size. input model (fills size) (plain main))
input_counts model main size w f =
    grew_few w 0 (value_names model main f) (input model (fills size) (plain main) w f) (grew_input model (fills size) (plain main) w f)

module _ (model : Bytes) (main : Bool) (p : Progress) (f : Field) (room : Countable p (value_names model main f)) where
  pub input_fits : {j : ℕ} → j ≤ 1 → p.odd + j < 2 ^ 64
  unfolding Countable value_names
  input_fits h = let r = room in omega arith

  -- s is the answer of defining the name, and t what is counted of the type
  pub input_adds : {j : ℕ} → j ≤ 1 → {q : Progress} → q ≡ with_odd p j → (cells later : List ℕ) (s : Answer Progress) (full : ℕ → Bool) (x : Name)
      → step_says model later s ≡ define full (walk_in model cells q) x
      → {v : Progress} → s ≡ Ok v → (t : Answer ℕ)
      → ((k : Context) (w : Walk) → k.main ≡ main → tally_says w t ≡ in_main k (declared_type model (message model f)) w)
      → Addable v.odd t
  unfolding Countable value_names step_says walk_in with_odd
  input_adds {j} h {q} counted cells later s full x defined {v} e t ruled =
      let odd = ap (λ (r : Progress). r.odd) counted in
      let still = (passed_tells _ Any _ _ (grew_define full (walk_in model cells q) x) (sym (says (step_says model later) defined e))).1 in
      let names = typed model (plain main) (message model f) in
      countable_adds v t names
      (λ l i. tally_few start (ruled (plain main) start refl) names (Adds start (odds names)) (λ u a. a.3) (grew_type model (plain main) (message model f) start) i)
      (let r = room in omega arith)

-- names are only added
pub input_grows : (p : Progress) (s : Answer Progress) {v : Progress} → grows p s → s ≡ Ok v → (t : Answer ℕ) → grows p (counting v t)
unfolding grows with_odd counting
input_grows p s {v} g e (Ok l) = let h : p.used ≤ v.used = rw e at g in omega arith
input_grows p s g e (Err r) = tt
