-- What graph, node and attribute promise of their answers, and the ways out that they share.
use Rattle.std.specs.Prelude.{Err, None, Ok, Some}
use Rattle.varint.specs.Answers.{Answer}
use Prim.Native.Nat.{ℕ, ◌+◌, ◌≤◌}
use native.Mathlib.Omega.{arith}
use mathlib.Core.Path.{◌≡◌, refl, sym, ap, ◌∙◌}
use mathlib.Core.List.{List}
use lib.ListN.{length}
use Rattle.varint.specs.Outcome.{pass, ◌>>=◌, Judged}
use Rattle.varint.specs.declared.Refusal.{Refusal}
use Rattle.wire.specs.declared.Field.{Field}
use Rattle.varint.specs.Bytes.{Bytes}
use Rattle.wire.specs.Answers.{sought_says, sought_in, Sought}
use Rattle.wire.specs.declared.Cursor.{Cursor}
use Rattle.varint.proofs.Answers.{says}
use Rattle.rules.specs.Walk.{Walk}
use Rattle.schema.specs.declared.Kind.{Kind}
use Rattle.scope.specs.Scope.{walk_in, step_says, with_odd, counting, grows, Enters, counted, Keeps}
use Rattle.values.specs.Answers.{tally_says}
use Rattle.scope.specs.declared.scopes.Progress.{Progress}
use Rattle.scope.proofs.ScopeLaws.{keeps_all}
use Rattle.scope.proofs.StepLaws.{Adder, counting_says}
use Rattle.cycle.proofs.CycleLaws.{Going, going_few, going_done, going_stops}

-- What each of the three promises of its answer r to the field f, where the cells were `cells` and are `later`.
pub record Promised (model : Bytes) (o : Judged Walk) (cells later : List ℕ) (p : Progress) (f : Field) (r : Answer Progress) : Type 0 where
  pub answer : step_says model later r ≡ o
  pub grown : grows p r
  pub counts : counted f p r
  pub kept : Keeps p.used cells later

-- with one thing more
pub promised_and : {model : Bytes} {o : Judged Walk} {cells later : List ℕ} {p : Progress} {f : Field} {r : Answer Progress} {A : Type 0}
    → Promised model o cells later p f r → A
    → (step_says model later r ≡ o) × (grows p r × (counted f p r × (Keeps p.used cells later × A)))
promised_and a x = (a.answer, (a.grown, (a.counts, (a.kept, x))))

-- a refusal promises nothing of the counts
pub refusing : (model : Bytes) {o : Judged Walk} {cells later : List ℕ} (p : Progress) {f : Field} {r : Answer Progress} {x : Refusal}
    → r ≡ Err x → step_says model later r ≡ o → Keeps p.used cells later
    → Promised model o cells later p f r
unfolding grows counted
refusing model p k e kept = record { answer = e; grown = rw k tt; counts = rw k tt; kept = kept }

-- and what comes after it does not matter
pub refused_bind : (model : Bytes) (last : List ℕ) {s : Answer Progress} {o : Judged Walk} (after : Walk → Judged Walk) {x : Refusal}
    → step_says model last s ≡ o → s ≡ Err x
    → step_says model last s ≡ (o >>= after)
unfolding step_says ◌>>=◌
refused_bind model last after e k = ap (step_says model last) k ∙ ap (λ (o : Judged Walk). o >>= after) (says (step_says model last) e k)

-- ---- a rule that tests names and adds none, after the rest

pub counting_more : (p q : Progress) (t : Answer ℕ) → grows p (Ok q) → grows p (counting q t)
unfolding counting with_odd grows
counting_more p q (Ok k) h = h
counting_more p q (Err x) h = tt

pub counting_counts : (f : Field) (p q : Progress) (t : Answer ℕ) → q.nodes + f.place ≤ p.nodes + f.next → counted f p (counting q t)
unfolding counting with_odd counted
counting_counts f p q (Ok k) h = h
counting_counts f p q (Err x) h = tt

pub used_more : (p q : Progress) → grows p (Ok q) → p.used ≤ q.used
unfolding grows
used_more p q h = h

-- ---- a rule that tests names and adds none, before the rest: s is the step of its tally

module _ (model : Bytes) (cells : List ℕ) (p : Progress) {o : Judged Walk} (rest : Walk → Judged Walk) (t : Answer ℕ)
    (ruled : tally_says (walk_in model cells p) t ≡ o) {s : Answer Progress} (stepped : s ≡ counting p t) where
  pub headed : {u : Answer Progress} → s ≡ u → step_says model cells u ≡ o
  headed e = ap (step_says model cells) (sym e ∙ stepped) ∙ counting_says model cells p t ∙ ruled

  pub headed_stops : {f : Field} {x : Refusal} → s ≡ Err x → Promised model (o >>= rest) cells cells p f s
  headed_stops k = refusing model p k (refused_bind model cells rest (headed refl) k) (keeps_all _ _)

  pub headed_goes : {first : Progress} → s ≡ Ok first → rest (walk_in model cells first) ≡ (o >>= rest)
  unfolding step_says ◌>>=◌
  headed_goes k = ap (λ (u : Judged Walk). u >>= rest) (headed k)

-- what is promised from there on is promised from the start
module _ {p first : Progress} (used : first.used ≡ p.used) (nodes : first.nodes ≡ p.nodes) where
  pub enters_first : {model : Bytes} {kind : Kind} {f : Field} → Enters model kind p f → Enters model kind first f
  enters_first n = record { short = n.short; walked = n.walked; tagged = n.tagged; ends = n.ends; few = rw nodes n.few }

  pub promised_first : {model : Bytes} {o : Judged Walk} {cells later : List ℕ} {f : Field} {r : Answer Progress}
      → Promised model o cells later first f r → Promised model o cells later p f r
  unfolding grows counted
  promised_first {f = f} {r = r} a = record { answer = a.answer; grown = from r a.grown; counts = count f r a.counts; kept = rw used at a.kept }
    where
      from : (s : Answer Progress) → grows first s → grows p s
      from (Ok u) h = omega arith
      from (Err x) h = tt

      count : (f : Field) (s : Answer Progress) → counted f first s → counted f p s
      count f (Ok u) h = omega arith
      count f (Err x) h = tt

-- the walk stays where it is
pub staying : (model : Bytes) {o : Judged Walk} {cells : List ℕ} (p : Progress) {f : Field}
    → {kind : Kind} → Enters model kind p f → pass (walk_in model cells p) ≡ o
    → Promised model o cells cells p f (Ok p)
unfolding step_says grows counted
staying model p n e = record { answer = e; grown = omega arith; counts = (let a = n.tagged in let b = n.ends in omega arith); kept = keeps_all _ _ }

-- ---- the ways out of a loop over the fields of f, where the whole of it answers o

module _ {model : Bytes} {number : ℕ} {names : Field → List Bytes} {rule : Adder} {o : Judged Walk}
    {first : List ℕ} {p : Progress} {cells : List ℕ} {q : Progress} {c : Cursor} {f : Field}
    (g : Going model number f.next f.start names rule o first p cells q c) {a : Sought} (read : sought_says a ≡ sought_in model number c.end c.at) where
  pub loop_done : {kind : Kind} → Enters model kind p f → a ≡ None → {t : Judged Walk} → o ≡ t → Promised model t first cells p f (Ok q)
  unfolding counted
  loop_done n e k =
      let d = going_done g read e in
      let few = going_few g in
      let tagged = n.tagged in
      record { answer = d.0 ∙ k; grown = d.1.0; counts = omega arith; kept = d.1.1 }

  module _ {h : Field} {next : Cursor} (e : a ≡ Some (h, next)) {later : List ℕ} (r : Answer Progress)
      (answer : step_says model later r ≡ rule (length cells) (walk_in model cells q) h) (more : grows q r) (kept : Keeps q.used cells later) where
    pub loop_stops : {x : Refusal} → r ≡ Err x → {t : Judged Walk} → o ≡ t → Promised model t first later p f r
    loop_stops k l = let s = going_stops g read e r answer more kept k in refusing model p k (s.0 ∙ l) s.1
