-- A rule that adds names for each field of one number, as a loop tests it.
use Rattle.std.specs.Prelude.{Err, None, Ok, Some}
use Rattle.varint.specs.Answers.{Answer}
use Prim.Native.Nat.{ℕ, ◌+◌, ◌≤◌, ◌<◌, ◌-◌}
use native.Mathlib.Omega.{arith}
use mathlib.Core.Path.{◌≡◌, refl, sym, ap, subst, ◌∙◌}
use mathlib.Core.Bool.{Bool}
use mathlib.Core.List.{List, [], flat_map, Memᴰ}
use mathlib.Core.Option.{some}
use lib.ListN.{length, length-append}
use Rattle.varint.specs.Outcome.{pass, fail, Judged}
use Rattle.varint.specs.Bytes.{Bytes}
use Rattle.wire.specs.Wire.{field}
use Rattle.wire.specs.Message.{all_of, message}
use Rattle.wire.specs.Answers.{sought_says, contents_of, sought_in, Sought}
use Rattle.varint.specs.declared.Refusal.{Refusal}
use Rattle.wire.specs.declared.Field.{Field}
use Rattle.wire.specs.declared.Cursor.{Cursor}
use Rattle.varint.proofs.Answers.{says}
use Rattle.varint.proofs.Passing.{passed_tells}
use Rattle.varint.proofs.Tells.{Tells, Any, tells_weaken}
use Rattle.wire.proofs.Along.{all_from, Along, along_done, along_fails, along_goes, along_falls, along_read, along_here, along_later, found_onward}
use Rattle.schema.specs.declared.Kind.{Kind}
use Rattle.schema.specs.Rows.{row_of}
use Rattle.schema.specs.FirstWalk.{kind_of}
use Rattle.schema.specs.Opened.{Walked}
use Rattle.schema.proofs.Opened.{walked_inner}
use Rattle.rules.specs.Walk.{Context, Walk}
use Rattle.rules.specs.Count.{odds}
use Rattle.rules.proofs.Counting.{Grew}
use Rattle.rules.proofs.NamesFew.{odds_few}
use Rattle.values.specs.Answers.{more, tally_says, Addable}
use Rattle.scope.specs.Scope.{walk_in, step_says, with_odd, counting, Countable, grows, counted, Direct, Keeps}
use Rattle.scope.specs.declared.scopes.Progress.{Progress}
use Rattle.scope.proofs.RecordLaws.{OfBytes, name_there}
use Rattle.scope.proofs.ScopeLaws.{keeps_all, keeps_fewer, keeps_then}

-- the rule, where there is a number of cells
abbrev pub Adder : Type 0
Adder = (size : ℕ) → Walk → Field → Judged Walk

-- no more is counted of a field than it has names
abbrev pub Counts : (names : Field → List Bytes) → Adder → Type 0
Counts names rule = (size : ℕ) (w : Walk) (f : Field) → Tells (λ v. v.odd ≤ w.odd + length (names f)) Any (rule size w f)

-- a loop that began with the cells `first` and at `p`, and has come to `cells`, `q` and the cursor `c`, where the whole of it answers `o`
pub record Adding (model : Bytes) (number end start : ℕ) (names : Field → List Bytes) (rule : Adder) (o : Judged Walk)
    (first : List ℕ) (p : Progress) (cells : List ℕ) (q : Progress) (c : Cursor) : Type 0 where
  pub along : Along model number end (rule (length first)) o (walk_in model cells q) c
  pub grown : p.used ≤ q.used
  pub kept : Keeps p.used first cells
  pub few : q.odd + length (flat_map names (all_from model number end c.at)) ≤ p.odd + length (flat_map names (all_from model number end start))
  pub within : (f : Field) → Memᴰ f (all_from model number end c.at) → Memᴰ f (all_from model number end start)

module _ {model : Bytes} {number end start : ℕ} {names : Field → List Bytes} {rule : Adder} {o : Judged Walk}
    {first : List ℕ} {p : Progress} {cells : List ℕ} {q : Progress} {c : Cursor}
    (g : Adding model number end start names rule o first p cells q c) {a : Sought} (read : sought_says a ≡ sought_in model number c.end c.at) where
  pub adding_done : a ≡ None → (step_says model cells (Ok q) ≡ o) × (grows p (Ok q) × Keeps p.used first cells)
  unfolding step_says grows
  adding_done e = (sym (along_done g.along read e), (g.grown, g.kept))

  module _ {f : Field} {next : Cursor} (e : a ≡ Some (f, next)) where
    pub adding_falls : end - next.at < end - c.at
    adding_falls = along_falls g.along read e

    -- the field is one of the message's
    pub adding_here : Memᴰ f (all_from model number end start)
    adding_here = g.within f (along_here g.along read e)

    pub adding_read : field model end f.place ≡ pass f
    adding_read = along_read g.along read e

    left : length (flat_map names (all_from model number end c.at)) ≡ length (names f) + length (flat_map names (all_from model number end next.at))
    unfolding flat_map
    left =
        ap (λ (l : List Field). length (flat_map names l)) (found_onward model number end g.along.ends read e).list
        ∙ length-append (names f) (flat_map names (all_from model number end next.at))

    -- there is room to count it
    pub adding_countable : Countable p (flat_map names (all_from model number end start)) → Countable q (names f)
    unfolding Countable
    adding_countable h = let l = left in let few = g.few in omega arith

    -- where the loop is over the message that a field holds, which the first walk passed
    module _ {kind : Kind} {m : Field} (w : Walked model kind m) (at : record { at = start; end = end } ≡ contents_of m) where
      pub adding_among : Memᴰ f (all_of number (message model m))
      unfolding all_from all_of message contents_of
      adding_among = subst (λ (d : Cursor). Memᴰ f (all_from model number d.end d.at)) at adding_here

      pub adding_walked : {k : Kind} → kind_of (row_of kind number) ≡ some k → Walked model k f
      adding_walked row = walked_inner w number adding_among row

      pub adding_direct : OfBytes kind number → Direct model f
      unfolding contents_of
      adding_direct row = name_there w row adding_among (subst (λ (d : Cursor). field model d.end f.place ≡ pass f) at adding_read)

    -- r is the answer for the field, with the cells `later`
    module _ {later : List ℕ} (r : Answer Progress) (answer : step_says model later r ≡ rule (length cells) (walk_in model cells q) f) (more : grows q r)
        (kept : Keeps q.used cells later) where
      sized : step_says model later r ≡ rule (length first) (walk_in model cells q) f
      sized = answer ∙ ap (λ (n : ℕ). rule n (walk_in model cells q) f) g.kept.size

      still : Keeps p.used first later
      still = keeps_then g.kept (keeps_fewer g.grown kept)

      pub adding_stops : {x : Refusal} → r ≡ Err x → (step_says model later r ≡ o) × (grows p r × Keeps p.used first later)
      unfolding step_says grows
      adding_stops {x} k = (ap (step_says model later) k ∙ sym (along_fails g.along read e (sym (says (step_says model later) sized k))), (rw k tt, still))

      pub adding_goes : Counts names rule → {u : Progress} → r ≡ Ok u → Adding model number end start names rule o first p later u next
      unfolding step_says grows walk_in
      adding_goes count {u} k = record {
        along = along_goes g.along read e (sym (says (step_says model later) sized k));
        grown = (let h : q.used ≤ u.used = rw k at more in let l = g.grown in omega arith);
        kept = still;
        few = (
            let n = passed_tells _ Any _ _ (count (length first) (walk_in model cells q) f) (sym (says (step_says model later) sized k)) in
            let l = left in
            let m = g.few in
            omega arith
            );
        within = λ h m. g.within h (along_later g.along read e m);
      }

-- room for the names of a message is room for those of the loop over it
pub from_contents : (model : Bytes) (number : ℕ) (names : Field → List Bytes) (p : Progress) (m : Field) {c : Cursor} → c ≡ contents_of m
    → Countable p (flat_map names (all_of number (message model m)))
    → Countable p (flat_map names (all_from model number c.end c.at))
unfolding all_from all_of message contents_of
from_contents model number names p m e h = rw e h

pub adding_start : (model : Bytes) (number : ℕ) (names : Field → List Bytes) (rule : Adder) {o : Judged Walk} (first : List ℕ) (p : Progress) (c : Cursor)
    → Along model number c.end (rule (length first)) o (walk_in model first p) c → Adding model number c.end c.at names rule o first p first p c
adding_start model number names rule first p c a = record { along = a; grown = omega arith; kept = keeps_all _ _; few = omega arith; within = λ f m. m }

-- a graph of which nothing is known but whether it is the main one
abbrev pub plain : Bool → Context
plain main = record { imports = []; main = main; ir_version = 0; attributes = [] }

-- ---- a refusal

-- It says so whatever the cells, and no name is added.
pub refused_says : {r : Answer Progress} {x : Refusal} → r ≡ Err x → (model : Bytes) (cells : List ℕ) → step_says model cells r ≡ fail x
unfolding step_says
refused_says e model cells = ap (step_says model cells) e

pub refused_grows : {r : Answer Progress} {x : Refusal} → r ≡ Err x → (p : Progress) → grows p r
unfolding grows
refused_grows e p = rw e tt

pub refused_counts : {r : Answer Progress} {x : Refusal} → r ≡ Err x → (f : Field) (p : Progress) → counted f p r
unfolding counted
refused_counts e f p = rw e tt

-- ---- the step of a tally

-- it says what the tally says of the walk
pub counting_says : (model : Bytes) (cells : List ℕ) (p : Progress) (t : Answer ℕ) → step_says model cells (counting p t) ≡ tally_says (walk_in model cells p) t
unfolding counting step_says tally_says walk_in with_odd more
counting_says model cells p (Ok k) = refl
counting_says model cells p (Err r) = refl

pub counting_grows : (p : Progress) (t : Answer ℕ) → grows p (counting p t)
unfolding counting grows with_odd
counting_grows p (Ok k) = omega arith
counting_grows p (Err r) = tt

-- there is room for it where there is room for the names that it counts
pub countable_adds : (p : Progress) (t : Answer ℕ) (names : List Bytes) → ((l : ℕ) → t ≡ Ok l → l ≤ length names) → Countable p names → Addable p.odd t
unfolding Countable Addable
countable_adds p (Ok l) names g h = let n = g l refl in omega arith
countable_adds p (Err r) names g h = tt

-- it adds no more than that, and leaves the rest as it was
unfoldable pub Few : Progress → ℕ → Answer Progress → Type 0
Few p n (Ok q) = (q.used ≡ p.used) × (q.nodes ≡ p.nodes) × (q.odd ≤ p.odd + n)
Few p n (Err r) = Unit {0}

few_counting : (p : Progress) (t : Answer ℕ) (n : ℕ) → ((l : ℕ) → t ≡ Ok l → l ≤ n) → Few p n (counting p t)
unfolding Few counting with_odd
few_counting p (Ok k) n few = let h = few k refl in (refl, refl, omega arith)
few_counting p (Err r) n few = tt

pub counting_few : (p : Progress) (t : Answer ℕ) (n : ℕ) → ((l : ℕ) → t ≡ Ok l → l ≤ n) → {s : Answer Progress} → s ≡ counting p t
    → {q : Progress} → s ≡ Ok q → (q.used ≡ p.used) × (q.nodes ≡ p.nodes) × (q.odd ≤ p.odd + n)
unfolding Few
counting_few p t n few e i = subst (Few p n) (sym e ∙ i) (few_counting p t n few)

-- no more is counted than there are names
pub grew_few : (w : Walk) (nodes : ℕ) (names : List Bytes) (o : Judged Walk) → Tells (Grew w nodes (odds names)) Any o
    → Tells (λ v. v.odd ≤ w.odd + length names) Any o
grew_few w nodes names o = tells_weaken (Grew w nodes (odds names)) _ Any Any o (λ v g. let n = odds_few names in omega arith) (λ r _. tt)

-- ---- a walk with so many odd names more

module _ (p : Progress) {q : Progress} (j : ℕ) (e : q ≡ with_odd p j) where
  pub odd_used : q.used ≡ p.used
  unfolding with_odd
  odd_used = ap (λ (r : Progress). r.used) e

  pub odd_walk : (model : Bytes) (cells : List ℕ) → walk_in model cells q ≡ more (walk_in model cells p) j
  unfolding with_odd walk_in more
  odd_walk model cells = ap (walk_in model cells) e

  pub odd_grows : (s : Answer Progress) → grows q s → grows p s
  unfolding grows
  odd_grows (Ok v) g = let u = odd_used in omega arith
  odd_grows (Err r) g = tt

  pub odd_keeps : {before after : List ℕ} → Keeps q.used before after → Keeps p.used before after
  odd_keeps k = rw odd_used at k
