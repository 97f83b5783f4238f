-- What a tally says, and a rule that tests names for each field of one number as a loop tests and counts them.
use Rattle.std.specs.Prelude.{Err, None, Ok, Some}
use Rattle.varint.specs.Answers.{Answer}
use Prim.Native.Nat.{ℕ, ◌+◌, ◌-◌, ◌≤◌, ◌<◌, ◌^◌}
use native.Mathlib.Omega.{arith}
use mathlib.Core.Path.{◌≡◌, refl, sym, ap, ◌∙◌}
use mathlib.Core.List.{List, ◌∷◌, flat_map}
use lib.ListN.{length, length-append}
use Rattle.varint.specs.Outcome.{pass, fail, each, Judged}
use Rattle.varint.specs.Bytes.{Bytes}
use Rattle.varint.specs.declared.Refusal.{Refusal}
use Rattle.wire.specs.Answers.{sought_says, sought_in, Sought}
use Rattle.wire.specs.declared.Field.{Field}
use Rattle.wire.specs.declared.Cursor.{Cursor}
use Rattle.varint.proofs.Answers.{says}
use Rattle.varint.proofs.Passing.{passed_tells}
use Rattle.varint.proofs.Tells.{Tells, Any}
use Rattle.wire.proofs.Along.{all_from, Along, along_start, along_done, along_fails, along_goes, found_onward}
use Rattle.rules.specs.Walk.{Walk}
use Rattle.rules.specs.Count.{odds}
use Rattle.rules.proofs.NamesFew.{odds_few}
use Rattle.values.specs.Answers.{more, tally_says, adding, Addable}

pub more_none : (w : Walk) → more w 0 ≡ w
unfolding more
more_none w = let e : w.odd + 0 ≡ w.odd = omega arith in ap (λ (o : ℕ). record { scope = w.scope; nodes = w.nodes; most = w.most; odd = o }) e

pub more_more : (w : Walk) (a b : ℕ) → more (more w a) b ≡ more w (a + b)
unfolding more
more_more w a b =
    let e : w.odd + a + b ≡ w.odd + (a + b) = omega arith in
    ap (λ (o : ℕ). record { scope = w.scope; nodes = w.nodes; most = w.most; odd = o }) e

module _ {t : Answer ℕ} (w : Walk) {o : Judged Walk} (e : tally_says w t ≡ o) where
  pub tallied : {k : ℕ} → t ≡ Ok k → o ≡ pass (more w k)
  unfolding tally_says
  tallied k = sym (says (tally_says w) e k)

  pub untallied : {x : Refusal} → t ≡ Err x → o ≡ fail x
  unfolding tally_says
  untallied k = sym (says (tally_says w) e k)

  -- no more is counted than the rule counts
  pub tally_most : (n : ℕ) → Tells (λ v. v.odd ≤ w.odd + n) Any o → {k : ℕ} → t ≡ Ok k → k ≤ n
  unfolding more
  tally_most n tells {k} i = let told = passed_tells _ Any o (more w k) tells (tallied i) in omega arith

  -- and no more than there are names, of a rule that counts the odd ones among these
  pub tally_few : (names : List Bytes) (R : Walk → Type 0) → ((v : Walk) → R v → v.odd ≡ w.odd + odds names) → Tells R Any o
      → {k : ℕ} → t ≡ Ok k → k ≤ length names
  unfolding more
  tally_few names R adds tells {k} i =
      let told = adds (more w k) (passed_tells R Any o (more w k) tells (tallied i)) in
      let few = odds_few names in
      omega arith

-- a loop that has counted `odd` and come to the cursor `c`, for every walk of which `Q` holds
pub record Tallying (s : Bytes) (number end start : ℕ) (Q : Walk → Type 0) (names : Field → List Bytes) (step : Walk → Field → Judged Walk)
    (odd : ℕ) (c : Cursor) : Type 0 where
  pub along : (w : Walk) → Q w → Along s number end step (each step w (all_from s number end start)) (more w odd) c
  pub ends : c.end ≡ end
  pub few : odd + length (flat_map names (all_from s number end c.at)) ≤ length (flat_map names (all_from s number end start))

pub tallying_start : (s : Bytes) (number : ℕ) (Q : Walk → Type 0) (names : Field → List Bytes) (step : Walk → Field → Judged Walk) (c : Cursor)
    → Tallying s number c.end c.at Q names step 0 c
tallying_start s number Q names step c = record {
  along = λ w q. rw (more_none w) (along_start s number step w c);
  ends = refl;
  few = omega arith;
}

module _ {s : Bytes} {number end start : ℕ} {Q : Walk → Type 0} {names : Field → List Bytes} {step : Walk → Field → Judged Walk} {odd : ℕ} {c : Cursor}
    (q : Tallying s number end start Q names step odd c) {a : Sought} (read : sought_says a ≡ sought_in s number c.end c.at) where
  pub tallying_done : a ≡ None → (w : Walk) → Q w → tally_says w (Ok odd) ≡ each step w (all_from s number end start)
  unfolding tally_says
  tallying_done e w h = sym (along_done (q.along w h) read e)

  module _ {f : Field} {next : Cursor} (e : a ≡ Some (f, next)) where
    left : flat_map names (all_from s number end c.at) ≡ flat_map names (f ∷ all_from s number end next.at)
    left = ap (flat_map names) (found_onward s number end q.ends read e).list

    pub tallying_falls : end - next.at < end - c.at
    tallying_falls = let w = found_onward s number end q.ends read e in let far = w.onward in let near = w.inside in omega arith

    -- what is counted of the field is no more than it has names
    module _ {k : ℕ} (h : k ≤ length (names f)) where
      few_left : odd + k + length (flat_map names (all_from s number end next.at)) ≤ length (flat_map names (all_from s number end start))
      unfolding flat_map
      few_left =
          let l = length-append (names f) (flat_map names (all_from s number end next.at)) in
          let m = ap length left in
          let n = q.few in
          omega arith

      pub tallying_fits : odd + k ≤ length (flat_map names (all_from s number end start))
      tallying_fits = let l = few_left in omega arith

    module _ {t : Answer ℕ} (still : (w : Walk) → Q w → Q (more w odd)) (answer : (w : Walk) → Q w → tally_says w t ≡ step w f) where
      pub tallying_stops : {x : Refusal} → t ≡ Err x → (w : Walk) → Q w → tally_says w t ≡ each step w (all_from s number end start)
      unfolding tally_says
      tallying_stops k w h =
          let m = more w odd in
          ap (tally_says w) k ∙ sym (along_fails (q.along w h) read e (untallied m (answer m (still w h)) k))

      pub tallying_goes : {k : ℕ} → t ≡ Ok k → k ≤ length (names f) → Tallying s number end start Q names step (odd + k) next
      tallying_goes {k} i h = record {
        along = λ w g. let m = more w odd in rw (more_more w odd k) at (along_goes (q.along w g) read e (tallied m (answer m (still w g)) i));
        ends = (found_onward s number end q.ends read e).ends;
        few = few_left h;
      }

-- ---- a tally and so many more

pub adding_says : (w : Walk) (k : ℕ) (t : Answer ℕ) → tally_says w (adding k t) ≡ tally_says (more w k) t
unfolding adding tally_says
adding_says w k (Ok l) = ap pass (sym (more_more w k l))
adding_says w k (Err r) = refl

pub addable : (k : ℕ) (t : Answer ℕ) (a b : ℕ) → k ≤ a → ((l : ℕ) → t ≡ Ok l → l ≤ b) → a + b < 2 ^ 64 → Addable k t
unfolding Addable
addable k (Ok l) a b h g m = let n = g l refl in omega arith
addable k (Err r) a b h g m = tt
