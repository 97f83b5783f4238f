-- A loop of the cycle over nodes, attributes or bodies: what `Adding` says, and no more nodes counted than bytes passed.
use Rattle.std.specs.Prelude.{Err, None, Ok, Some}
use Rattle.varint.specs.Answers.{Answer}
use Prim.Native.Nat.{ℕ, ◌+◌, ◌-◌, ◌^◌, ◌≤◌, ◌<◌}
use native.Mathlib.Omega.{arith}
use mathlib.Core.Path.{◌≡◌, refl}
use mathlib.Core.List.{List, flat_map}
use mathlib.Core.Option.{some}
use lib.ListN.{length}
use Rattle.varint.specs.Outcome.{Judged, each}
use Rattle.varint.specs.Bytes.{Bytes}
use Rattle.wire.specs.Wire.{field}
use Rattle.wire.specs.Answers.{sought_says, contents_of, sought_in, Sought}
use Rattle.varint.specs.declared.Refusal.{Refusal}
use Rattle.wire.specs.declared.Field.{Field}
use Rattle.wire.specs.declared.Cursor.{Cursor}
use Rattle.varint.proofs.Passing.{passed_tells}
use Rattle.wire.proofs.Reading.{Fits, AtTag, field_tells}
use Rattle.wire.proofs.Along.{all_from, along_start, along_from, along_past, along_read}
use Rattle.schema.specs.declared.Kind.{Kind}
use Rattle.schema.specs.Rows.{row_of}
use Rattle.schema.specs.FirstWalk.{kind_of}
use Rattle.schema.specs.Opened.{Walked}
use Rattle.rules.specs.Walk.{Walk}
use Rattle.scope.specs.Scope.{walk_in, step_says, Countable, grows, Enters, counted, Keeps}
use Rattle.scope.specs.declared.scopes.Progress.{Progress}
use Rattle.scope.proofs.StepLaws.{Adder, Counts, Adding, adding_start, adding_done, adding_falls, adding_walked, adding_countable, adding_stops, adding_goes}

pub record Going (model : Bytes) (number end start : ℕ) (names : Field → List Bytes) (rule : Adder) (o : Judged Walk)
    (first : List ℕ) (p : Progress) (cells : List ℕ) (q : Progress) (c : Cursor) : Type 0 where
  pub adding : Adding model number end start names rule o first p cells q c
  pub from : start ≤ c.at
  pub inside : c.at ≤ end
  pub few : q.nodes + start ≤ p.nodes + c.at

pub enters_low : {model : Bytes} {kind : Kind} {p : Progress} {f : Field} → Enters model kind p f → p.nodes + f.next ≤ f.start + 2 ^ 33
enters_low n = let a = n.few in let b = n.tagged in omega arith

-- the message that a field holds, from its start to its end
pub own_contents : (m : Field) → record { at = m.start; end = m.next } ≡ contents_of m
unfolding contents_of
own_contents m = refl

pub going_start : (model : Bytes) (number : ℕ) (names : Field → List Bytes) (rule : Adder) (first : List ℕ) (p : Progress) (c : Cursor) → c.at ≤ c.end
    → Going model number c.end c.at names rule (each (rule (length first)) (walk_in model first p) (all_from model number c.end c.at)) first p first p c
going_start model number names rule first p c h = record {
  adding = adding_start model number names rule first p c (along_start model number (rule (length first)) (walk_in model first p) c);
  from = omega arith;
  inside = h;
  few = omega arith;
}

module _ {model : Bytes} {number end start : ℕ} {names : Field → List Bytes} {rule : Adder} {o : Judged Walk}
    {first : List ℕ} {p : Progress} {cells : List ℕ} {q : Progress} {c : Cursor}
    (g : Going model number end start names rule o first p cells q c) where
  pub going_few : q.nodes + start ≤ p.nodes + end
  going_few = let h = g.few in let k = g.inside in omega arith

  -- no more odd names are counted than there are names
  pub going_odd : q.odd ≤ p.odd + length (flat_map names (all_from model number end start))
  going_odd = let h = g.adding.few in omega arith

  module _ {a : Sought} (read : sought_says a ≡ sought_in model number c.end c.at) where
    pub going_done : a ≡ None → (step_says model cells (Ok q) ≡ o) × (grows p (Ok q) × Keeps p.used first cells)
    going_done e = adding_done g.adding read e

    module _ {f : Field} {next : Cursor} (e : a ≡ Some (f, next)) where
      pub going_falls : end - next.at < end - c.at
      going_falls = adding_falls g.adding read e

      pub going_countable : Countable p (flat_map names (all_from model number end start)) → Countable q (names f)
      going_countable h = adding_countable g.adding read e h

      fits : Fits f.place end f
      fits = passed_tells (Fits f.place end) (AtTag f.place) (field model end f.place) f (field_tells model end f.place) (along_read g.adding.along read e)

      -- the walk may go into the field
      pub going_enters : length model < 2 ^ 32 → {kind k : Kind} {m : Field} → Walked model kind m → record { at = start; end = end } ≡ contents_of m
          → kind_of (row_of kind number) ≡ some k → p.nodes + end ≤ start + 2 ^ 33
          → Enters model k q f
      going_enters h w at row l =
          let low = along_from g.adding.along read e in
          let few = g.few in
          let last = fits.3 in
          record { short = h; walked = adding_walked g.adding read e w at row; tagged = fits.1; ends = fits.2; few = omega arith }

      -- which is shorter than what it lies in
      pub going_shorter : {t : ℕ} → end - start ≡ t → f.next - f.start < t
      going_shorter h =
          let low = along_from g.adding.along read e in
          let from = g.from in
          let a = fits.1 in let b = fits.2 in let d = fits.3 in omega arith

      -- r is the answer for the field, with the cells `later`
      module _ {later : List ℕ} (r : Answer Progress) (answer : step_says model later r ≡ rule (length cells) (walk_in model cells q) f) (more : grows q r)
          (kept : Keeps q.used cells later) where
        pub going_stops : {x : Refusal} → r ≡ Err x → (step_says model later r ≡ o) × Keeps p.used first later
        going_stops k = let s = adding_stops g.adding read e r answer more kept k in (s.0, s.1.1)

        pub going_goes : Counts names rule → counted f q r → {u : Progress} → r ≡ Ok u → Going model number end start names rule o first p later u next
        unfolding counted
        going_goes most n {u} k =
            let low = along_from g.adding.along read e in
            let past = along_past g.adding.along read e in
            let from = g.from in
            let few = g.few in
            let m : u.nodes + f.place ≤ q.nodes + f.next = rw k at n in
            let a = fits.1 in let b = fits.2 in let d = fits.3 in
            record {
              adding = adding_goes g.adding read e r answer more kept most k;
              from = omega arith;
              inside = omega arith;
              few = omega arith;
            }
