-- The entries of a list gone through one by one: looking for a domain, and judging each.
use Rattle.std.specs.Prelude.{None, Some}
use Rattle.std.specs.declared.option.Option as code
use Rattle.std.specs.Option.{is_some}
use Prim.Native.Nat.{ℕ, zero, suc, ◌≤◌, ◌<◌}
use native.Mathlib.Omega.{arith}
use mathlib.Core.Path.{◌≡◌, refl, sym, ap, ◌∙◌}
use mathlib.Core.Bool.{Bool, true, false, not, ◌&&◌}
use mathlib.Core.List.{List, [], ◌∷◌}
use mathlib.Core.Option.{Option, none, some}
use lib.ListN.{length}
use lib.Dec.{leb}
use borrow.Author.Tests.{leb-false, le-leb, lt-leb}
use Rattle.varint.specs.Lists.{present, within}
use Rattle.varint.specs.Bytes.{Bytes, same}
use Rattle.varint.specs.Answers.{option_of}
use Rattle.operators.specs.Operators.{headed, after, domain_of, lowest, highest, well_formed, entries_from, entries_at, entry_of, sound_entries, sound, allows}
use Rattle.operators.proofs.Entries.{entries_done, entries_step}

-- ---- looking for a domain: what is found from `pos` on is what is found from `from` on

pub record Seeking (list d : Bytes) (from pos : ℕ) : Type 0 where
  pub rest : entry_of list d (entries_at list pos) ≡ entry_of list d (entries_at list from)

pub seek_start : (list d : Bytes) (from : ℕ) → Seeking list d from from
seek_start list d from = record { rest = refl }

module _ {list d : Bytes} {from pos : ℕ} (q : Seeking list d from pos) where
  pub seek_end : length list ≤ pos → none ≡ entry_of list d (entries_at list from)
  unfolding entry_of
  seek_end h = ap (entry_of list d) (sym (entries_done list pos h)) ∙ q.rest

  -- x is the domain of the entry, t the answer of the comparison
  module _ (h : pos < length list) (x : Bytes) (ex : x ≡ domain_of list pos) (t : Bool) (et : t ≡ same d x) where
    seek_by : elim t [ true ↦ some pos | false ↦ entry_of list d (entries_at list (after list pos)) ] ≡ entry_of list d (entries_at list from)
    unfolding entry_of
    seek_by =
        ap (λ (b : Bool). elim b [ true ↦ some pos | false ↦ entry_of list d (entries_at list (after list pos)) ]) (et ∙ ap (same d) ex)
        ∙ ap (entry_of list d) (sym (entries_step list pos h))
        ∙ q.rest

    pub seek_here : t ≡ true → some pos ≡ entry_of list d (entries_at list from)
    seek_here e = rw e at seek_by

    pub seek_next : t ≡ false → (n : ℕ) → n ≡ after list pos → Seeking list d from n
    seek_next e n en = record { rest = rw en (rw e at seek_by) }

-- what is found stands in the list
module _ (list d : Bytes) where
  inside_cons : (pos e : ℕ) (more : List ℕ) (t : Bool) → pos < length list → (some e ≡ entry_of list d more → e < length list)
      → some e ≡ elim t [ true ↦ some pos | false ↦ entry_of list d more ]
      → e < length list
  inside_cons pos e more true h k q = let z : e ≡ pos = cc in omega arith
  inside_cons pos e more false h k q = k q

  inside_test : (pos e : ℕ) (more : List ℕ) (t : Bool) → leb (length list) pos ≡ t → (some e ≡ entry_of list d more → e < length list)
      → some e ≡ entry_of list d (elim t [ true ↦ [] | false ↦ pos ∷ more ])
      → e < length list
  unfolding entry_of
  inside_test pos e more true h k q = let z : ◌≡◌ {A = ℕ} 0 1 = cc in absurd (omega arith)
  inside_test pos e more false h k q = inside_cons pos e more (same d (domain_of list pos)) (leb-false _ _ h) k q

  inside_from : (bound pos e : ℕ) → some e ≡ entry_of list d (entries_from list bound pos) → e < length list
  unfolding entry_of entries_from
  inside_from zero pos e q = let z : ◌≡◌ {A = ℕ} 0 1 = cc in absurd (omega arith)
  inside_from (suc bound) pos e q = inside_test pos e _ (leb (length list) pos) refl (inside_from bound (after list pos) e) q

  pub entry_inside : (pos : ℕ) {r : code.Option ℕ} {e : ℕ} → option_of r ≡ entry_of list d (entries_at list pos) → r ≡ Some e → e < length list
  unfolding entries_at option_of
  entry_inside pos {r} {e} q k = inside_from _ pos e (rw k at q)

present_some : (r : code.Option ℕ) → present (option_of r) ≡ is_some r
unfolding present option_of
present_some (Some e) = refl
present_some None = refl

-- ---- judging each entry: the answer for those from `pos` on is that for the whole list

pub record Judging (list : Bytes) (pos : ℕ) : Type 0 where
  pub rest : sound_entries list (entries_at list pos) ≡ sound list

-- t is the answer of the test of the head
module _ (list : Bytes) (t : Bool) (et : t ≡ headed list) where
  pub unheaded : t ≡ false → false ≡ sound list
  unfolding sound
  unheaded h = rw (sym et ∙ h) refl

  pub judge_start : t ≡ true → Judging list 5
  unfolding sound
  judge_start h = record { rest = rw (sym et ∙ h) refl }

module _ {list : Bytes} {pos : ℕ} (q : Judging list pos) where
  pub judge_end : length list ≤ pos → true ≡ sound list
  unfolding sound_entries
  judge_end h = ap (sound_entries list) (sym (entries_done list pos h)) ∙ q.rest

  -- t is the answer of the test of the entry
  module _ (h : pos < length list) (t : Bool) (et : t ≡ well_formed list pos) where
    judge_by : (t && not (present (entry_of list (domain_of list pos) (entries_at list (after list pos)))) && sound_entries list (entries_at list (after list pos))) ≡ sound list
    unfolding sound_entries
    judge_by =
        ap (λ (b : Bool). b && not (present (entry_of list (domain_of list pos) (entries_at list (after list pos)))) && sound_entries list (entries_at list (after list pos))) et
        ∙ ap (sound_entries list) (sym (entries_step list pos h))
        ∙ q.rest

    pub judge_broken : t ≡ false → false ≡ sound list
    judge_broken e = rw e at judge_by

    -- n is the place after it, x its domain
    module _ (e : t ≡ true) (n : ℕ) (en : n ≡ after list pos) (x : Bytes) (ex : x ≡ domain_of list pos) where
      judge_then : (not (present (entry_of list x (entries_at list n))) && sound_entries list (entries_at list n)) ≡ sound list
      judge_then = rw (en, ex) (rw e at judge_by)

      -- r is what was found in those after it, f whether something was
      module _ (r : code.Option ℕ) (o : option_of r ≡ entry_of list x (entries_at list n)) (f : Bool) (ef : f ≡ is_some r) where
        judge_found : (not f && sound_entries list (entries_at list n)) ≡ sound list
        judge_found = rw (← o, present_some, ← ef) at judge_then

        pub judge_twice : f ≡ true → false ≡ sound list
        judge_twice k = rw k at judge_found

        pub judge_next : f ≡ false → Judging list n
        judge_next k = record { rest = rw k at judge_found }

-- ---- a version; x is the name that the domain d goes by

module _ (list x d : Bytes) (ex : x ≡ d) (version : ℕ) where
  allows_by : (o : Option ℕ) → o ≡ entry_of list x (entries_at list 5) → elim o [ none ↦ false | some e ↦ within (lowest list e) (highest list e) version ] ≡ allows list d version
  unfolding allows
  allows_by o q =
      ap (λ (p : Option ℕ). elim p [ none ↦ false | some e ↦ within (lowest list e) (highest list e) version ])
      (q ∙ ap (λ (k : Bytes). entry_of list k (entries_at list 5)) ex)

  pub allows_none : {r : code.Option ℕ} → option_of r ≡ entry_of list x (entries_at list 5) → r ≡ None → false ≡ allows list d version
  unfolding option_of
  allows_none q k = allows_by none (rw k at q)

  module _ {r : code.Option ℕ} (q : option_of r ≡ entry_of list x (entries_at list 5)) {e : ℕ} (k : r ≡ Some e) (lo : ℕ) (el : lo ≡ lowest list e) where
    pub allows_below : version < lo → false ≡ allows list d version
    unfolding within option_of
    allows_below h = sym (simp (← el, lt-leb lo version h)) ∙ allows_by (some e) (rw k at q)

    pub allows_to : lo ≤ version → (hi : ℕ) → hi ≡ highest list e → leb version hi ≡ allows list d version
    unfolding within option_of
    allows_to h hi eh = sym (simp (← el, le-leb lo version h, ← eh)) ∙ allows_by (some e) (rw k at q)
