-- Cells as a stack of names: cleared, read, searched, and one more name stored.
use Rattle.std.specs.Prelude.{None, Ok, Some}
use Rattle.std.specs.declared.option.Option.{Option}
use Prim.Native.Nat.{ℕ, zero, suc, ◌+◌, ◌-◌, ◌*◌, ◌≤◌, ◌<◌, max}
use native.Mathlib.Omega.{arith}
use native.Mathlib.Numerals.{add-one}
use mathlib.Core.Path.{◌≡◌, refl, sym, ap, ap₂, ◌∙◌}
use mathlib.Core.Bool.{Bool, true, false, ◌||◌}
use mathlib.Core.List.{List, [], ◌∷◌, ◌++◌, map, append-nil}
use lib.ListN.{length, take, drop, set, replicate, length-append, length-replicate, length-drop, length-set, drop_of_length-le}
use lib.Seq.{take-take, take-set-le}
use lib.Dec.{leb}
use borrow.Author.Tests.{le-leb, lt-leb}
use Rattle.varint.specs.Outcome.{pass, ◌>>◌, Judged, refused, refused_with, refuse◌at:◌when:◌, refuse◌at:◌first:◌when:◌}
use Rattle.varint.specs.Bytes.{Bytes, same, member}
use Rattle.wire.specs.Message.{text}
use Rattle.wire.specs.declared.Field.{Field}
use Rattle.index.specs.Table.{seek, since}
use Rattle.index.proofs.UseLaws.{seek_member}
use Rattle.rules.specs.Names.{Name, name_in}
use Rattle.rules.specs.Walk.{Walk, with_name, visible, defined_at, define}
use Rattle.rules.specs.Verdict.{WIDTH, room, fills}
use Rattle.scope.specs.Scope.{place_in, stored, first_in, name_at, recorded, scope_in, bytes_in, walk_in, step_says, Direct, Keeps}
use Rattle.scope.specs.declared.scopes.Progress.{Progress}
use Rattle.scope.proofs.RecordLaws.{placed_prefix, recorded_by, recorded_other, recorded_same, name_direct}

-- ---- clearing: the first `i` cells are cleared

module _ (d l : List ℕ) (i : ℕ) (le : i ≤ length d) (e : l ≡ replicate i 0 ++ drop i d) where
  pub fill_length : length l ≡ length d
  fill_length = rw e (simp (length-append, length-replicate, length-drop) (omega arith))

  pub fill_done : length l ≤ i → l ≡ replicate (length d) 0
  fill_done h =
      let k : i ≡ length d = omega (arith, fill_length) in
      rw (e, drop_of_length-le d {i = i} (omega (arith, fill_length)), k) (append-nil _)

module _ (model : Bytes) where
  -- ---- the cells as a stack

  pub scope_length : (cells : List ℕ) (used : ℕ) → length (scope_in model cells used) ≡ used
  unfolding scope_in
  scope_length cells zero = refl
  scope_length cells (suc n) = ap suc (scope_length cells n)

  scope_same : (a b : List ℕ) (used : ℕ) → ((i : ℕ) → i < used → recorded model a i ≡ recorded model b i) → scope_in model a used ≡ scope_in model b used
  unfolding scope_in
  scope_same a b zero h = refl
  scope_same a b (suc n) h = rw (h n (omega arith), scope_same a b n (λ i l. h i (omega arith)))

  pub scope_prefix : (a b : List ℕ) (used n : ℕ) → n ≤ used → take (WIDTH * used) a ≡ take (WIDTH * used) b → scope_in model a n ≡ scope_in model b n
  scope_prefix a b used n h e = scope_same a b n (λ i l. recorded_by model a b i (placed_prefix a b used i (omega arith) e))

  -- a record more puts a name on top
  pub scope_push : (cells : List ℕ) (n place len : ℕ) → n < room (length cells)
      → scope_in model (stored cells n place len) (n + 1) ≡ name_at model place len ∷ scope_in model cells n
  unfolding scope_in
  scope_push cells n p k h =
      rw (add-one, recorded_same model cells n p k h, scope_same (stored cells n p k) cells n (λ i l. recorded_other model cells n p k i l))

  bytes_top : (cells : List ℕ) (i : ℕ) → 0 < i → bytes_in model cells i ≡ (recorded model cells (i - 1)).bytes ∷ bytes_in model cells (i - 1)
  unfolding bytes_in scope_in
  bytes_top cells zero h = absurd (omega arith)
  bytes_top cells (suc j) h = let e : suc j - 1 ≡ j = omega arith in rw e

  pub bytes_length : (cells : List ℕ) (used : ℕ) → length (bytes_in model cells used) ≡ used
  unfolding bytes_in scope_in
  bytes_length cells zero = refl
  bytes_length cells (suc n) = ap suc (bytes_length cells n)

-- ---- searching: where the name is found, the first `i` records decide

pub record Searching (model : Bytes) (cells : List ℕ) (used : ℕ) (name : Bytes) (i : ℕ) : Type 0 where
  pub rest : seek name (bytes_in model cells i) ≡ seek name (bytes_in model cells used)

pub search_start : (model : Bytes) (cells : List ℕ) (used : ℕ) (name : Bytes) → Searching model cells used name used
search_start model cells used name = record { rest = refl }

-- t is the answer of the comparison with the last record
module _ {model : Bytes} {cells : List ℕ} {used : ℕ} {name : Bytes} {i : ℕ} (q : Searching model cells used name i) (h : 0 < i) (t : Bool)
    (et : t ≡ same name (recorded model cells (i - 1)).bytes) where
  search_by : elim t [ true ↦ Some (i - 1) | false ↦ seek name (bytes_in model cells (i - 1)) ] ≡ seek name (bytes_in model cells used)
  unfolding seek
  search_by =
      ap (λ (u : Bool). elim u [ true ↦ Some (i - 1) | false ↦ seek name (bytes_in model cells (i - 1)) ]) et
      ∙ ap (λ (n : ℕ). elim (same name (recorded model cells (i - 1)).bytes) [ true ↦ Some n | false ↦ seek name (bytes_in model cells (i - 1)) ])
      (sym (bytes_length model cells (i - 1)))
      ∙ ap (seek name) (sym (bytes_top model cells i h))
      ∙ q.rest

  pub search_here : t ≡ true → Some (i - 1) ≡ seek name (bytes_in model cells used)
  search_here e = rw e at search_by

  pub search_next : t ≡ false → Searching model cells used name (i - 1)
  search_next e = record { rest = rw e at search_by }

-- a name is visible where it is found
member_bytes : (x : Bytes) (names : List Name) → member x (map (λ n. n.bytes) names) ≡ visible x names
unfolding member visible
member_bytes x [] = refl
member_bytes x (n ∷ more) = ap (λ (b : Bool). same x n.bytes || b) (member_bytes x more)

pub found_visible : (model : Bytes) (cells : List ℕ) (used : ℕ) (x : Bytes) → since 0 (seek x (bytes_in model cells used)) ≡ visible x (scope_in model cells used)
unfolding bytes_in
found_visible model cells used x = seek_member x (bytes_in model cells used) ∙ member_bytes x (scope_in model cells used)

recorded_place : (model : Bytes) (cells : List ℕ) (i : ℕ) → place_in cells i ≡ (recorded model cells i).place
unfolding recorded name_at
recorded_place model cells i = refl

-- and its record has the place of the definition
pub found_first : (model : Bytes) (cells : List ℕ) (used : ℕ) (x : Bytes) → first_in cells (seek x (bytes_in model cells used)) ≡ defined_at x (scope_in model cells used)
unfolding bytes_in scope_in seek first_in defined_at
found_first model cells zero x = refl
found_first model cells (suc n) x = go (same x (recorded model cells n).bytes) (bytes_length model cells n) (found_first model cells n x)
  where
    go : (b : Bool) → length (bytes_in model cells n) ≡ n → first_in cells (seek x (bytes_in model cells n)) ≡ defined_at x (scope_in model cells n)
        → first_in cells (elim b [ true ↦ Some (length (bytes_in model cells n)) | false ↦ seek x (bytes_in model cells n) ])
        ≡ elim b [ true ↦ (recorded model cells n).place | false ↦ defined_at x (scope_in model cells n) ]
    go true e ih = ap (place_in cells) e ∙ recorded_place model cells n
    go false e ih = ih

-- ---- a new name: x are its bytes, r the answer of the search for them

module _ (model : Bytes) (cells : List ℕ) (p : Progress) (f : Field) (x : Bytes) (ex : x ≡ text model f) (r : Option ℕ)
    (er : r ≡ seek x (bytes_in model cells p.used)) where
  abbrev Defining : Judged Walk
  Defining = define (fills (length cells)) (walk_in model cells p) (name_in model f)

  abbrev New : Walk
  New = with_name (walk_in model cells p) (name_in model f)

  abbrev After : (first : ℕ) → (seen : Bool) → Judged Walk
  After first seen =
      refuse 23 at: f.place first: first when: seen >> (refuse 40 at: f.place when: leb (room (length cells)) p.used >> pass New)

  define_by : Defining ≡ After (first_in cells r) (since 0 r)
  unfolding define fills name_in walk_in
  define_by =
      let scope = scope_in model cells p.used in
      let named : text model f ≡ x = sym ex in
      let seen : visible (text model f) scope ≡ since 0 r = ap (λ (y : Bytes). visible y scope) named ∙ sym (found_visible model cells p.used x) ∙ ap (since 0) (sym er) in
      let first : defined_at (text model f) scope ≡ first_in cells r =
      ap (λ (y : Bytes). defined_at y scope) named ∙ sym (found_first model cells p.used x) ∙ ap (first_in cells) (sym er) in
      ap₂ (λ (q : ℕ) (b : Bool).
      refuse 23 at: f.place first: q when: b >> (refuse 40 at: f.place when: leb (room (length cells)) (length scope) >> pass New)) first seen
      ∙ ap (λ (n : ℕ).
      refuse 23 at: f.place first: first_in cells r when: since 0 r >> (refuse 40 at: f.place when: leb (room (length cells)) n >> pass New))
      (scope_length model cells p.used)

  pub define_twice : {i : ℕ} → r ≡ Some i → refused_with 23 f.place (place_in cells i) ≡ Defining
  unfolding ◌>>◌ refuse◌at:◌first:◌when:◌ since first_in
  define_twice {i} e =
      ap (λ (x : Option ℕ). refused_with 23 f.place (first_in cells x)) (sym e)
      ∙ sym (define_by ∙ ap (After (first_in cells r)) (ap (since 0) e ∙ le-leb 0 i (omega arith)))

  module _ (e : r ≡ None) where
    missing : Defining ≡ (refuse 40 at: f.place when: leb (room (length cells)) p.used >> pass New)
    unfolding ◌>>◌ refuse◌at:◌first:◌when:◌ since
    missing = define_by ∙ ap (After (first_in cells r)) (ap (since 0) e)

    pub define_full : room (length cells) ≤ p.used → refused 40 f.place ≡ Defining
    unfolding ◌>>◌ refuse◌at:◌when:◌
    define_full h = sym (rw (le-leb _ _ h) at missing)

    module _ (d : Direct model f) (later : List ℕ) (el : later ≡ stored cells p.used f.place (f.next - f.start)) (m : ℕ)
        (em : m ≡ max p.most (p.used + 1)) (h : p.used < room (length cells)) where
      pushed : step_says model later (Ok (record { used = p.used + 1; nodes = p.nodes; most = m; odd = p.odd })) ≡ pass New
      unfolding step_says with_name walk_in
      pushed =
          ap (λ (l : List ℕ). pass (record { scope = scope_in model l (p.used + 1); nodes = p.nodes; most = m; odd = p.odd })) el
          ∙ ap (λ (s : List Name). pass (record { scope = s; nodes = p.nodes; most = m; odd = p.odd }))
          (scope_push model cells p.used f.place (f.next - f.start) h ∙ ap (λ (n : Name). n ∷ scope_in model cells p.used) (name_direct model f d))
          ∙ ap (λ (n : ℕ). pass (record { scope = name_in model f ∷ scope_in model cells p.used; nodes = p.nodes; most = n; odd = p.odd }))
          (em ∙ ap (λ (n : ℕ). max p.most (n + 1)) (sym (scope_length model cells p.used)))

      pub define_new : step_says model later (Ok (record { used = p.used + 1; nodes = p.nodes; most = m; odd = p.odd })) ≡ Defining
      unfolding ◌>>◌ refuse◌at:◌when:◌
      define_new = pushed ∙ sym (rw (lt-leb _ _ h) at missing)

-- ---- what stays of the cells

pub keeps_all : (used : ℕ) (cells : List ℕ) → Keeps used cells cells
keeps_all used cells = record { size = refl; below = refl }

pub keeps_stored : (used place len : ℕ) (cells : List ℕ) {later : List ℕ} → later ≡ stored cells used place len → Keeps used cells later
unfolding stored
keeps_stored used place len cells e = rw e (record {
  size = length-set (set cells (WIDTH * used) place) (WIDTH * used + 1) len ∙ length-set cells (WIDTH * used) place;
  below = take-set-le (WIDTH * used) (set cells (WIDTH * used) place) (WIDTH * used + 1) len (omega arith)
      ∙ take-set-le (WIDTH * used) cells (WIDTH * used) place (omega arith);
})

fewer : (n used : ℕ) → n ≤ used → WIDTH * n ≤ WIDTH * used
unfolding WIDTH
fewer n used h = omega arith

-- where less is in use, less need stay
pub keeps_fewer : {used n : ℕ} {a b : List ℕ} → n ≤ used → Keeps used a b → Keeps n a b
keeps_fewer {used} {n} {a} {b} h k =
    let l = fewer n used h in
    record {
      size = k.size;
      below = sym (take-take (WIDTH * n) (WIDTH * used) b l) ∙ ap (take (WIDTH * n)) k.below ∙ take-take (WIDTH * n) (WIDTH * used) a l;
    }

pub keeps_then : {used : ℕ} {a b d : List ℕ} → Keeps used a b → Keeps used b d → Keeps used a d
keeps_then k l = record { size = l.size ∙ k.size; below = l.below ∙ k.below }
