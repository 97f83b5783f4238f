-- Identifiers byte by byte: the class that a table gives a byte, and a name as a loop goes through it.
use Prim.Native.Nat.{ℕ, zero, suc, ◌+◌, ◌-◌, ◌≤◌, ◌<◌}
use native.Mathlib.Omega.{arith}
use native.Mathlib.Numerals.{add-one}
use mathlib.Core.Path.{◌≡◌, refl, sym, ap, ◌∙◌}
use mathlib.Core.Logic.{◌⊎◌, inl, inr}
use mathlib.Core.Bool.{Bool, true, false, not, ◌&&◌, ◌||◌, true≢false}
use mathlib.Core.List.{[], ◌∷◌}
use lib.ListN.{length, get_or, take, drop, drop_of_length-le, length-drop}
use lib.Seq.{drop-cons, take_all}
use Rattle.std.proofs.lemmas.List.{get_or-drop}
use lib.Dec.{eqb, leb}
use borrow.Author.Tests.{eqb-true, ne_eqb, le-leb, lt-leb}
use Rattle.varint.specs.Bytes.{Bytes}
use Rattle.spelling.specs.Identifier.{is_letter, is_digit, word, identifier}
use Rattle.spelling.specs.ByteClass.{class_of, byte_class, tabulates}
use Rattle.spelling.specs.Utf8.{well_formed}
use Rattle.spelling.proofs.Utf8Rows.{and_both, split, within_above}
use Rattle.spelling.proofs.Utf8Reading.{ascii_at}

-- ---- a table

-- One that passes the test has the rule f at each entry.
pub entry : (f : ℕ → ℕ) (n : ℕ) (table : Bytes) → tabulates f n table ≡ true → (k : ℕ) → k < n → get_or table k 0 ≡ f k
unfolding tabulates
entry f zero table e k h = absurd (omega arith)
entry f (suc n) [] e k h = absurd (true≢false (sym e))
entry f (suc n) (x ∷ more) e zero h = eqb-true x (f 0) (and_both _ _ e).0
entry f (suc n) (x ∷ more) e (suc k) h = entry (λ j. f (suc j)) n more (and_both (eqb x (f 0)) _ e).1 k (omega arith)

-- ---- one byte

or_true : {t u : Bool} (v : Bool) → t ≡ u → t ≡ true → true ≡ (u || v)
or_true v e h = rw (← e, h)

module _ (b : ℕ) where
  pub class_letter : eqb (byte_class b) 0x61 ≡ is_letter b
  unfolding byte_class class_of
  class_letter = go (is_letter b) (is_digit b)
    where
      go : (letter digit : Bool) → eqb (class_of letter digit) 0x61 ≡ letter
      go true digit = refl
      go false true = refl
      go false false = refl

  pub class_part : not (eqb (byte_class b) 0x2E) ≡ (is_letter b || is_digit b)
  unfolding byte_class class_of
  class_part = go (is_letter b) (is_digit b)
    where
      go : (letter digit : Bool) → not (eqb (class_of letter digit) 0x2E) ≡ (letter || digit)
      go true digit = refl
      go false true = refl
      go false false = refl

  byte_ascii : (is_letter b || is_digit b) ≡ true → b < 0x80
  unfolding is_letter is_digit
  byte_ascii e = go (split 0x80 b)
    where
      go : (0x80 ≤ b) ⊎ (b < 0x80) → b < 0x80
      go (inr h) = h
      go (inl h) =
          let l = within_above 0x41 0x5A b (omega arith) in
          let m = within_above 0x61 0x7A b (omega arith) in
          let d = within_above 0x30 0x39 b (omega arith) in
          absurd (true≢false (sym e ∙ simp (l, m, d, ne_eqb b 0x5F (λ e. omega arith))))

-- ---- a name

pub name_empty : (name : Bytes) → length name ≡ 0 → identifier name ≡ false
unfolding identifier
name_empty [] h = refl
name_empty (b ∷ more) h = absurd (omega arith)

name_first : (name : Bytes) → 1 ≤ length name → identifier name ≡ is_letter (get_or name 0 0) && word (drop 1 name)
unfolding identifier
name_first [] h = absurd (omega arith)
name_first (b ∷ more) h = refl

word_at : (name : Bytes) (i : ℕ) → i < length name → word (drop i name) ≡ (is_letter (get_or name i 0) || is_digit (get_or name i 0)) && word (drop (i + 1) name)
unfolding word
word_at name i h = rw (add-one, drop-cons name i 0 h) refl

-- the bytes behind the first, as they are lent
abbrev Rest : Bytes → Bytes
Rest name = take (length name - 1) (drop 1 name)

rest_is : (name : Bytes) → Rest name ≡ drop 1 name
rest_is name = take_all (length name - 1) (drop 1 name) (omega (arith, length-drop 1 name))

pub rest_length : (name : Bytes) → length (Rest name) ≡ length name - 1
rest_length name = ap (λ (x : Bytes). length x) (rest_is name) ∙ length-drop 1 name

rest_at : (name : Bytes) (i : ℕ) → get_or (Rest name) i 0 ≡ get_or name (i + 1) 0
rest_at name i = let e : 1 + i ≡ i + 1 = omega arith in rw (rest_is name, get_or-drop, e) refl

-- what is known of the first r bytes, where no identifier goes on
abbrev pub Begun : Bytes → ℕ → Type 0
Begun name r = (r ≤ length name) × ((identifier name ≡ (leb 1 r && leb (length name) r)) × (well_formed (drop r name) ≡ well_formed name))

-- An identifier could begin with the first i bytes: whether the name is one, and whether it is well-formed, the others decide.
pub record Part (name : Bytes) (i : ℕ) : Type 0 where
  pub some : 1 ≤ i
  pub inside : i ≤ length name
  pub rest : word (drop i name) ≡ identifier name
  pub ascii : well_formed (drop i name) ≡ well_formed name

pub part_empty : (name : Bytes) → length name < 1 → Begun name 0
part_empty name h = (omega arith, (name_empty name (omega arith), refl))

-- t is the answer of the test of the first byte
module _ (name : Bytes) (some : 1 ≤ length name) (t : Bool) (et : t ≡ is_letter (get_or name 0 0)) where
  first_by : identifier name ≡ t && word (drop 1 name)
  first_by = name_first name some ∙ ap (λ (u : Bool). u && word (drop 1 name)) (sym et)

  pub part_none : t ≡ false → Begun name 0
  part_none e = (omega arith, (rw e at first_by, refl))

  pub part_start : t ≡ true → Part name 1
  part_start e =
      let a = byte_ascii (get_or name 0 0) (sym (or_true (is_digit (get_or name 0 0)) et e)) in
      record { some = omega arith; inside = omega arith; rest = sym (rw e at first_by); ascii = sym (ascii_at name 0 (omega arith) a) }

whole : {name : Bytes} {i : ℕ} → Part name i → length name ≤ i → Begun name i
unfolding word
whole {name} {i} q h = (q.inside, (sym q.rest ∙ ap word (drop_of_length-le name h) ∙ simp (le-leb 1 i q.some, le-leb (length name) i h), q.ascii))

-- all but the first i of the bytes behind the first are left
module _ {name : Bytes} {i : ℕ} (q : Part name (i + 1)) where
  pub part_end : length (Rest name) ≤ i → Begun name (length name)
  part_end h =
      let e : i + 1 ≡ length name = omega (arith, q.inside, rest_length name) in
      rw e at (whole q (omega arith))

  -- t is the answer of the test of the next byte
  module _ (h : i < length (Rest name)) (t : Bool) (et : t ≡ (is_letter (get_or (Rest name) i 0) || is_digit (get_or (Rest name) i 0))) where
    part_inside : i + 1 < length name
    part_inside = omega (arith, rest_length name)

    part_test : t ≡ (is_letter (get_or name (i + 1) 0) || is_digit (get_or name (i + 1) 0))
    part_test = et ∙ ap (λ (b : ℕ). is_letter b || is_digit b) (rest_at name i)

    part_by : t && word (drop (i + 1 + 1) name) ≡ identifier name
    part_by = ap (λ (u : Bool). u && word (drop (i + 1 + 1) name)) part_test ∙ sym (word_at name (i + 1) part_inside) ∙ q.rest

    pub part_stop : t ≡ false → Begun name (i + 1)
    part_stop e = (q.inside, (sym (rw e at part_by) ∙ simp (le-leb 1 (i + 1) q.some, lt-leb (length name) (i + 1) part_inside), q.ascii))

    pub part_next : t ≡ true → Part name (i + 1 + 1)
    part_next e =
        let a = byte_ascii (get_or name (i + 1) 0) (sym part_test ∙ e) in
        record {
          some = omega arith;
          inside = omega (arith, part_inside);
          rest = rw e at part_by;
          ascii = sym (ascii_at name (i + 1) part_inside a) ∙ q.ascii;
        }
