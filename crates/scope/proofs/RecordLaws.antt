-- Records of names: written, read, and compared with a name.
use Prim.Native.Nat.{ℕ, ◌+◌, ◌-◌, ◌*◌, ◌≤◌, ◌<◌, min}
use native.Mathlib.Omega.{arith}
use mathlib.Core.Path.{◌≡◌, refl, sym, ap, ap₂, ◌∙◌}
use mathlib.Core.Bool.{Bool, true, false, true≢false}
use mathlib.Core.List.{List, [], ◌∷◌, Memᴰ}
use mathlib.Core.Option.{some}
use lib.ListN.{length, take, get_or, set, length-set}
use lib.Seq.{get_or-take, get_or-set_same, get_or-set_other}
use lib.Dec.{leb, eqb, eqb→eq}
use borrow.Author.Tests.{le-leb, leb-true, leb-false}
use Rattle.varint.specs.Outcome.{pass}
use Rattle.varint.specs.Lists.{is_empty}
use Rattle.varint.specs.Bytes.{Bytes, part, same}
use Rattle.varint.proofs.Lists.{first_here}
use Rattle.varint.proofs.Passing.{passed_tells}
use Rattle.varint.proofs.SliceLaws.{same_length}
use Rattle.varint.proofs.EncodingLaws.{part_size}
use Rattle.wire.specs.Wire.{LEN, field}
use Rattle.wire.specs.Message.{all_of, first_of, text, message}
use Rattle.wire.specs.Encoding.{contents_at}
use Rattle.wire.specs.declared.Field.{Field}
use Rattle.wire.proofs.Reading.{Fits, AtTag, field_tells}
use Rattle.wire.proofs.EncodingLaws.{contents_there}
use Rattle.wire.proofs.MessageLaws.{first_read}
use Rattle.schema.specs.declared.Kind.{Kind}
use Rattle.schema.specs.declared.Kind.TheVariants.{Function, Node, Tensor, ValueInfo}
use Rattle.schema.specs.Numbers.{ValueInfo-name, Tensor-name, Function-input, Node-output}
use Rattle.schema.specs.Rows.{row_of, Rows-computes}
use Rattle.schema.specs.FirstWalk.{wire_of, fits}
use Rattle.schema.specs.Opened.{Walked}
use Rattle.schema.proofs.Opened.{walked_number, walked_fits}
use Rattle.index.proofs.ListingLaws.{same_empty}
use Rattle.rules.specs.Names.{name_in}
use Rattle.rules.specs.Verdict.{WIDTH, room}
use Rattle.scope.specs.Scope.{place_in, length_in, stored, name_at, recorded, Direct}

-- ---- records

pub room_few : (size : ℕ) → room size ≤ size
unfolding room WIDTH
room_few size = omega arith

pub room_fits : (i size : ℕ) → i < room size → WIDTH * i + 1 < size
unfolding room WIDTH
room_fits i size h = omega arith

-- records before one that is written stay, and it holds what was written
module _ (cells : List ℕ) (n place len : ℕ) where
  stored_other : (i : ℕ) → i < n → (place_in (stored cells n place len) i ≡ place_in cells i) × (length_in (stored cells n place len) i ≡ length_in cells i)
  unfolding place_in length_in stored WIDTH
  stored_other i h = (
    get_or-set_other (set cells (WIDTH * n) place) (WIDTH * n + 1) (WIDTH * i) len 0 (λ e. omega arith) ∙ get_or-set_other cells (WIDTH * n) (WIDTH * i) place 0 (λ e. omega arith),
    get_or-set_other (set cells (WIDTH * n) place) (WIDTH * n + 1) (WIDTH * i + 1) len 0 (λ e. omega arith) ∙ get_or-set_other cells (WIDTH * n) (WIDTH * i + 1) place 0 (λ e. omega arith),
  )

  stored_same : n < room (length cells) → (place_in (stored cells n place len) n ≡ place) × (length_in (stored cells n place len) n ≡ len)
  unfolding place_in length_in stored room WIDTH
  stored_same h = (
    get_or-set_other (set cells (WIDTH * n) place) (WIDTH * n + 1) (WIDTH * n) len 0 (λ e. omega arith) ∙ get_or-set_same cells (WIDTH * n) place 0 (omega arith),
    get_or-set_same (set cells (WIDTH * n) place) (WIDTH * n + 1) len 0 (omega (arith, length-set cells (WIDTH * n) place)),
  )

-- a cell can hold what a record holds of a name
pub direct_fits : (model : Bytes) (f : Field) → Direct model f → (most : ℕ) → length model < most → (f.place < most) × (f.next - f.start < most)
unfolding contents_at
direct_fits model f d most h =
    let inside = d.inside in
    let ends = d.ends in
    let there = d.there in
    (omega arith, omega arith)

-- only the records in use count
pub placed_prefix : (a b : List ℕ) (used i : ℕ) → i < used → take (WIDTH * used) a ≡ take (WIDTH * used) b → (place_in a i ≡ place_in b i) × (length_in a i ≡ length_in b i)
unfolding place_in length_in WIDTH
placed_prefix a b used i h e = (at (WIDTH * i) (omega arith), at (WIDTH * i + 1) (omega arith))
  where
    at : (k : ℕ) → k < WIDTH * used → get_or a k 0 ≡ get_or b k 0
    at k l = sym (get_or-take (WIDTH * used) a k 0 l) ∙ ap (λ (l : List ℕ). get_or l k 0) e ∙ get_or-take (WIDTH * used) b k 0 l

module _ (model : Bytes) where
  pub recorded_by : (a b : List ℕ) (i : ℕ) → (place_in a i ≡ place_in b i) × (length_in a i ≡ length_in b i) → recorded model a i ≡ recorded model b i
  unfolding recorded
  recorded_by a b i e = ap₂ (name_at model) e.0 e.1

  pub recorded_other : (cells : List ℕ) (n place len i : ℕ) → i < n → recorded model (stored cells n place len) i ≡ recorded model cells i
  recorded_other cells n place len i h = recorded_by (stored cells n place len) cells i (stored_other cells n place len i h)

  pub recorded_same : (cells : List ℕ) (n place len : ℕ) → n < room (length cells) → recorded model (stored cells n place len) n ≡ name_at model place len
  unfolding recorded
  recorded_same cells n place len h = let e = stored_same cells n place len h in ap₂ (name_at model) e.0 e.1

  -- "the bytes of a name follow from place and length"
  pub name_direct : (f : Field) → Direct model f → name_at model f.place (f.next - f.start) ≡ name_in model f
  unfolding name_at name_in text
  name_direct f d =
      let ends = d.ends in
      let inside = d.inside in
      let fits : leb (f.start + (f.next - f.start)) (length model) ≡ true = le-leb (f.start + (f.next - f.start)) (length model) (omega arith) in
      ap (λ (at : ℕ). record {
        bytes = elim (leb (at + (f.next - f.start)) (length model)) [ true ↦ part at (f.next - f.start) model | false ↦ [] ];
        place = f.place;
      }) (sym d.there) ∙ rw fits refl

-- ---- a record beside a name that is not empty

some_length : (x : Bytes) → is_empty x ≡ false → 0 < length x
unfolding is_empty
some_length [] e = absurd (true≢false e)
some_length (b ∷ x) e = omega arith

module _ (model : Bytes) (cells : List ℕ) (i : ℕ) (name : Bytes) (some : is_empty name ≡ false) (len : ℕ) (el : len ≡ length_in cells i) where
  abbrev start : ℕ
  start = contents_at (place_in cells i) len

  abbrev there : Bool → Bytes
  there b = elim b [ true ↦ part start len model | false ↦ [] ]

  apart : false ≡ same name []
  unfolding is_empty
  apart = sym (same_empty name [] some refl)

  by_length : (recorded model cells i).bytes ≡ there (leb (start + len) (length model))
  unfolding recorded name_at
  by_length = rw (← el) refl

  pub other_length : (len ≡ length name → ⊥) → false ≡ same name (recorded model cells i).bytes
  other_length differ = go (leb (start + len) (length model)) (leb-true (start + len) (length model)) ∙ ap (same name) (sym by_length)
    where
      go : (b : Bool) → (b ≡ true → start + len ≤ length model) → false ≡ same name (there b)
      go true h = same_length name (part start len model) (λ e. differ (let l = h refl in let size = part_size model start len in omega arith))
      go false h = apart

  -- s is where it begins, x what the model has there, t the answer of the comparison
  pub same_there : len ≡ length name → {s : ℕ} → s ≡ start → {x : Bytes} → x ≡ part s (s + len - s) model → {t : Bool} → t ≡ same name x
      → t ≡ same name (recorded model cells i).bytes
  same_there same' {s} es {x} ex et =
      et ∙ ap (same name) (ex ∙ ap₂ (λ (a n : ℕ). part a n model) es (omega arith)) ∙ go (leb (start + len) (length model)) (leb-false (start + len) (length model))
      ∙ ap (same name) (sym by_length)
    where
      go : (b : Bool) → (b ≡ false → length model < start + len) → same name (part start len model) ≡ same name (there b)
      go true h = refl
      go false h =
          sym (same_length name (part start len model) (λ e. let l = h refl in let size = part_size model start len in nothing e l size)) ∙ apart
        where
          nothing : length name ≡ length (part start len model) → length model < start + len → length (part start len model) ≡ min len (length model - start) → ⊥
          nothing e l size = let one = some_length name some in omega arith

-- ---- names in fields

-- a row of bytes, whose tag is one byte
abbrev pub OfBytes : Kind → (n : ℕ) → Type 0
OfBytes kind n = ((wire : ℕ) → fits wire (row_of kind n) ≡ eqb wire LEN) × (n < 16)

pub value_info_name : OfBytes ValueInfo ValueInfo-name
unfolding fits wire_of Rows-computes
value_info_name = (λ wire. refl, omega arith)

pub tensor_name : OfBytes Tensor Tensor-name
unfolding fits wire_of Rows-computes
tensor_name = (λ wire. refl, omega arith)

pub function_input_lem : OfBytes Function Function-input
unfolding fits wire_of Rows-computes
function_input_lem = (λ wire. refl, omega arith)

pub node_output_lem : OfBytes Node Node-output
unfolding fits wire_of Rows-computes
node_output_lem = (λ wire. refl, omega arith)

module _ {model : Bytes} {kind : Kind} {m : Field} (w : Walked model kind m) {n : ℕ} (row : OfBytes kind n) {f : Field} where
  -- a name in a message that the first walk passed
  pub name_there : Memᴰ f (all_of n (message model m)) → field model m.next f.place ≡ pass f → Direct model f
  name_there here read =
      let wire : f.wire ≡ LEN = eqb→eq f.wire LEN (rw (row.0 f.wire) at (walked_fits w n here)) in
      let small : f.number < 16 = rw (walked_number w n here) row.1 in
      let lies = passed_tells (Fits f.place m.next) (AtTag f.place) (field model m.next f.place) f (field_tells model m.next f.place) read in
      let last = lies.3 in
      let size = w.inside in
      record { inside = omega arith; ends = lies.2; there = contents_there model m.next size f.place f read small wire }

  pub name_first : some f ≡ first_of n (message model m) → Direct model f
  unfolding first_of
  name_first k = name_there (first_here (all_of n (message model m)) k) (first_read model n m k)
