-- The bytes of a varint that is not padded are its number's shortest form.
use Prim.Native.Nat.{ℕ, zero, suc, ◌+◌, ◌-◌, ◌*◌, ◌/◌, ◌%◌, ◌^◌, ◌≤◌, ◌<◌, min}
use native.Mathlib.Nat.{le_trans, one-le-pow, pow-succ'}
use native.Mathlib.Omega.{arith}
use mathlib.Core.Path.{◌≡◌, refl, ap, ◌∙◌}
use mathlib.Core.Bool.{Bool, true, false, ◌||◌}
use mathlib.Core.List.{◌∷◌, ◌++◌}
use lib.Dec.{ltb, eqb, leb→le}
use lib.ListN.{length, take, drop, length-take, length-drop}
use lib.Seq.{drop-cons, drop-drop, take-add}
use borrow.Author.Tests.{ne_eqb, le-ltb, lt-ltb}
use Rattle.varint.specs.Outcome.{pass}
use Rattle.varint.specs.Bytes.{Bytes, byte, part}
use Rattle.varint.specs.Varint.{varint, shortest_varint}
use Rattle.varint.specs.Encoding.{encode_from, encode, Octets}
use Rattle.varint.specs.declared.Varint.{Varint}
use Rattle.varint.proofs.Lists.{true_T}
use Rattle.varint.proofs.VarintLaws.{varint_each}
use Rattle.varint.proofs.ShortestLaws.{shortest_is}

-- ---- parts, one after the other

pub part_join : (s : Bytes) (a b c : ℕ) → a ≤ b → b ≤ c → part a (c - a) s ≡ part a (b - a) s ++ part b (c - b) s
unfolding part
part_join s a b c h k =
    let whole : c - a ≡ (b - a) + (c - b) = omega arith in
    let there : a + (b - a) ≡ b = omega arith in
    rw whole (take-add (b - a) (c - b) (drop a s) ∙ ap (λ (x : Bytes). take (b - a) (drop a s) ++ take (c - b) x) (drop-drop (b - a) a s ∙ ap (λ (x : ℕ). drop x s) there))

pub part_first : (s : Bytes) (a c : ℕ) → a < c → a < length s → part a (c - a) s ≡ byte s a ∷ part (a + 1) (c - (a + 1)) s
unfolding part byte
part_first s a c h k =
    let one : c - a ≡ suc (c - (a + 1)) = omega arith in
    let next : suc a ≡ a + 1 = omega arith in
    rw one (ap (take (suc (c - (a + 1)))) (drop-cons s a 0 k) ∙ ap (λ (x : ℕ). byte s a ∷ take (c - (a + 1)) (drop x s)) next)

pub part_size : (s : Bytes) (a n : ℕ) → length (part a n s) ≡ min n (length s - a)
unfolding part
part_size s a n = length-take n (drop a s) ∙ ap (min n) (length-drop a s)

pub part_length : (s : Bytes) (a c : ℕ) → c ≤ length s → length (part a (c - a) s) ≡ c - a
part_length s a c h = let n = part_size s a (c - a) in omega arith

-- ---- a varint

-- what one byte of a number is, and what is left of it
low_seven : (b high : ℕ) → 128 ≤ b → b < 256 → (b % 128 + 128 * high) % 128 + 128 ≡ b
low_seven b high h k = omega arith

high_bits : (b high : ℕ) → (b % 128 + 128 * high) / 128 ≡ high
high_bits b high = omega arith

module _ (s : Bytes) (place end : ℕ) (inside : end ≤ length s) where
  -- from a byte that is not the first on, a varint that ends in no 0 is a number above 0
  record Written (left pos : ℕ) (v : Varint) : Type 0 where
    onward : pos < v.next
    within : v.next ≤ end
    width : v.next ≡ pos + length (encode_from left v.value)
    bytes : Octets s → part pos (v.next - pos) s ≡ encode_from left v.value
    some : left < 10 → 0 < v.value

  Whole : (left pos : ℕ) → Varint → Type 0
  Whole left pos v = v.shortest ≡ true → Written left pos v

  written_last : (left pos : ℕ) → suc left ≤ 10 → pos < end → byte s pos < 128
      → Whole (suc left) pos (record { value = byte s pos; next = pos + 1; shortest = eqb left 9 || ltb 0 (byte s pos) })
  unfolding Whole encode_from part
  written_last left pos l h k short =
      let none : pos + 1 - (pos + 1) ≡ 0 = omega arith in
      record {
        onward = omega arith;
        within = omega arith;
        width = rw (lt-ltb (byte s pos) 128 k, encode_from) refl;
        bytes = λ octets. part_first s pos (pos + 1) (omega arith) (omega arith) ∙ rw (none, lt-ltb (byte s pos) 128 k, encode_from) refl;
        some = λ m. above (ltb 0 (byte s pos)) refl (rw (ne_eqb left 9 (λ z. omega arith)) at short);
      }
    where
      above : (c : Bool) → ltb 0 (byte s pos) ≡ c → c ≡ true → 0 < byte s pos
      above true e t = leb→le 1 (byte s pos) (true_T _ e)
      above false e t = absurd (true_T false t)

  written_more : (left pos : ℕ) (high : Varint) → suc left ≤ 10 → pos < end → 128 ≤ byte s pos → Whole left (pos + 1) high
      → Whole (suc left) pos (record { value = byte s pos % 128 + 128 * high.value; next = high.next; shortest = high.shortest })
  unfolding Whole encode_from
  written_more left pos high l h k whole short =
      let ih = whole short in
      let far = ih.onward in
      let near = ih.within in
      let some : 0 < high.value = ih.some (omega arith) in
      let big : ltb (byte s pos % 128 + 128 * high.value) 128 ≡ false = le-ltb (byte s pos % 128 + 128 * high.value) 128 (omega arith) in
      let up = high_bits (byte s pos) high.value in
      let first = part_first s pos high.next (omega arith) (omega arith) in
      record {
        onward = omega arith;
        within = omega arith;
        width = rw (big, up, encode_from) (let w = ih.width in omega arith);
        bytes = λ octets.
            let here = low_seven (byte s pos) high.value k (octets pos) in
            first ∙ rw (big, here, up, encode_from) (ap (λ (x : Bytes). byte s pos ∷ x) (ih.bytes octets));
        some = λ m. omega arith;
      }

  -- "whether the form was the shortest": then it is the form that is written
  written : (pos : ℕ) (v : Varint) → shortest_varint s place end pos ≡ pass v → Written 10 pos v
  unfolding varint Whole
  written pos v e =
      let k = shortest_is s place end pos v e in
      varint_each s place end Whole written_last written_more 10 pos v (omega arith) k.0 k.1

  pub varint_written : Octets s → (pos : ℕ) (v : Varint) → shortest_varint s place end pos ≡ pass v
      → (pos < v.next) × (v.next ≤ end) × (part pos (v.next - pos) s ≡ encode v.value)
  unfolding encode
  varint_written octets pos v e = let w = written pos v e in (w.onward, w.within, w.bytes octets)

  -- how many bytes it takes follows from its value
  pub varint_width : (pos : ℕ) (v : Varint) → shortest_varint s place end pos ≡ pass v → v.next ≡ pos + length (encode v.value)
  unfolding encode
  varint_width pos v e = (written pos v e).width

-- ---- how many bytes a number takes

width_last : (left n : ℕ) → n < 128 → length (encode_from (suc left) n) ≡ 1
unfolding encode_from
width_last left n h = rw (lt-ltb n 128 h, encode_from) refl

width_more : (left n : ℕ) → 128 ≤ n → length (encode_from (suc left) n) ≡ suc (length (encode_from left (n / 128)))
unfolding encode_from
width_more left n h = rw (le-ltb n 128 h, encode_from) refl

pub width_one : (n : ℕ) → n < 128 → length (encode n) ≡ 1
unfolding encode
width_one n h = width_last 9 n h

-- a byte for each seven bits
down : (low n high : ℕ) → 128 * low ≤ n → n < 128 * high → (low ≤ n / 128) × (n / 128 < high)
down low n high h k = (omega arith, omega arith)

width_from : (k left n : ℕ) → k ≤ left → 128 ^ suc k ≤ n → n < 128 ^ suc (suc k) → length (encode_from (suc (suc left)) n) ≡ suc (suc k)
width_from zero left n l h i = width_more (suc left) n h ∙ ap suc (width_last left (n / 128) (down 1 n 128 h i).1)
width_from (suc k) zero n l h i = absurd (omega arith)
width_from (suc k) (suc left) n l h i =
    let q = down (128 ^ suc k) n (128 ^ suc (suc k)) (rw (pow-succ' 128 (suc k)) at h) (rw (pow-succ' 128 (suc (suc k))) at i) in
    let some : 1 ≤ n / 128 = le_trans (one-le-pow (suc k) 128 (omega arith)) q.0 in
    width_more (suc (suc left)) n (omega arith) ∙ ap suc (width_from k left (n / 128) (omega arith) q.0 q.1)

pub width_above : (k n : ℕ) → k ≤ 8 → 128 ^ suc k ≤ n → n < 128 ^ suc (suc k) → length (encode n) ≡ suc (suc k)
unfolding encode
width_above k n l h i = width_from k 8 n l h i
