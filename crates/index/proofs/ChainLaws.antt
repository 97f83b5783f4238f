-- Records chained in buckets, whatever key gives a record its bucket: one record more, one less, and a search along a chain.
use Prim.Native.Nat.{ℕ, suc, ◌+◌, ◌-◌, ◌*◌, ◌^◌, ◌≤◌, ◌<◌}
use native.Mathlib.Omega.{arith}
use native.Mathlib.Numerals.{add-one}
use native.Mathlib.Nat.{div-mul-le_self}
use mathlib.Core.Path.{◌≡◌, refl, sym, ap, ◌∙◌}
use mathlib.Core.Bool.{Bool, true, false}
use mathlib.Core.List.{List}
use lib.ListN.{length, get_or, set, replicate, length-set, length-replicate, get_or-replicate}
use lib.Seq.{get_or-set_same, get_or-set_other}
use lib.Dec.{eqb}
use borrow.Author.Tests.{eqb-true, eqb-false}
use Rattle.index.specs.Table.{capacity, record_at, start_in, length_in, link_of, newest, key_in, Chained, Put}
use Rattle.index.proofs.NewestLaws.{newest_here, newest_other, newest_same, newest_le, newest_in, newest_tells}

pub capacity_fits : (n : ℕ) → 4 * capacity n ≤ n
unfolding capacity
capacity_fits n = omega (arith, div-mul-le_self n 4)

pub capacity_lt : (n : ℕ) → capacity n < 2 ^ 32
unfolding capacity
capacity_lt n = omega arith

-- a table that is all zeros has no records
pub chained_none : (key : ℕ → ℕ → ℕ) (n : ℕ) → Chained key (replicate n 0) 0
unfolding newest
chained_none key n = record {
  fits = omega arith;
  heads = λ b h. get_or-replicate n b 0 0 (inside b h);
  links = λ i h. absurd (omega arith);
}
  where
    inside : (b : ℕ) → b < capacity (length {A = ℕ} (replicate n 0)) → b < n
    inside b h = omega (arith, capacity_fits (length {A = ℕ} (replicate n 0)), length-replicate {A = ℕ} n 0)

-- ---- what a store beside the first `k` records leaves: their cells, and so their buckets and links

pub record Beneath (k : ℕ) (t u : List ℕ) : Type 0 where
  pub size : length u ≡ length t
  pub cells : (x : ℕ) → capacity (length t) ≤ x → x < capacity (length t) + 3 * k → get_or u x 0 ≡ get_or t x 0

module _ {k : ℕ} {t u : List ℕ} (s : Beneath k t u) where
  pub start_stays : (i : ℕ) → i < k → start_in u i ≡ start_in t i
  unfolding start_in record_at
  start_stays i h = rw (s.size, s.cells (capacity (length t) + 3 * i) (omega arith) (omega arith))

  pub length_stays : (i : ℕ) → i < k → length_in u i ≡ length_in t i
  unfolding length_in record_at
  length_stays i h = rw (s.size, s.cells (capacity (length t) + 3 * i + 1) (omega arith) (omega arith))

  link_stays : (i : ℕ) → i < k → link_of u i ≡ link_of t i
  unfolding link_of record_at
  link_stays i h = rw (s.size, s.cells (capacity (length t) + 3 * i + 2) (omega arith) (omega arith))

  module _ (key : ℕ → ℕ → ℕ) where
    key_stays : (i : ℕ) → i < k → key_in key u i ≡ key_in key t i
    unfolding key_in
    key_stays i h = rw (start_stays i h, length_stays i h)

    newest_stays : (b n : ℕ) → n ≤ k → newest (key_in key t) b n ≡ newest (key_in key u) b n
    newest_stays b n h = newest_same (key_in key t) (key_in key u) b n (λ i l. sym (key_stays i (omega arith)))

    -- a record that is in the table before and after
    older_link : (i : ℕ) → i < k → link_of t i ≡ newest (key_in key t) (key_in key t i) i → link_of u i ≡ newest (key_in key u) (key_in key u i) i
    older_link i h e =
        link_stays i h ∙ e ∙ newest_stays (key_in key t i) i (omega arith)
        ∙ ap (λ (b : ℕ). newest (key_in key u) b i) (sym (key_stays i h))

    module _ (b : ℕ) (others : (x : ℕ) → x < capacity (length t) → (x ≡ b → ⊥) → get_or u x 0 ≡ get_or t x 0) where
      -- one record more, in the bucket b
      chain_more : Chained key t k → k < capacity (length t) → b < capacity (length t) → b ≡ key_in key u k → get_or u b 0 ≡ suc k → link_of u k ≡ get_or t b 0
          → Chained key u (suc k)
      chain_more ch room inside e head link = record {
        fits = omega (arith, ap capacity s.size);
        heads = λ x h. headed x (omega (arith, ap capacity s.size)) (eqb x b) (eqb-true x b) (eqb-false x b);
        links = λ i h. linked i h (eqb i k) (eqb-true i k) (eqb-false i k);
      }
        where
          headed : (x : ℕ) → x < capacity (length t) → (d : Bool) → (d ≡ true → x ≡ b) → (d ≡ false → x ≡ b → ⊥) → get_or u x 0 ≡ newest (key_in key u) x (suc k)
          headed x h true y n = ap (λ (m : ℕ). get_or u m 0) (y refl) ∙ head ∙ sym (newest_here (key_in key u) x k (sym e ∙ sym (y refl)))
          headed x h false y n =
              others x h (n refl) ∙ ch.heads x h ∙ newest_stays x k (omega arith)
              ∙ sym (newest_other (key_in key u) x k (λ f. n refl (sym f ∙ sym e)))

          linked : (i : ℕ) → i < suc k → (d : Bool) → (d ≡ true → i ≡ k) → (d ≡ false → i ≡ k → ⊥) → link_of u i ≡ newest (key_in key u) (key_in key u i) i
          linked i h true y n =
              ap (link_of u) (y refl) ∙ link ∙ ch.heads b inside ∙ newest_stays b k (omega arith)
              ∙ ap (λ (m : ℕ). newest (key_in key u) m k) e
              ∙ ap (λ (m : ℕ). newest (key_in key u) (key_in key u m) m) (sym (y refl))
          linked i h false y n =
              let m = n refl in
              let l : i < k = omega arith in
              older_link i l (ch.links i l)

      -- one record less, that was in the bucket b
      pub chain_less : Chained key t (suc k) → b ≡ key_in key t k → get_or u b 0 ≡ link_of t k → Chained key u k
      chain_less ch e head = record {
        fits = omega (arith, ch.fits, ap capacity s.size);
        heads = λ x h. headed x (omega (arith, ap capacity s.size)) (eqb x b) (eqb-true x b) (eqb-false x b);
        links = λ i h. older_link i h (ch.links i (omega arith));
      }
        where
          headed : (x : ℕ) → x < capacity (length t) → (d : Bool) → (d ≡ true → x ≡ b) → (d ≡ false → x ≡ b → ⊥) → get_or u x 0 ≡ newest (key_in key u) x k
          headed x h true y n =
              ap (λ (m : ℕ). get_or u m 0) (y refl) ∙ head ∙ ch.links k (omega arith)
              ∙ ap (λ (m : ℕ). newest (key_in key t) m k) (sym e ∙ sym (y refl))
              ∙ newest_stays x k (omega arith)
          headed x h false y n =
              others x h (n refl) ∙ ch.heads x h
              ∙ newest_other (key_in key t) x k (λ f. n refl (sym f ∙ sym e))
              ∙ newest_stays x k (omega arith)

-- a bucket is stored to: records stay
pub head_stored : (n : ℕ) (t : List ℕ) (b v : ℕ) → b < capacity (length t) → Beneath n t (set t b v)
head_stored n t b v h = record { size = length-set t b v; cells = λ x l m. get_or-set_other t b x v 0 (λ e. omega arith) }

-- ---- a record is stored, and a bucket leads to it

abbrev Recorded : (t : List ℕ) (a start len : ℕ) → List ℕ
Recorded t a start len = set (set t a start) (a + 1) len

abbrev Linked : (t : List ℕ) (a start len b : ℕ) → List ℕ
Linked t a start len b = set (Recorded t a start len) (a + 2) (get_or (Recorded t a start len) b 0)

abbrev Added : (t : List ℕ) (a start len b k : ℕ) → List ℕ
Added t a start len b k = set (Linked t a start len b) b (k + 1)

module _ (t : List ℕ) (a start len b k : ℕ) (ea : a ≡ capacity (length t) + 3 * k) (room : k < capacity (length t)) (inside : b < capacity (length t)) where
  added_size : length (Added t a start len b k) ≡ length t
  added_size = simp length-set

  -- where the new record begins
  added_at : record_at (Added t a start len b k) k ≡ a
  unfolding record_at
  added_at = omega (arith, ap capacity added_size)

  recorded_else : (x : ℕ) → (x ≡ a → ⊥) → (x ≡ a + 1 → ⊥) → get_or (Recorded t a start len) x 0 ≡ get_or t x 0
  recorded_else x n m = get_or-set_other (set t a start) (a + 1) x len 0 m ∙ get_or-set_other t a x start 0 n

  added_record : (x : ℕ) → (x ≡ a + 2 → ⊥) → (x ≡ b → ⊥) → get_or (Added t a start len b k) x 0 ≡ get_or (Recorded t a start len) x 0
  added_record x n m =
      get_or-set_other (Linked t a start len b) b x (k + 1) 0 m
      ∙ get_or-set_other (Recorded t a start len) (a + 2) x (get_or (Recorded t a start len) b 0) 0 n

  added_start : start_in (Added t a start len b k) k ≡ start
  unfolding start_in
  added_start =
      ap (λ (x : ℕ). get_or (Added t a start len b k) x 0) added_at
      ∙ added_record a (λ e. omega arith) (λ e. omega arith)
      ∙ get_or-set_other (set t a start) (a + 1) a len 0 (λ e. omega arith)
      ∙ get_or-set_same t a start 0 (omega (arith, capacity_fits (length t)))

  added_length : length_in (Added t a start len b k) k ≡ len
  unfolding length_in
  added_length =
      ap (λ (x : ℕ). get_or (Added t a start len b k) (x + 1) 0) added_at
      ∙ added_record (a + 1) (λ e. omega arith) (λ e. omega arith)
      ∙ get_or-set_same (set t a start) (a + 1) len 0 (simp length-set (omega (arith, capacity_fits (length t))))

  added_link : link_of (Added t a start len b k) k ≡ get_or t b 0
  unfolding link_of
  added_link =
      ap (λ (x : ℕ). get_or (Added t a start len b k) (x + 2) 0) added_at
      ∙ get_or-set_other (Linked t a start len b) b (a + 2) (k + 1) 0 (λ e. omega arith)
      ∙ get_or-set_same (Recorded t a start len) (a + 2) (get_or (Recorded t a start len) b 0) 0 (simp length-set (omega (arith, capacity_fits (length t))))
      ∙ recorded_else b (λ e. omega arith) (λ e. omega arith)

  added_head : get_or (Added t a start len b k) b 0 ≡ suc k
  added_head = get_or-set_same (Linked t a start len b) b (k + 1) 0 (simp length-set (omega (arith, capacity_fits (length t)))) ∙ add-one k

  added_else : (x : ℕ) → (x ≡ b → ⊥) → x < a → get_or (Added t a start len b k) x 0 ≡ get_or t x 0
  added_else x n h = added_record x (λ e. omega arith) n ∙ recorded_else x (λ e. omega arith) (λ e. omega arith)

  added_beneath : Beneath k t (Added t a start len b k)
  added_beneath = record { size = added_size; cells = λ x l m. added_else x (λ e. omega arith) (omega arith) }

  pub added_put : Put k b start len t (Added t a start len b k)
  unfolding key_in
  added_put = record {
    size = added_size;
    started = added_start;
    measured = added_length;
    starts = start_stays added_beneath;
    lengths = length_stays added_beneath;
    chained = λ key e ch. chain_more added_beneath key b (λ x h n. added_else x n (omega arith)) ch room inside
        (sym e ∙ ap (λ (n : ℕ). key n len) (sym added_start) ∙ ap (key (start_in (Added t a start len b k) k)) (sym added_length))
        added_head added_link;
  }

-- ---- a search along a chain: what the first `i` records say is the whole answer, and the last of them is in the bucket

pub record Following {A : Type 0} (key : ℕ → ℕ → ℕ) (table : List ℕ) (used b : ℕ) (answer : ℕ → A) (i : ℕ) : Type 0 where
  pub few : i ≤ used
  pub fellow : (j : ℕ) → i ≡ suc j → key_in key table j ≡ b
  pub rest : answer i ≡ answer used

-- records of other buckets add nothing to the answer; c is the capacity
module _ {A : Type 0} {key : ℕ → ℕ → ℕ} {table : List ℕ} {used : ℕ} (ch : Chained key table used) (b : ℕ) (answer : ℕ → A)
    (skips : (k : ℕ) → (key_in key table k ≡ b → ⊥) → answer (suc k) ≡ answer k) {c : ℕ} (ec : c ≡ capacity (length table)) where
  follow_from : (k i : ℕ) → k ≤ used → i ≡ newest (key_in key table) b k → answer k ≡ answer used → Following key table used b answer i
  follow_from k i h e r = record {
    few = omega (arith, newest_le (key_in key table) b k);
    fellow = λ j q. newest_in (key_in key table) b k j (sym e ∙ q);
    rest = ap answer e ∙ sym (newest_tells (key_in key table) b answer skips k) ∙ r;
  }

  pub follow_start : b < c → {i : ℕ} → i ≡ get_or table b 0 → Following key table used b answer i
  follow_start h {i} e = follow_from used i (omega arith) (e ∙ ch.heads b (omega arith)) refl

  -- v is the link of the last record
  module _ {i : ℕ} (q : Following key table used b answer i) (h : 0 < i) {v : ℕ} (ev : v ≡ get_or table (c + 3 * (i - 1) + 2) 0) where
    link_newest : v ≡ newest (key_in key table) b (i - 1)
    unfolding link_of record_at
    link_newest =
        ev
        ∙ ap (λ (m : ℕ). get_or table (m + 3 * (i - 1) + 2) 0) ec
        ∙ ch.links (i - 1) (omega (arith, q.few))
        ∙ ap (λ (x : ℕ). newest (key_in key table) x (i - 1)) (q.fellow (i - 1) (omega arith))

    pub follow_less : v < i
    follow_less = let e = link_newest in omega (arith, newest_le (key_in key table) b (i - 1))

    pub follow_next : answer i ≡ answer (i - 1) → Following key table used b answer v
    follow_next e = follow_from (i - 1) v (omega (arith, q.few)) link_newest (sym e ∙ q.rest)
