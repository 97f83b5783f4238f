-- The table of names with one record more and one less: what a store leaves.
use Rattle.std.specs.Prelude.{Ok, Err}
use Prim.Native.Nat.{ℕ, suc, ◌+◌, ◌-◌, ◌*◌, ◌≤◌, ◌<◌}
use native.Mathlib.Omega.{arith}
use mathlib.Core.Path.{◌≡◌, refl, sym, ap, subst, ◌∙◌}
use mathlib.Core.List.{List, ◌∷◌}
use lib.ListN.{length, get_or, set, length-set}
use lib.Seq.{get_or-set_same, get_or-set_other}
use Rattle.varint.specs.Bytes.{Bytes, part}
use Rattle.index.specs.Bucket.{bucket}
use Rattle.index.specs.Table.{capacity, record_at, start_in, length_in, link_of, name_of, names_in, key_in, by_name, Chained, Put, Indexed, Stays, pushing}
use Rattle.index.proofs.BucketLaws.{bucket_below}
use Rattle.index.proofs.ChainLaws.{capacity_fits, start_stays, length_stays, chain_less, head_stored}
use Rattle.index.proofs.TableLaws.{names_same}

-- a name goes by its cells
name_by : (model : Bytes) (t u : List ℕ) (i : ℕ) → start_in u i ≡ start_in t i → length_in u i ≡ length_in t i → name_of model u i ≡ name_of model t i
unfolding name_of
name_by model t u i e f = rw (e, f)

-- a table of the same size has as many buckets
indexed_sized : (model : Bytes) (seed : ℕ) (t : List ℕ) {u : List ℕ} {n : ℕ} → length u ≡ length t → Chained (by_name model seed (capacity (length t))) u n → Indexed model seed u n
indexed_sized model seed t {u} {n} e ch = subst (λ (m : ℕ). Chained (by_name model seed (capacity m)) u n) (sym e) ch

pub stays_all : (model : Bytes) (n : ℕ) (t : List ℕ) → Stays model n t t
stays_all model n t = record { size = refl; names = refl }

pub stays_then : {model : Bytes} {n : ℕ} {t u v : List ℕ} → Stays model n t u → Stays model n u v → Stays model n t v
stays_then k l = record { size = l.size ∙ k.size; names = l.names ∙ k.names }

-- ---- one record less: c is the capacity, x the name of the last record, b its bucket

module _ (model : Bytes) (seed : ℕ) {t : List ℕ} {i : ℕ} (ix : Indexed model seed t i) (h : 0 < i) {c : ℕ} (ec : c ≡ capacity (length t))
    {x : Bytes} (ex : x ≡ name_of model t (i - 1)) {b : ℕ} (eb : b ≡ bucket seed c x) where
  pop_inside : b < capacity (length t)
  pop_inside = let l : i - 1 < c = omega (arith, ix.fits) in omega (arith, bucket_below seed l x eb)

  pop_stays : (n : ℕ) (v : ℕ) → Stays model n t (set t b v)
  pop_stays n v =
      let s = head_stored n t b v pop_inside in
      record { size = length-set t b v; names = names_same model (set t b v) t n (λ j l. name_by model t (set t b v) j (start_stays s j l) (length_stays s j l)) }

  pop_indexed : Indexed model seed (set t b (get_or t (c + 3 * (i - 1) + 2) 0)) (i - 1)
  unfolding key_in name_of link_of record_at
  pop_indexed =
      let v = get_or t (c + 3 * (i - 1) + 2) 0 in
      let e : i ≡ suc (i - 1) = omega arith in
      indexed_sized model seed t (length-set t b v) (chain_less (head_stored (i - 1) t b v pop_inside) (by_name model seed (capacity (length t))) b
      (λ y m n. get_or-set_other t b y v 0 n)
      (rw e at ix)
      (eb ∙ ap (λ (m : ℕ). bucket seed m x) ec ∙ ap (bucket seed (capacity (length t))) ex)
      (get_or-set_same t b v 0 (omega (arith, pop_inside, capacity_fits (length t))) ∙ ap (λ (m : ℕ). get_or t (m + 3 * (i - 1) + 2) 0) ec))

-- the loop that pops: t is the table before it, u as it is now, with i names left
pub record Popping (model : Bytes) (seed : ℕ) (used count : ℕ) (t u : List ℕ) (i : ℕ) : Type 0 where
  pub above : count ≤ i
  pub fits : i ≤ capacity (length t)
  pub index : Indexed model seed u i
  pub stays : Stays model used t u

pub popping_start : {model : Bytes} {seed used count : ℕ} {t : List ℕ} → Indexed model seed t used → count ≤ used → Popping model seed used count t t used
popping_start {model} {t = t} ix h = record { above = h; fits = ix.fits; index = ix; stays = stays_all model _ t }

module _ {model : Bytes} {seed used count : ℕ} {t u : List ℕ} {i : ℕ} (q : Popping model seed used count t u i) {c : ℕ} (ec : c ≡ capacity (length t)) where
  popping_size : c ≡ capacity (length u)
  popping_size = ec ∙ ap capacity (sym q.stays.size)

  pub popping_next : count < i → {x : Bytes} → x ≡ name_of model u (i - 1) → {b : ℕ} → b ≡ bucket seed c x
      → Popping model seed used count t (set u b (get_or u (c + 3 * (i - 1) + 2) 0)) (i - 1)
  popping_next h {x} ex {b} eb = record {
    above = omega arith;
    fits = omega arith;
    index = pop_indexed model seed q.index (omega arith) popping_size ex eb;
    stays = stays_then q.stays (pop_stays model seed q.index (omega arith) popping_size ex eb used (get_or u (c + 3 * (i - 1) + 2) 0));
  }

pub popping_end : {model : Bytes} {seed used count : ℕ} {t u : List ℕ} {i : ℕ} → Popping model seed used count t u i → i ≤ count → Indexed model seed u count × Stays model used t u
popping_end {count = count} {i = i} q h = let e : i ≡ count = omega (arith, q.above) in (rw e at q.index, q.stays)

-- ---- one record more: c is the capacity, x the new name, b its bucket

module _ (model : Bytes) (seed : ℕ) {t u : List ℕ} {k : ℕ} (ix : Indexed model seed t k) {c : ℕ} (ec : c ≡ capacity (length t))
    (start len : ℕ) {x : Bytes} (ex : x ≡ part start (start + len - start) model) {b : ℕ} (eb : b ≡ bucket seed c x) (p : Put k b start len t u) where
  push_older : names_in model u k ≡ names_in model t k
  push_older = names_same model u t k (λ i h. name_by model t u i (p.starts i h) (p.lengths i h))

  push_new : name_of model u k ≡ part start len model
  unfolding name_of
  push_new = rw (p.started, p.measured)

  pub push_added : pushing model seed start len k t u (Ok tt) × Stays model k t u
  unfolding pushing names_in
  push_added =
      let q : start + len - start ≡ len = omega arith in
      let e : bucket seed (capacity (length t)) (part start len model) ≡ b =
      sym (eb ∙ ap (λ (n : ℕ). bucket seed n x) ec ∙ ap (bucket seed (capacity (length t))) (ex ∙ ap (λ (n : ℕ). part start n model) q)) in (
        (
          indexed_sized model seed t p.size (p.chained (by_name model seed (capacity (length t))) e ix),
          ap (λ (n : Bytes). n ∷ names_in model u k) push_new ∙ ap (λ (l : List Bytes). part start len model ∷ l) push_older,
        ),
        record { size = p.size; names = push_older },
      )

pub push_full : (model : Bytes) (seed : ℕ) {t : List ℕ} {k : ℕ} (ix : Indexed model seed t k) {c : ℕ} (start len : ℕ)
    → c ≡ capacity (length t) → c ≤ k
    → pushing model seed start len k t t (Err (record {})) × Stays model k t t
unfolding pushing
push_full model seed {t} {k} ix start len ec h = ((omega (arith, ix.fits), refl), stays_all model k t)
