-- Functions in a table: the records of a bucket, all records, one more.
use Rattle.std.specs.Prelude.{Option, Some, None, is_some}
use Prim.Native.Nat.{ℕ, suc, ◌+◌, ◌-◌, ◌*◌, ◌≤◌, ◌<◌}
use native.Mathlib.Omega.{arith}
use native.Mathlib.Numerals.{add-one}
use mathlib.Core.Path.{◌≡◌, refl, sym, ap, subst, ◌∙◌}
use mathlib.Core.Bool.{Bool, true, false, ◌||◌}
use mathlib.Core.List.{List, [], ◌∷◌, ◌++◌, map}
use lib.ListN.{length, get_or, replicate, length-append}
use lib.Dec.{T}
use borrow.Author.Tests.{lt-ltb, le-ltb}
use Rattle.varint.specs.Bytes.{Bytes}
use Rattle.varint.proofs.Lists.{or_shift, or_false}
use Rattle.wire.specs.declared.Field.{Field}
use Rattle.rules.specs.Identity.{Identity, same_identity, identified}
use Rattle.index.specs.Bucket.{bucket3}
use Rattle.index.specs.Table.{capacity, record_at, start_in, length_in, key_in, Chained, Put}
use Rattle.index.proofs.ChainLaws.{Following, follow_start, follow_less, follow_next, chained_none}
use Rattle.identities.specs.Functions.{identity_by, identity_in}
use Rattle.identities.specs.Identified.{holding, function_in, identities_in, bucket_of, by_identity, Recorded, HasAll, Identified, has_room, Added}
use Rattle.identities.proofs.FunctionLaws.{identity_holding, identity_differ}

-- ---- a record, read where the code reads it: c is the capacity, s the start, n the length

pub function_read : (table : List ℕ) (i : ℕ) {c s n : ℕ} → c ≡ capacity (length table) → s ≡ get_or table (c + 3 * i) 0 → n ≡ get_or table (c + 3 * i + 1) 0
    → holding s n ≡ function_in table i
unfolding function_in start_in length_in record_at
function_read table i {c} {s} {n} k e f =
    ap (λ (m : ℕ). holding m n) (e ∙ ap (λ (m : ℕ). get_or table (m + 3 * i) 0) k)
    ∙ ap (holding (get_or table (capacity (length table) + 3 * i) 0)) (f ∙ ap (λ (m : ℕ). get_or table (m + 3 * i + 1) 0) k)

-- ---- along the chain of the bucket of x

module _ (model : Bytes) (seed version : ℕ) (table : List ℕ) (x : Identity) where
  abbrev Key : ℕ → ℕ → ℕ
  Key = by_identity model seed version (capacity (length table))

  abbrev Mine : ℕ
  Mine = bucket_of seed (capacity (length table)) x

  abbrev Among : ℕ → Bool
  Among k = identified x (identities_in model version table k)

  -- a record of another function
  pass_over : (k : ℕ) → same_identity x (identity_in model version (function_in table k)) ≡ false → Among (suc k) ≡ Among k
  unfolding identified identities_in
  pass_over k e = ap (λ (b : Bool). b || Among k) e

  -- records in other buckets are of other functions
  search_skip : (k : ℕ) → (key_in Key table k ≡ Mine → ⊥) → Among (suc k) ≡ Among k
  unfolding key_in by_identity function_in
  search_skip k n = pass_over k (identity_differ x (identity_in model version (function_in table k)) (λ e. n (ap (bucket_of seed (capacity (length table))) (sym e))))

pub record Searching (model : Bytes) (seed version : ℕ) (table : List ℕ) (used : ℕ) (x : Identity) (i : ℕ) : Type 0 where
  pub along : Following (Key model seed version table x) table used (Mine model seed version table x) (Among model seed version table x) i

module _ {model : Bytes} {seed version : ℕ} {table : List ℕ} {used : ℕ} (ch : Chained (by_identity model seed version (capacity (length table))) table used)
    {c : ℕ} (ec : c ≡ capacity (length table)) where
  pub search_start : (n d o : Bytes) {b i : ℕ} → b ≡ bucket3 seed c n d o → b < c → i ≡ get_or table b 0 → Searching model seed version table used (identity_by n d o) i
  unfolding bucket_of
  search_start n d o {b} {i} e h f =
      let x = identity_by n d o in
      let mine : b ≡ bucket3 seed (capacity (length table)) n d o = e ∙ ap (λ (m : ℕ). bucket3 seed m n d o) ec in
      record {
        along = follow_start ch (Mine model seed version table x) (Among model seed version table x) (search_skip model seed version table x) ec
            (omega arith) (f ∙ ap (λ (m : ℕ). get_or table m 0) mine);
      }

  -- v is the link of the last record
  module _ {x : Identity} {i : ℕ} (q : Searching model seed version table used x i) (h : 0 < i) {v : ℕ} (ev : v ≡ get_or table (c + 3 * (i - 1) + 2) 0) where
    pub search_less : v < i
    search_less = follow_less ch (Mine model seed version table x) (Among model seed version table x) (search_skip model seed version table x) ec q.along h ev

    pub search_next : {f : Field} → f ≡ function_in table (i - 1) → {t : Bool} → t ≡ same_identity x (identity_in model version f) → t ≡ false
        → Searching model seed version table used x v
    search_next ef et e =
        let r : i ≡ suc (i - 1) = omega arith in
        record {
          along = follow_next ch (Mine model seed version table x) (Among model seed version table x) (search_skip model seed version table x) ec q.along h ev
              (ap (Among model seed version table x) r
              ∙ pass_over model seed version table x (i - 1) (ap (λ (f : Field). same_identity x (identity_in model version f)) (sym ef) ∙ sym et ∙ e));
        }

module _ {model : Bytes} {seed version : ℕ} {table : List ℕ} {used : ℕ} {x : Identity} {i : ℕ} (q : Searching model seed version table used x i) where
  pub search_here : 0 < i → {f : Field} → f ≡ function_in table (i - 1) → {t : Bool} → t ≡ same_identity x (identity_in model version f) → t ≡ true
      → true ≡ identified x (identities_in model version table used)
  unfolding identified identities_in
  search_here h ef et e =
      let r : suc (i - 1) ≡ i = omega arith in
      ap (λ (b : Bool). b || Among model seed version table x (i - 1)) (sym e ∙ et ∙ ap (λ (f : Field). same_identity x (identity_in model version f)) ef)
      ∙ ap (Among model seed version table x) r
      ∙ q.along.rest

  pub search_end : i ≤ 0 → false ≡ identified x (identities_in model version table used)
  unfolding identified identities_in
  search_end h = let e : 0 ≡ i = omega arith in ap (Among model seed version table x) e ∙ q.along.rest

pub search_none : (model : Bytes) (version : ℕ) (table : List ℕ) (used : ℕ) (x : Identity) → used ≡ 0 → false ≡ identified x (identities_in model version table used)
unfolding identified identities_in
search_none model version table used x e = sym (rw e)

-- ---- all records

-- a record with the start and the length of a function's contents is of that function
record_of : (model : Bytes) (version : ℕ) (table : List ℕ) (i : ℕ) (f : Field) → start_in table i ≡ f.start → length_in table i ≡ f.next - f.start
    → identity_in model version (function_in table i) ≡ identity_in model version f
unfolding function_in
record_of model version table i f e k = identity_holding model version f e k

records_tell : (model : Bytes) (version : ℕ) (table : List ℕ) (x : Identity) (i : ℕ) (fs : List Field) → Recorded table i fs
    → identified x (identities_in model version table (i + length fs)) ≡ (identified x (map (identity_in model version) fs) || identified x (identities_in model version table i))
unfolding identified identities_in
records_tell model version table x i [] k = let e : i + 0 ≡ i = omega arith in ap (λ (n : ℕ). identified x (identities_in model version table n)) e
records_tell model version table x i (f ∷ fs) k =
    let e : i + suc (length fs) ≡ suc i + length fs = omega arith in
    ap (λ (n : ℕ). identified x (identities_in model version table n)) e
    ∙ records_tell model version table x (suc i) fs k.2
    ∙ ap (λ (y : Identity). identified x (map (identity_in model version) fs) || (same_identity x y || identified x (identities_in model version table i)))
    (record_of model version table i f k.0 k.1)
    ∙ or_shift (identified x (map (identity_in model version) fs)) (same_identity x (identity_in model version f)) (identified x (identities_in model version table i))

-- where it is known how many they are
pub has_all : {model : Bytes} {seed version : ℕ} {table : List ℕ} {known : Option ℕ} {fs : List Field} → Identified model seed version table known fs
    → {count : ℕ} → known ≡ Some count → HasAll model seed version table count fs
unfolding Identified
has_all {model} {seed} {version} {table} {known} {fs} k w = subst (λ (o : Option ℕ). Identified model seed version table o fs) w k

-- a table that has all tells whether a function is one of them
pub all_tell : {model : Bytes} {seed version : ℕ} {table : List ℕ} {count : ℕ} {fs : List Field} → HasAll model seed version table count fs
    → {x y : Identity} → x ≡ y → {b : Bool}
    → b ≡ identified x (identities_in model version table count)
    → b ≡ identified y (map (identity_in model version) fs)
unfolding identified identities_in
all_tell {model} {seed} {version} {table} {count} {fs} k {x} {y} e eb =
    let n : count ≡ 0 + length fs = omega (arith, k.counted) in
    eb
    ∙ ap (λ (m : ℕ). identified x (identities_in model version table m)) n
    ∙ records_tell model version table x 0 fs k.recorded
    ∙ or_false (identified x (map (identity_in model version) fs))
    ∙ ap (λ (z : Identity). identified z (map (identity_in model version) fs)) e

-- ---- one function more

never_none : {n : ℕ} → Some n ≡ None → ⊥
never_none e = subst T (ap is_some e) tt

recorded_more : (t u : List ℕ) (i : ℕ) (fs : List Field) (f : Field) → Recorded t i fs
    → ((j : ℕ) → j < i + length fs → start_in u j ≡ start_in t j) → ((j : ℕ) → j < i + length fs → length_in u j ≡ length_in t j)
    → start_in u (i + length fs) ≡ f.start → length_in u (i + length fs) ≡ f.next - f.start
    → Recorded u i (fs ++ (f ∷ []))
recorded_more t u i [] f k s l e h = let z : i ≡ i + 0 = omega arith in (ap (start_in u) z ∙ e, ap (length_in u) z ∙ h, tt)
recorded_more t u i (g ∷ fs) f k s l e h =
    let z : suc i + length fs ≡ i + suc (length fs) = omega arith in (
      s i (omega arith) ∙ k.0,
      l i (omega arith) ∙ k.1,
      recorded_more t u (suc i) fs f k.2 (λ j m. s j (omega arith)) (λ j m. l j (omega arith)) (ap (start_in u) z ∙ e) (ap (length_in u) z ∙ h),
    )

module _ (model : Bytes) (seed version : ℕ) (known : Option ℕ) (f : Field) {t : List ℕ} where
  pub added_none : known ≡ None → Added model seed version known f t t None
  unfolding Identified has_room
  added_none e = record {
    size = refl;
    whole = sym (ap (λ (k : Option ℕ). has_room k (capacity (length t))) e);
    alone = λ _. refl;
    identified = λ fs k. tt;
  }

  module _ {used : ℕ} (w : known ≡ Some used) {c : ℕ} (ec : c ≡ capacity (length t)) where
    pub added_full : c ≤ used → Added model seed version known f t t None
    unfolding Identified has_room
    added_full h = record {
      size = refl;
      whole = sym (ap (λ (k : Option ℕ). has_room k (capacity (length t))) w ∙ le-ltb used (capacity (length t)) (omega arith));
      alone = λ _. refl;
      identified = λ fs k. tt;
    }

    -- b is the bucket of the function
    pub added_more : used < c → {n d o : Bytes} → identity_by n d o ≡ identity_in model version f → {b : ℕ} → b ≡ bucket3 seed c n d o
        → {u : List ℕ} → Put used b f.start (f.next - f.start) t u
        → Added model seed version known f t u (Some (used + 1))
    unfolding by_identity bucket_of Identified has_room
    added_more room {n} {d} {o} ei {b} eb {u} p = record {
      size = p.size;
      whole = sym (ap (λ (k : Option ℕ). has_room k (capacity (length t))) w ∙ lt-ltb used (capacity (length t)) (omega arith));
      alone = λ e. absurd (never_none e);
      identified = λ fs k. let all = has_all k w in let z : used ≡ 0 + length fs = omega (arith, all.counted) in record {
        chained = rw add-one (subst (λ (m : ℕ). Chained (by_identity model seed version (capacity m)) u (suc used)) (sym p.size)
            (p.chained (by_identity model seed version (capacity (length t))) in_bucket all.chained));
        counted = omega (arith, length-append fs (f ∷ []));
        recorded = recorded_more t u 0 fs f all.recorded (λ j l. p.starts j (omega arith)) (λ j l. p.lengths j (omega arith))
            (ap (start_in u) (sym z) ∙ p.started) (ap (length_in u) (sym z) ∙ p.measured);
      };
    }
      where
        in_bucket : by_identity model seed version (capacity (length t)) f.start (f.next - f.start) ≡ b
        in_bucket =
            ap (bucket_of seed (capacity (length t))) (identity_holding model version f refl refl ∙ sym ei)
            ∙ ap (λ (m : ℕ). bucket3 seed m n d o) (sym ec)
            ∙ sym eb

-- ---- no functions yet

-- a table of zeros holds none
pub identified_none : (model : Bytes) (seed version n : ℕ) → Identified model seed version (replicate n 0) (Some 0) []
unfolding Identified
identified_none model seed version n = record {
  chained = chained_none (by_identity model seed version (capacity (length {A = ℕ} (replicate n 0)))) n;
  counted = refl;
  recorded = tt;
}
