-- What the answers of this crate say: a listing with a tally, and so many names more.
use Rattle.std.specs.Prelude.{Err, Ok}
use Rattle.varint.specs.Answers.{Answer}
use Prim.Native.Nat.{ℕ, ◌+◌, ◌^◌, ◌≤◌, ◌<◌}
use native.Mathlib.Omega.{arith}
use mathlib.Core.Path.{◌≡◌, refl, sym, ap, subst, ◌∙◌}
use mathlib.Core.List.{List}
use Rattle.varint.specs.Outcome.{pass, fail, Judged}
use Rattle.varint.specs.Bytes.{Bytes}
use Rattle.varint.specs.declared.Refusal.{Refusal}
use Rattle.varint.proofs.Answers.{says}
use Rattle.rules.specs.Walk.{Walk}
use Rattle.index.specs.Listing.{Listed}
use Rattle.index.specs.declared.listings.Listing.{Listing}
use Rattle.values.specs.Answers.{more, tally_says}
use Rattle.values.proofs.TallyLaws.{more_more}
use Rattle.signatures.specs.Signature.{attributes_says, counting, Room, lists_all}

-- ---- an answer whose variant is known

module _ {r : Answer (Listing × ℕ)} where
  -- a refusal lists nothing
  pub refused_none : {x : Refusal} → r ≡ Err x → (model : Bytes) (seed : ℕ) (cells : List ℕ) (names : List Bytes) (most : ℕ)
      → lists_all model seed cells names most r
  unfolding lists_all
  refused_none k model seed cells names most = rw k tt

  -- it says what the tally says that was refused
  pub refused_as : {x : Refusal} → r ≡ Err x → {t : Answer ℕ} → t ≡ Err x → (w : Walk) → attributes_says w r ≡ tally_says w t
  unfolding attributes_says tally_says
  refused_as k e w = ap (attributes_says w) k ∙ sym (ap (tally_says w) e)

  module _ (w : Walk) {o : Judged Walk} (e : attributes_says w r ≡ o) where
    pub said_listed : {l : Listing} {k : ℕ} → r ≡ Ok (l, k) → o ≡ pass (more w k)
    unfolding attributes_says
    said_listed k = sym (says (attributes_says w) e k)

    pub said_refused : {x : Refusal} → r ≡ Err x → o ≡ fail x
    unfolding attributes_says
    said_refused k = sym (says (attributes_says w) e k)

  module _ (model : Bytes) (seed : ℕ) (cells : List ℕ) (names : List Bytes) (most : ℕ) (d : lists_all model seed cells names most r)
      {l : Listing} {k : ℕ} (i : r ≡ Ok (l, k)) where
    pub told_listed : Listed model seed cells l names
    unfolding lists_all
    told_listed = (subst (lists_all model seed cells names most) i d).0

    pub told_few : k ≤ most
    unfolding lists_all
    told_few = (subst (lists_all model seed cells names most) i d).1

-- ---- so many more

counting_says : (w : Walk) (k : ℕ) (a : Answer (Listing × ℕ)) → attributes_says w (counting k a) ≡ attributes_says (more w k) a
unfolding counting attributes_says
counting_says w k (Ok (l, n)) = ap pass (sym (more_more w k n))
counting_says w k (Err r) = refl

module _ (k : ℕ) {r : Answer (Listing × ℕ)} (a : Answer (Listing × ℕ)) (e : r ≡ counting k a) where
  pub counting_as : (w : Walk) → attributes_says w r ≡ attributes_says (more w k) a
  counting_as w = ap (attributes_says w) e ∙ counting_says w k a

  pub counting_lists : {n : ℕ} → k ≤ n → (model : Bytes) (seed : ℕ) (cells : List ℕ) (names : List Bytes) (most : ℕ)
      → lists_all model seed cells names most a
      → lists_all model seed cells names (n + most) r
  unfolding counting lists_all
  counting_lists {n} h model seed cells names most d = rw e (go a d)
    where
      go : (a : Answer (Listing × ℕ)) → lists_all model seed cells names most a → lists_all model seed cells names (n + most) (counting k a)
      go (Ok (l, m)) d = (d.0, let few = d.1 in omega arith)
      go (Err x) d = tt

-- there is room in 64 bits
pub room : (k : ℕ) (a : Answer (Listing × ℕ)) {n : ℕ} → k ≤ n → (model : Bytes) (seed : ℕ) (cells : List ℕ) (names : List Bytes) (most : ℕ)
    → lists_all model seed cells names most a → n + most < 2 ^ 64
    → Room k a
unfolding Room lists_all
room k (Ok (l, m)) h model seed cells names most d s = let few = d.1 in omega arith
room k (Err x) h model seed cells names most d s = tt
