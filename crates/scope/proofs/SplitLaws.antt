-- The extra cells in two parts, each lent alone: the first `split` of them, and the others.
use Prim.Native.Nat.{ℕ, ◌-◌, ◌≤◌}
use native.Mathlib.Omega.{arith}
use mathlib.Core.Path.{◌≡◌, sym, ap, subst, ◌∙◌}
use mathlib.Core.List.{List, ◌++◌, append-nil}
use lib.ListN.{length, take, drop, length-append, length-drop, drop_of_length-le}
use lib.Seq.{length-take-le, take_all, take-append_seam, drop-append_seam}
use borrow.Rule.Slice.PartMut.{put_mid}
use Rattle.wire.specs.declared.Field.{Field}
use Rattle.varint.specs.Bytes.{Bytes}
use Rattle.wire.specs.Message.{text}
use Rattle.index.specs.Memory.{Remembered}
use Rattle.index.specs.Listing.{Added, Held}
use Rattle.index.specs.declared.listings.Listing.{Listing}
use Rattle.scope.specs.Recall.{RememberedOn, AddedOn, HeldOn}
use Rattle.scope.specs.declared.remembered.Index.{Index}

-- the others, as they are lent
pub others_lent : (split : ℕ) (extra : List ℕ) → take (length extra - split) (drop split extra) ≡ drop split extra
others_lent split extra = take_all (length extra - split) (drop split extra) (omega (arith, length-drop split extra))

-- a list in two parts, the first of this length
pub take_first : {n : ℕ} (a b : List ℕ) → length a ≡ n → take n (a ++ b) ≡ a
take_first a b e = ap (λ (k : ℕ). take k (a ++ b)) (sym e) ∙ take-append_seam a b

pub drop_first : {n : ℕ} (a b : List ℕ) → length a ≡ n → drop n (a ++ b) ≡ b
drop_first a b e = ap (λ (k : ℕ). drop k (a ++ b)) (sym e) ∙ drop-append_seam a b

pub put_others : (split : ℕ) (extra new : List ℕ) → put_mid split (length extra - split) extra new ≡ take split extra ++ new
put_others split extra new =
    ap (λ (l : List ℕ). take split extra ++ l)
    (ap (λ (l : List ℕ). new ++ l) (drop_of_length-le (drop split extra) {i = length extra - split} (omega (arith, length-drop split extra)))
    ∙ append-nil new)

module _ {model : Bytes} (ix : Index) {extra : List ℕ} (h : ix.split ≤ length extra) where
  pub remembered_on : {place : ℕ} {name : Field} {new : List ℕ} → Remembered model ix.seed place (text model name) (take ix.split extra) new
      → RememberedOn model ix place name extra (new ++ drop ix.split extra)
  remembered_on {place} {name} {new} r =
      let size : length new ≡ ix.split = r.size ∙ length-take-le ix.split extra h in
      record {
        size = length-append new (drop ix.split extra) ∙ omega (arith, size, length-drop ix.split extra);
        names = subst (Remembered model ix.seed place (text model name) (take ix.split extra)) (sym (take_first new (drop ix.split extra) size)) r;
        lists = drop_first new (drop ix.split extra) size;
      }

  pub added_on : {l : Listing} {name : Bytes} {new : List ℕ} {r : Listing}
      → Added model ix.seed l name (take (length extra - ix.split) (drop ix.split extra)) new r
      → AddedOn model ix l name extra (put_mid ix.split (length extra - ix.split) extra new) r
  added_on {l} {name} {new} {r} a =
      let first = length-take-le ix.split extra h in
      let b : Added model ix.seed l name (drop ix.split extra) new r = rw (others_lent ix.split extra) at a in
      rw (put_others ix.split extra new) (record {
        size = length-append (take ix.split extra) new ∙ omega (arith, first, b.held.size, length-drop ix.split extra);
        names = take_first (take ix.split extra) new first;
        lists = subst (λ (x : List ℕ). Added model ix.seed l name (drop ix.split extra) x r) (sym (drop_first (take ix.split extra) new first)) b;
      })

  pub held_on : {new : List ℕ} → Held model ix.seed 0 (take (length extra - ix.split) (drop ix.split extra)) new
      → HeldOn model ix extra (put_mid ix.split (length extra - ix.split) extra new)
  held_on {new} k =
      let first = length-take-le ix.split extra h in
      let b : Held model ix.seed 0 (drop ix.split extra) new = rw (others_lent ix.split extra) at k in
      rw (put_others ix.split extra new) (record {
        size = length-append (take ix.split extra) new ∙ omega (arith, first, b.size, length-drop ix.split extra);
        names = take_first (take ix.split extra) new first;
        lists = subst (λ (x : List ℕ). Held model ix.seed 0 (drop ix.split extra) x) (sym (drop_first (take ix.split extra) new first)) b;
      })

-- what was put in their place
pub others_put : (split : ℕ) (extra new : List ℕ) → split ≤ length extra → drop split (put_mid split (length extra - split) extra new) ≡ new
others_put split extra new h = ap (drop split) (put_others split extra new) ∙ drop_first (take split extra) new (length-take-le split extra h)
