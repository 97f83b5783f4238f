-- The extra cells in two parts at `last`, each lent alone.
use Rattle.headers.specs.declared.imports.Imports.{Imports}
use Rattle.varint.specs.Answers.{Answer}
use Rattle.std.specs.Prelude.{Option}
use Prim.Native.Nat.{ℕ, ◌-◌, ◌≤◌}
use native.Mathlib.Omega.{arith}
use mathlib.Core.Path.{◌≡◌, sym, ap, subst, ◌∙◌}
use mathlib.Core.List.{List, ◌++◌}
use lib.ListN.{length, take, drop, length-append, length-drop}
use lib.Seq.{length-take-le}
use borrow.Rule.Slice.PartMut.{put_mid}
use Rattle.varint.specs.Bytes.{Bytes}
use Rattle.wire.specs.declared.Field.{Field}
use Rattle.headers.specs.Imported.{holds}
use Rattle.scope.specs.Recall.{Recalling}
use Rattle.scope.specs.declared.remembered.Index.{Index}
use Rattle.scope.proofs.SplitLaws.{others_lent, put_others, take_first, drop_first, others_put}
use Rattle.identities.specs.Identified.{Added}

-- ---- the first part was changed: it is as it was put there, the second as it was

pub first_on : {model : Bytes} {ix : Index} {last : ℕ} {cells : List ℕ} (extra : List ℕ) {new : List ℕ} → last ≤ length extra → length new ≡ length (take last extra)
    → Recalling model ix cells new
    → (length (new ++ drop last extra) ≡ length extra)
    × (Recalling model ix cells (take last (new ++ drop last extra)) × (drop last (new ++ drop last extra) ≡ drop last extra))
first_on {model} {ix} {last} {cells} extra {new} h size m =
    let sized : length new ≡ last = size ∙ length-take-le last extra h in (
      length-append new (drop last extra) ∙ omega (arith, length-drop last extra),
      (subst (Recalling model ix cells) (sym (take_first new (drop last extra) sized)) m, drop_first new (drop last extra) sized),
    )

-- ---- the second part was changed

-- the imports are in it
pub holds_on : (model : Bytes) (number : ℕ) (m : Field) (ix : Index) (top : ℕ) (extra : List ℕ) → ix.split ≤ length extra → (new : List ℕ) (r : Answer Imports)
    → holds model number m ix.seed top new r
    → holds model number m ix.seed top (drop ix.split (put_mid ix.split (length extra - ix.split) extra new)) r
holds_on model number m ix top extra h new r x =
    subst (λ (l : List ℕ). holds model number m ix.seed top l r) (sym (others_put ix.split extra new h)) x

-- a function was added to it
pub added_on : {model : Bytes} {seed version : ℕ} {known : Option ℕ} {f : Field} {last : ℕ} (extra : List ℕ) {new : List ℕ} {r : Option ℕ} → last ≤ length extra
    → Added model seed version known f (take (length extra - last) (drop last extra)) new r
    → Added model seed version known f (drop last extra) (drop last (put_mid last (length extra - last) extra new)) r
    × ((take last (put_mid last (length extra - last) extra new) ≡ take last extra) × (length (put_mid last (length extra - last) extra new) ≡ length extra))
added_on {model} {seed} {version} {known} {f} {last} extra {new} {r} h x =
    let first = length-take-le last extra h in
    let y : Added model seed version known f (drop last extra) new r = rw (others_lent last extra) at x in (
      subst (λ (l : List ℕ). Added model seed version known f (drop last extra) l r) (sym (others_put last extra new h)) y,
      (
        ap (take last) (put_others last extra new) ∙ take_first (take last extra) new first,
        ap length (put_others last extra new) ∙ length-append (take last extra) new ∙ omega (arith, first, y.size, length-drop last extra),
      ),
    )
