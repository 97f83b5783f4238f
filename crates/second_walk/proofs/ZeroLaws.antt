-- Zeros remember nothing.
use Rattle.std.specs.Prelude.{Some}
use Prim.Native.Nat.{ℕ, zero, suc, ◌-◌, ◌≤◌}
use native.Mathlib.Omega.{arith}
use mathlib.Core.Path.{◌≡◌, refl, sym, ap, subst, ◌∙◌}
use mathlib.Core.List.{List, [], ◌++◌}
use lib.ListN.{length, take, drop, replicate, length-replicate}
use Rattle.varint.specs.Bytes.{Bytes}
use Rattle.index.specs.Table.{Indexed}
use Rattle.index.specs.Memory.{known, table_of}
use Rattle.index.proofs.UseLaws.{indexed_none}
use Rattle.scope.specs.Recall.{Recalls, Recalling}
use Rattle.scope.specs.declared.remembered.Index.{Index}
use Rattle.scope.proofs.RecallLaws.{recalls_none}
use Rattle.identities.specs.Identified.{Identified}
use Rattle.identities.proofs.RecordLaws.{identified_none}

take_zeros : (k n : ℕ) → k ≤ n → take {A = ℕ} k (replicate n 0) ≡ replicate k 0
take_zeros zero n h = refl
take_zeros (suc k) zero h = absurd (omega arith)
take_zeros (suc k) (suc n) h = ap (λ (l : List ℕ). replicate 1 0 ++ l) (take_zeros k n (omega arith))

drop_zeros : (k n : ℕ) → k ≤ n → drop {A = ℕ} k (replicate n 0) ≡ replicate (n - k) 0
drop_zeros zero n h = let e : n - 0 ≡ n = omega arith in rw e refl
drop_zeros (suc k) zero h = absurd (omega arith)
drop_zeros (suc k) (suc n) h = let e : suc n - suc k ≡ n - k = omega arith in rw e (drop_zeros k n (omega arith))

zeros_indexed : (model : Bytes) (seed n : ℕ) → Indexed model seed (table_of (replicate n 0)) (known (replicate n 0))
unfolding known table_of
zeros_indexed model seed zero = indexed_none model seed 0
zeros_indexed model seed (suc n) = indexed_none model seed n

zeros_recall : (model : Bytes) (ix : Index) (cells : List ℕ) (n : ℕ) → ix.split ≤ n → Recalling model ix cells (replicate n 0)
zeros_recall model ix cells n h = record {
  both = record {
    fits = omega (arith, length-replicate {A = ℕ} n 0);
    names = subst (λ (l : List ℕ). Indexed model ix.seed (table_of l) (known l)) (sym (take_zeros ix.split n h)) (zeros_indexed model ix.seed ix.split);
    lists = subst (λ (l : List ℕ). Indexed model ix.seed (table_of l) (known l)) (sym (drop_zeros ix.split n h)) (zeros_indexed model ix.seed (n - ix.split));
  };
  scope = subst (λ (l : List ℕ). Recalls model ix.seed cells l) (sym (take_zeros ix.split n h)) (recalls_none model ix.seed cells ix.split);
}

-- cells that are all zero, in two parts at `last`: the first remembers no names, the second has no functions
module _ {extra : List ℕ} (zeros : extra ≡ replicate (length extra) 0) {last : ℕ} (h : last ≤ length extra) where
  pub recalling_none : (model : Bytes) (ix : Index) (cells : List ℕ) → ix.split ≤ last → Recalling model ix cells (take last extra)
  recalling_none model ix cells k =
      subst (Recalling model ix cells) (sym (ap (take last) zeros ∙ take_zeros last (length extra) h)) (zeros_recall model ix cells last k)

  pub defining_none : (model : Bytes) (seed version : ℕ) → Identified model seed version (drop last extra) (Some 0) []
  defining_none model seed version =
      subst (λ (l : List ℕ). Identified model seed version l (Some 0) [])
      (sym (ap (drop last) zeros ∙ drop_zeros last (length extra) h)) (identified_none model seed version (length extra - last))
