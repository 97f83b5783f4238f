use Prim.Native.Nat.{ℕ, ◌+◌, ◌*◌}
use native.Mathlib.Omega.{arith}
use mathlib.Core.Path.{ap}
use lib.ListN.{length-set}
use Rattle.index.proofs.ChainLaws.{added_put}
use Rattle.index.proofs.tables.put.Goals as goal

pub bounds-table-at-2 : goal.bounds-table-at-2
bounds-table-at-2 c = simp length-set (omega arith)

pub bounds-table-head : goal.bounds-table-head
bounds-table-head c = simp length-set (omega arith)

pub bounds-table-at-3 : goal.bounds-table-at-3
bounds-table-at-3 c = simp length-set (omega arith)

pub bounds-table-head-2 : goal.bounds-table-head-2
bounds-table-head-2 c = simp length-set (omega arith)

pub returns : goal.returns
returns c = added_put _ _ _ _ _ _ (ap (λ (m : ℕ). m + 3 * c.args.used) c.capacity.ensures.0) c.requires.0 c.requires.1
