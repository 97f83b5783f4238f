use Prim.Native.Nat.{◌*◌}
use native.Mathlib.Omega.{arith}
use mathlib.Core.Path.{refl}
use lib.ListN.{length-set}
use Rattle.rules.specs.Verdict.{WIDTH}
use Rattle.scope.specs.Scope.{stored}
use Rattle.scope.proofs.RecordLaws.{room_fits}
use Rattle.scope.proofs.scopes.store.Goals as goal

pub overflow_mul-at : goal.overflow_mul-at
unfolding WIDTH
overflow_mul-at c = let l = room_fits _ _ c.requires.i_bound in let g = c.well_formed.0.1 in omega arith

pub offset_bounds-cells-at : goal.offset_bounds-cells-at
unfolding WIDTH
offset_bounds-cells-at c = let l = room_fits _ _ c.requires.i_bound in let g = c.well_formed.0.1 in omega arith

pub bounds-cells-at : goal.bounds-cells-at
unfolding WIDTH
bounds-cells-at c = let l = room_fits _ _ c.requires.i_bound in omega arith

pub overflow_add-cells : goal.overflow_add-cells
unfolding WIDTH
overflow_add-cells c = let l = room_fits _ _ c.requires.i_bound in let g = c.well_formed.0.1 in omega arith

pub offset_bounds-cells-at-2 : goal.offset_bounds-cells-at-2
unfolding WIDTH
offset_bounds-cells-at-2 c = let l = room_fits _ _ c.requires.i_bound in let g = c.well_formed.0.1 in omega arith

pub bounds-cells-at-2 : goal.bounds-cells-at-2
unfolding WIDTH
bounds-cells-at-2 c =
    let l = room_fits _ _ c.requires.i_bound in omega (arith, length-set c.args.cells.now (WIDTH * c.args.i) c.args.place)

pub returns : goal.returns
unfolding stored WIDTH
returns c = refl
