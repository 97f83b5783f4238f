use native.Mathlib.Omega.{arith}
use Rattle.scope.proofs.RecordLaws.{room_few}
use Rattle.gate.proofs.checks.split_of.Goals as goal

pub overflow_mul-names : goal.overflow_mul-names
overflow_mul-names c =
    let few = room_few c.args.cells in
    let size = c.well_formed.1.0 in
    omega (arith, c.room-names.ensures, c.requires)

pub returns : goal.returns
returns c =
    let few = room_few c.args.cells in
    omega (arith, c.room-names.ensures, c.requires)
