use native.Mathlib.Omega.{arith}
use Rattle.walk_c.proofs.ExportLaws.{count_start, count_stop, count_inside, count_moves, count_next}
use Rattle.walk_c.proofs.walk_c_varints.Goals as goal

pub loop-v-init : goal.loop-v-init
loop-v-init c = count_start _

pub overflow_add-count : goal.overflow_add-count
overflow_add-count c = omega (arith, c.loop-v.invariant.few, count_inside c.loop-v.invariant c.read_varint.ensures c.in-Ok.is)

pub loop-v-smaller : goal.loop-v-smaller
loop-v-smaller c =
    omega (
      arith,
      count_inside c.loop-v.invariant c.read_varint.ensures c.in-Ok.is,
      count_moves c.loop-v.invariant c.read_varint.ensures c.in-Ok.is,
    )

pub loop-v-preserved : goal.loop-v-preserved
loop-v-preserved c = count_next c.loop-v.invariant c.read_varint.ensures c.in-Ok.is

pub returns : goal.returns
returns c = count_stop c.loop-v.invariant c.read_varint.ensures c.in_default.is
