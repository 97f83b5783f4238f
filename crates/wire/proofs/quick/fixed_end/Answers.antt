use mathlib.Core.Path.{refl}
use native.Mathlib.Omega.{arith}
use Rattle.wire.proofs.quick.fixed_end.Goals as goal

pub returns : goal.returns
returns c = record { size = c.fixed_size-size.result; fixed = c.fixed_size-size.ensures (omega arith); is = refl; inside = omega arith }
