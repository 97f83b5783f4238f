use Rattle.wire.proofs.QuickLaws.{fixed_four, fixed_eight}
use native.Mathlib.Omega.{arith}
use Rattle.wire.proofs.quick.fixed_size.Goals as goal

pub returns-then-wire-eq-I32 : goal.returns-then-wire-eq-I32
returns-then-wire-eq-I32 c = λ h. fixed_four c.if-wire-eq-I32.true

pub returns-then-wire-eq-I64 : goal.returns-then-wire-eq-I64
returns-then-wire-eq-I64 c = λ h. fixed_eight c.if-wire-eq-I64.true

pub returns : goal.returns
returns c = λ h. absurd (omega arith)
