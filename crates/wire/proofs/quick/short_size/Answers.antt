use Rattle.wire.proofs.ShortLaws.{short_number, short_length}
use Rattle.varint.specs.Bytes.{byte}
use native.Mathlib.Omega.{arith}
use Rattle.wire.proofs.quick.short_size.Goals as goal

pub returns-then-wire-eq-VARINT : goal.returns-then-wire-eq-VARINT
unfolding byte
returns-then-wire-eq-VARINT c =
    short_number _ _ _ (omega arith) (omega arith) (omega arith) (omega arith) (omega arith) (omega arith) (omega arith)

pub returns : goal.returns
unfolding byte
returns c =
    short_length _ _ _ (omega arith) (omega arith) (omega arith) (omega arith) (omega arith) (omega arith) (omega arith)
    (omega arith)
