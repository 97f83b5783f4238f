use Rattle.wire.proofs.ShortLaws.{value_number, value_other}
use Rattle.wire.proofs.quick.short_value.Goals as goal

pub returns-then-t-eq-VARINT : goal.returns-then-t-eq-VARINT
returns-then-t-eq-VARINT c = value_number _ _ c.if-t-eq-VARINT.true

pub returns : goal.returns
returns c = value_other _ _ c.if-t-eq-VARINT.false
