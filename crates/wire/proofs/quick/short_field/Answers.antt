use Rattle.wire.proofs.ShortLaws.{field_said}
use Rattle.varint.specs.Bytes.{byte}
use Rattle.wire.proofs.quick.short_field.Goals as goal

pub returns : goal.returns
unfolding byte
returns c = field_said _ _ _ _ _ _ c.wide-t.ensures.0 c.wide.ensures.0 c.short_value.ensures
