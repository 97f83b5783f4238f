use Rattle.wire.proofs.QuickLaws.{quick_tag}
use Rattle.wire.proofs.quick.quick_tag.Goals as goal

pub returns : goal.returns
returns c = record { read = quick_tag _ _ _ _ c.in_ok-t.ensures c.if-t-lt8.false }
