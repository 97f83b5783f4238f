use Rattle.wire.proofs.MessageLaws.{found_first}
use Rattle.wire.proofs.Field.first_of.Goals as goal

pub returns : goal.returns
returns c = found_first _ _ _ _ c.contents.ensures c.next_of.ensures
