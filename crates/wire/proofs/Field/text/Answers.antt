use Rattle.wire.specs.Message.{text}
use Rattle.wire.proofs.Field.text.Goals as goal

pub returns : goal.returns
unfolding text
returns c = c.between.ensures
