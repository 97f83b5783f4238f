use mathlib.Core.Path.{◌∙◌}
use Rattle.wire.proofs.MessageLaws.{bytes_found, bytes_missing}
use Rattle.varint.specs.Bytes.{part}
use Rattle.wire.proofs.Field.bytes_of.Goals as goal

pub returns-in-Some : goal.returns-in-Some
returns-in-Some c = c.text.ensures ∙ bytes_found _ _ _ _ c.first_of.ensures c.in-Some.is

pub returns-in-None : goal.returns-in-None
unfolding part
returns-in-None c = c.between.ensures ∙ bytes_missing _ _ _ _ c.first_of.ensures c.in-None.is
