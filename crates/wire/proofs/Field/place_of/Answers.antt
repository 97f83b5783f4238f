use Rattle.wire.proofs.MessageLaws.{place_found, place_missing}
use Rattle.wire.proofs.Field.place_of.Goals as goal

pub returns-in-Some : goal.returns-in-Some
returns-in-Some c = place_found _ _ _ _ c.first_of.ensures c.in-Some.is

pub returns-in-None : goal.returns-in-None
returns-in-None c = place_missing _ _ _ _ c.first_of.ensures c.in-None.is
