use Rattle.headers.proofs.ListedLaws.{absent_empty, text_empty, added_as}
use Rattle.index.proofs.ListingLaws.{added_empty}
use Rattle.wire.proofs.MessageLaws.{bytes_missing, bytes_found}
use Rattle.headers.proofs.earlier.list_name.Goals as goal

pub returns-in_default : goal.returns-in_default
returns-in_default c =
    added_empty c.requires.indexed c.requires.top_bound (absent_empty (bytes_missing _ _ _ _ c.first_of.ensures c.in_default.is))

pub returns-then-text-eq0 : goal.returns-then-text-eq0
returns-then-text-eq0 c =
    added_empty c.requires.indexed c.requires.top_bound
    (text_empty c.text-text.ensures (bytes_found _ _ _ _ c.first_of.ensures c.in-Some.is) c.if-text-eq0.true)

pub returns : goal.returns
returns c = added_as (bytes_found _ _ _ _ c.first_of.ensures c.in-Some.is) c.add.ensures
