use Rattle.headers.proofs.ListedLaws.{imported_default, imported_named}
use Rattle.headers.proofs.imports.is_imported.Goals as goal

pub returns-then-name-eq0 : goal.returns-then-name-eq0
returns-then-name-eq0 c = imported_default c.requires _ c.canonical-name.ensures c.if-name-eq0.true

pub has-requires : goal.has-requires
has-requires c = record { indexed = c.requires.listed.index; top_bound = c.requires.listed.fits }

pub returns-then-l : goal.returns-then-l
returns-then-l c = imported_named c.requires _ c.canonical-name.ensures c.if-name-eq0.false c.if-l.true c.has.ensures
