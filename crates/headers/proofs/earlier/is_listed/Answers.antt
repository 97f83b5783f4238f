use mathlib.Core.Path.{◌∙◌}
use Rattle.headers.proofs.earlier.is_listed.Goals as goal

pub has-requires : goal.has-requires
has-requires c = record { indexed = c.requires.listed.index; top_bound = c.requires.listed.fits }

pub returns-then-l : goal.returns-then-l
returns-then-l c = c.has.ensures ∙ c.requires.listed.finds c.if-l.true _ c.requires.text_value
