use mathlib.Core.Path.{ap, ◌∙◌}
use Rattle.index.specs.Table.{since}
use Rattle.index.proofs.listings.Listing.has.Goals as goal

pub returns : goal.returns
returns c = c.since.ensures ∙ ap (since _) c.recall.ensures
