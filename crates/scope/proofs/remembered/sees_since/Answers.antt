use mathlib.Core.Path.{ap, ◌∙◌}
use Rattle.index.specs.Table.{since}
use Rattle.scope.proofs.remembered.sees_since.Goals as goal

pub returns : goal.returns
returns c = c.since.ensures ∙ ap (since _) c.find.ensures
