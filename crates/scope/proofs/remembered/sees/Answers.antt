use mathlib.Core.Path.{ap, ◌∙◌}
use Rattle.index.specs.Table.{since}
use Rattle.scope.proofs.ScopeLaws.{found_visible}
use Rattle.scope.proofs.remembered.sees.Goals as goal

pub returns : goal.returns
returns c = c.since.ensures ∙ ap (since 0) c.find.ensures ∙ found_visible _ _ _ _
