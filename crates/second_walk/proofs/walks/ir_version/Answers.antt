use mathlib.Core.Path.{◌∙◌}
use Rattle.wire.proofs.MessageLaws.{number_in}
use Rattle.wire.proofs.OutlineLaws.{started_first}
use Rattle.second_walk.proofs.walks.ir_version.Goals as goal

pub returns : goal.returns
returns c =
    rw (← c.whole.ensures) (c.value_in.ensures
    ∙ number_in _ _ _ _ (started_first _ _ _ (rw c.whole.ensures c.requires.version) _ c.first_from.ensures))
