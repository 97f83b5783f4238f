use Rattle.varint.specs.Lists.{contains}
use Rattle.values.proofs.CarrierLaws.{default_graph, default_other}
use Rattle.std.proofs.Common.{rules}
use Rattle.values.proofs.carriers.is_bad_default.Goals as goal

pub returns-in-5 : goal.returns-in-5
unfolding contains
returns-in-5 c = default_graph _ _ c.number_of.ensures c.in-5.is tt

pub returns-in-10 : goal.returns-in-10
unfolding contains
returns-in-10 c = default_graph _ _ c.number_of.ensures c.in-10.is tt

pub returns-in_default : goal.returns-in_default
returns-in_default c = default_other _ _ c.number_of.ensures (search rules) c.is_bad_value.ensures
