use Rattle.scope.proofs.SplitLaws.{others_lent}
use Rattle.second_walk.proofs.PartLaws.{added_on}
use Rattle.second_walk.proofs.model_functions.add_function.Goals as goal

pub add-requires : goal.add-requires
add-requires c =
    record { identified = rw (others_lent _ _) c.requires.identified; model_len_bound = c.requires.model_len_bound }

pub returns : goal.returns
returns c =
    let rest = added_on _ c.requires.last_in_bounds c.add.ensures in
    record { added = rest.0; names = rest.1.0; lent = rest.1.1 }
