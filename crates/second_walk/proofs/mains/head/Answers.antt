use Rattle.scope.proofs.SplitLaws.{others_lent, held_on}
use Rattle.second_walk.proofs.PartLaws.{holds_on}
use Rattle.second_walk.proofs.mains.head.Goals as goal

pub header-requires : goal.header-requires
header-requires c =
    record {
      outlined = c.requires.outlined;
      indexed = rw (others_lent _ _) c.requires.remembering.lists;
      model_len_bound = c.requires.model_len_bound;
    }

pub returns : goal.returns
returns c = record {
  answer = c.header.ensures.answer;
  imported = holds_on _ _ _ c.args.ix _ _ c.requires.remembering.fits _ _ c.header.ensures.imported;
  held = held_on c.args.ix c.requires.remembering.fits c.header.ensures.held;
}
