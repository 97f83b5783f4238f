use Rattle.scope.proofs.SplitLaws.{others_lent, held_on}
use Rattle.functions.proofs.FunctionLaws.{declares_on}
use Rattle.functions.proofs.functions.head.Goals as goal

pub read_signature-requires : goal.read_signature-requires
read_signature-requires c =
    record {
      indexed = rw (others_lent _ _) c.requires.remembering.lists;
      model_len_bound = c.requires.model_len_bound;
      next_in_bounds = c.requires.next_in_bounds;
    }

pub returns : goal.returns
returns c = record {
  answer = c.read_signature.ensures.answer;
  declared = declares_on _ c.args.ix _ c.requires.remembering.fits _ _ _ c.read_signature.ensures.declared;
  held = held_on c.args.ix c.requires.remembering.fits c.read_signature.ensures.held;
}
