use mathlib.Core.Path.{sym}
use lib.Seq.{length-take-le}
use Rattle.second_walk.proofs.PartLaws.{first_on}
use Rattle.second_walk.proofs.model_functions.judge_function.Goals as goal

pub slice_bounds-function-end-2 : goal.slice_bounds-function-end-2
slice_bounds-function-end-2 c = sym (length-take-le _ _ c.requires.last_in_bounds)

pub returns : goal.returns
returns c =
    let rest = first_on _ c.requires.last_in_bounds c.function.ensures.lent c.function.ensures.memory in
    record {
      answer = c.function.ensures.answer;
      counts = c.function.ensures.counts;
      size = c.function.ensures.size;
      lent = rest.0;
      memory = rest.1.0;
      table = rest.1.1;
    }
