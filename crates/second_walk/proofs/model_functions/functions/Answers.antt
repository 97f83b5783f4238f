use Rattle.varint.proofs.Answers.{passed_on}
use native.Mathlib.Omega.{arith}
use mathlib.Core.Path.{◌∙◌}
use Rattle.scope.proofs.SplitLaws.{others_lent}
use Rattle.identities.proofs.LoopLaws.{defining_before, defining_fits}
use Rattle.second_walk.proofs.LoopLaws.{judging_start, judging_done, judging_falls, judging_enters, judging_countable, judging_stops, judging_goes}
use Rattle.second_walk.proofs.model_functions.functions.Goals as goal

pub loop-f-init : goal.loop-f-init
loop-f-init c = judging_start _ c.requires.starts c.requires.recalling c.requires.identified c.requires.few_counted

pub returns : goal.returns
returns c = record {
  answer = judging_done c.loop-f.invariant c.next_of.ensures c.in_default.is;
  size = c.loop-f.invariant.size;
}

pub slice_bounds-is_defined-end : goal.slice_bounds-is_defined-end
slice_bounds-is_defined-end c =
    let fits = c.requires.last_in_bounds in
    let sized = c.loop-f.invariant.sized in
    omega arith

pub is_defined-twice-requires : goal.is_defined-twice-requires
is_defined-twice-requires c =
    record {
      identified = rw (others_lent _ _) (defining_before c.loop-f.invariant.table c.next_of.ensures c.in-Some.is);
      starts = c.requires.starts;
    }

pub judge_function-requires : goal.judge_function-requires
judge_function-requires c = record {
  enters = judging_enters c.loop-f.invariant c.next_of.ensures c.in-Some.is c.requires.model_len_bound
      c.requires.model_value;
  last_in_bounds = omega (arith, c.requires.last_in_bounds, c.loop-f.invariant.sized);
  recalling = c.loop-f.invariant.memory;
  countable = judging_countable c.loop-f.invariant c.next_of.ensures c.in-Some.is c.requires.model_len_bound;
}

pub shape_of-cells : goal.shape_of-cells
shape_of-cells c = c.loop-f.invariant.size

pub shape_of-extra : goal.shape_of-extra
shape_of-extra c = c.loop-f.invariant.sized

pub returns-in_err-further : goal.returns-in_err-further
returns-in_err-further c =
    rw (passed_on _ c.in_err-further.was c.from_residual.ensures.1) (
    record {
      answer = judging_stops c.loop-f.invariant c.next_of.ensures c.in-Some.is c.is_defined-twice.ensures _ _
          c.judge_function.ensures.answer c.in_err-further.was;
      size = c.judge_function.ensures.size ∙ c.loop-f.invariant.size;
    }
    )

pub add_function-known-requires : goal.add_function-known-requires
add_function-known-requires c = record {
  identified = rw c.judge_function.ensures.table
      (defining_before c.loop-f.invariant.table c.next_of.ensures c.in-Some.is);
  last_in_bounds = omega (arith, c.requires.last_in_bounds, c.loop-f.invariant.sized, c.judge_function.ensures.lent);
  model_len_bound = (
    c.requires.model_len_bound,
    (defining_fits c.loop-f.invariant.table c.next_of.ensures c.in-Some.is).0,
    (defining_fits c.loop-f.invariant.table c.next_of.ensures c.in-Some.is).1,
  );
}

pub loop-f-smaller : goal.loop-f-smaller
loop-f-smaller c = judging_falls c.loop-f.invariant c.next_of.ensures c.in-Some.is

pub loop-f-preserved : goal.loop-f-preserved
loop-f-preserved c =
    judging_goes c.loop-f.invariant c.next_of.ensures c.in-Some.is c.is_defined-twice.ensures _ _
    c.judge_function.ensures.answer c.judge_function.ensures.counts
    c.in_ok-further.was c.judge_function.ensures.size (c.add_function-known.ensures.lent ∙ c.judge_function.ensures.lent)
    (rw c.add_function-known.ensures.names c.judge_function.ensures.memory)
    (rw (← c.judge_function.ensures.table) c.add_function-known.ensures.added)
