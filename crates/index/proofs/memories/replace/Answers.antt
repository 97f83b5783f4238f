use Rattle.index.proofs.MemoryLaws.{replaced_added, replaced_full}
use Rattle.index.proofs.ChainLaws.{capacity_lt}
use lib.ListN.{length}
use native.Mathlib.Omega.{arith}
use Rattle.index.proofs.memories.replace.Goals as goal

pub overflow_add-result : goal.overflow_add-result
overflow_add-result c = omega (arith, c.requires.0.fits, capacity_lt (length c.args.table.now))

pub returns-in-Ok : goal.returns-in-Ok
returns-in-Ok c =
    replaced_added c.requires.1 (c.pop_to.ensures.indexed, c.pop_to.ensures.stays) _ _ _
    (c.push.ensures.answer, c.push.ensures.stays) c.in-Ok.is

pub returns-in-Err : goal.returns-in-Err
returns-in-Err c =
    replaced_full c.requires.1 (c.pop_to.ensures.indexed, c.pop_to.ensures.stays) _ _ _
    (c.push.ensures.answer, c.push.ensures.stays) c.in-Err.is
