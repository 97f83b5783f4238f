use Rattle.index.proofs.MemoryLaws.{remembered_text}
use Rattle.index.proofs.memories.remember_name.Goals as goal

pub returns : goal.returns
returns c = remembered_text c.args.name c.min-last.ensures c.min-first.ensures c.remember.ensures
