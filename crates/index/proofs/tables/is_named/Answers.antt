use Rattle.index.proofs.TableLaws.{named_not, named_same}
use Rattle.std.proofs.Common.{rules}
use Rattle.index.proofs.tables.is_named.Goals as goal

pub returns-then-below-i : goal.returns-then-below-i
returns-then-below-i c = named_not _ _ c.if-below-i.true

pub returns : goal.returns
returns c = search (rules, named_same)
