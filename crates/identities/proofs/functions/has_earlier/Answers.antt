use Rattle.std.proofs.Common.{rules}
use Rattle.identities.proofs.FunctionLaws.{any_identified}
use Rattle.identities.proofs.functions.has_earlier.Goals as goal

pub returns : goal.returns
returns c = any_identified _ _ (λ f b k. search rules) _ c.requires c.any_before.ensures
