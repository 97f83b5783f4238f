use Rattle.std.proofs.Common.{rules}
use Rattle.headers.specs.Earlier.{names_in}
use Rattle.headers.proofs.EarlierLaws.{any_named}
use Rattle.headers.proofs.earlier.is_earlier.Goals as goal

pub returns : goal.returns
unfolding names_in
returns c = any_named _ _ (λ f b k. search rules) _ _ _ _ c.contents.ensures c.any_before.ensures
