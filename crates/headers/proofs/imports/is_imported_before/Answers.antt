use Rattle.std.proofs.Common.{rules}
use Rattle.headers.specs.Imports.{imports_before, import_of}
use Rattle.headers.proofs.EarlierLaws.{any_named}
use Rattle.headers.proofs.imports.is_imported_before.Goals as goal

pub returns : goal.returns
unfolding imports_before import_of
returns c = any_named _ _ (λ f b k. search rules) _ _ _ _ c.contents.ensures c.any_before.ensures
