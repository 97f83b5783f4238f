use Rattle.headers.proofs.ListedLaws.{import_default, import_named}
use Rattle.std.proofs.Common.{rules}
use Rattle.headers.proofs.imports.list_import.Goals as goal

pub returns-then-name-eq0 : goal.returns-then-name-eq0
returns-then-name-eq0 c = search (rules, import_default)

pub returns : goal.returns
returns c = search (rules, import_named)
