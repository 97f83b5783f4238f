use mathlib.Core.Path.{◌∙◌}
use Rattle.varint.specs.Bytes.{part}
use Rattle.identities.proofs.FunctionLaws.{overload_none, overload_some}
use Rattle.identities.proofs.functions.overload_of.Goals as goal

pub returns-then-version-lt-OVERLOADS : goal.returns-then-version-lt-OVERLOADS
unfolding part
returns-then-version-lt-OVERLOADS c = c.between.ensures ∙ overload_none _ _ _ c.if-version-lt-OVERLOADS.true

pub returns : goal.returns
returns c = c.bytes_of.ensures ∙ overload_some _ _ _ c.if-version-lt-OVERLOADS.false
