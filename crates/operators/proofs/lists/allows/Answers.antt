use native.Mathlib.Omega.{arith}
use Rattle.operators.proofs.SearchLaws.{entry_inside, allows_none, allows_below, allows_to}
use Rattle.operators.proofs.lists.allows.Goals as goal

pub returns-in_default : goal.returns-in_default
returns-in_default c = allows_none _ _ _ c.canonical.ensures _ c.entry_of.ensures c.in_default.is

pub lowest-requires : goal.lowest-requires
lowest-requires c = omega (arith, entry_inside _ _ _ c.entry_of.ensures c.in-Some.is)

pub returns-then-version-lowest : goal.returns-then-version-lowest
returns-then-version-lowest c =
    allows_below _ _ _ c.canonical.ensures _ c.entry_of.ensures c.in-Some.is _ c.lowest.ensures c.if-version-lowest.true

pub highest-requires : goal.highest-requires
highest-requires c = omega (arith, entry_inside _ _ _ c.entry_of.ensures c.in-Some.is)

pub returns : goal.returns
returns c =
    allows_to _ _ _ c.canonical.ensures _ c.entry_of.ensures c.in-Some.is _ c.lowest.ensures c.if-version-lowest.false _
    c.highest.ensures
