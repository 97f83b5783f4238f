use native.Mathlib.Omega.{arith}
use mathlib.Core.Path.{◌≡◌}
use Rattle.scope.proofs.RecallLaws.{recall_ends}
use Rattle.scope.proofs.ScopeLaws.{search_start, search_here, search_next}
use Rattle.scope.proofs.remembered.find_in.Goals as goal

pub loop-i-init : goal.loop-i-init
loop-i-init c = record { searching = search_start _ _ _ _; below = omega arith; above = omega arith }

pub is_named-requires : goal.is_named-requires
is_named-requires c = c.requires.name_value

pub returns-then-is_named : goal.returns-then-is_named
returns-then-is_named c =
    search_here c.loop-i.invariant.searching (omega (arith, c.loop-i-test.true)) _ c.is_named.ensures c.if-is_named.true

pub loop-i-preserved : goal.loop-i-preserved
loop-i-preserved c =
    let t = c.loop-i-test.true in
    record {
      searching = search_next c.loop-i.invariant.searching (omega arith) _ c.is_named.ensures c.if-is_named.false;
      below = omega (arith, c.loop-i.invariant.below);
      above = omega (arith, c.loop-i.invariant.above);
    }

pub recall-requires : goal.recall-requires
recall-requires c = (c.requires.recalls.memory.index, omega (arith, c.min.ensures, c.known-kept.ensures.0))

pub returns : goal.returns
returns c =
    let last : c.min.result ≡ c.loop-i.i = omega (
      arith,
      c.min.ensures,
      c.loop-i-test.false,
      c.loop-i.invariant.below,
      c.loop-i.invariant.above,
    ) in
    recall_ends c.requires.recalls (rw last c.loop-i.invariant.searching) (omega (arith, c.min.ensures, c.known-kept.ensures.0))
    c.recall.ensures
