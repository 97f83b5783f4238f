use native.Mathlib.Omega.{arith}
use Rattle.wire.specs.Encoding.{contents_at}
use Rattle.scope.proofs.scopes.contents_at.Goals as goal

pub returns : goal.returns
unfolding contents_at
returns c =
    let w = c.width_of.ensures in
    let place = c.requires.0 in
    (omega (arith, w.0), omega (arith, w.1))
