use Prim.Native.Nat.{ℕ}
use mathlib.Core.Path.{ap, ◌∙◌}
use Rattle.wire.specs.Encoding.{contents_at}
use Rattle.scope.proofs.RecordLaws.{other_length, same_there}
use Rattle.scope.proofs.remembered.is_named.Goals as goal

pub returns-then-len-name : goal.returns-then-len-name
returns-then-len-name c = other_length _ _ _ _ c.requires _ c.length_at-len.ensures.0 c.if-len-name.true

pub returns : goal.returns
returns c =
    let start = c.contents_at-start.ensures.0 ∙ ap (λ (n : ℕ). contents_at n c.length_at-len.result) c.place_at.ensures.0 in
    same_there _ _ _ _ c.requires _ c.length_at-len.ensures.0 c.if-len-name.false start c.between.ensures c.same_bytes.ensures
