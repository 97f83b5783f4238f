use mathlib.Core.Path.{refl}
use Rattle.wire.specs.Answers.{contents_of}
use Rattle.wire.proofs.Field.contents.Goals as goal

pub returns : goal.returns
unfolding contents_of
returns c = refl
