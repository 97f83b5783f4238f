use Prim.Native.Nat.{◌-◌}
use mathlib.Core.List.{[]}
use Rattle.wire.specs.Message.{text}
use Rattle.varint.proofs.Tells.{Any}
use Rattle.schema.specs.Numbers.{Function-attribute}
use Rattle.index.specs.Listing.{Held}
use Rattle.values.proofs.TallyLaws.{Tallying}
use Rattle.headers.proofs.BehindLaws.{Behind}
use Rattle.messages.specs.Again.{field_names}
use Rattle.signatures.specs.Signature.{attribute_again}
use Rattle.signatures.proofs.attributes.attribute_names.Given as goal

abbrev pub invariant-loop-a : goal.invariant-loop-a
invariant-loop-a l =
    Tallying l.model Function-attribute l.initial.c.end l.initial.c.at Any (field_names l.model) (attribute_again l.model l.f)
    l.odd l.c
    × Behind l.model l.seed Function-attribute [] (text l.model) l.f l.lists l.l l.c
    × Held l.model l.seed 0 l.initial.lists l.lists

abbrev pub decreases-loop-a : goal.decreases-loop-a
decreases-loop-a l = l.initial.c.end - l.c.at
