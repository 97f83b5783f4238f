use Prim.Native.Nat.{◌-◌}
use mathlib.Core.List.{map}
use Rattle.wire.specs.Message.{text}
use Rattle.varint.proofs.Tells.{Any}
use Rattle.schema.specs.Numbers.{Function-attribute_proto}
use Rattle.index.specs.Listing.{Held}
use Rattle.values.proofs.TallyLaws.{Tallying}
use Rattle.headers.proofs.BehindLaws.{Behind}
use Rattle.signatures.specs.Signature.{default_again, default_names}
use Rattle.signatures.proofs.AroundLaws.{Attributes, named}
use Rattle.signatures.proofs.defaults.defaults.Given as goal

abbrev pub invariant-loop-a : goal.invariant-loop-a
invariant-loop-a l =
    Tallying l.model Function-attribute_proto l.initial.c.end l.initial.c.at Any (default_names l.model)
    (default_again l.model l.f) l.odd l.c
    × Behind l.model l.seed Function-attribute_proto (map (text l.model) (Attributes l.model l.f)) (named l.model) l.f l.lists l.l
    l.c
    × Held l.model l.seed 0 l.initial.lists l.lists

abbrev pub decreases-loop-a : goal.decreases-loop-a
decreases-loop-a l = l.initial.c.end - l.c.at
