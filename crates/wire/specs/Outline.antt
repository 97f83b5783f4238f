-- Where the fields of a number begin in a message. No rule speaks of this; contracts of the code do.
use Rattle.std.specs.Prelude.{ℕ, ◌≡◌, true, false, eqb, ltb}
use Rattle.std.proofs.Math.Option.{none, some}
use Rattle.varint.specs.Lists.{keep}
use Rattle.varint.specs.Bytes.{Bytes}
use Rattle.wire.specs.Wire.{fields}
use Rattle.wire.specs.Message.{all_of, first_of, message}
use Rattle.wire.specs.declared.Field.{Field}
use Rattle.wire.specs.declared.outlines.Outline.{Outline}

-- Where the first field of this number stands in a message, or the message's end.
unfoldable pub start_of : (s : Bytes) → (m : Field) → (number : ℕ) → ℕ
start_of s m number = elim (first_of number (message s m)) [ none ↦ m.next | some f ↦ f.place ]

-- This is that place, and from it on the message has all its fields of this number.
pub record Starts (s : Bytes) (m : Field) (number pos : ℕ) : Type 0 where
  pub place : pos ≡ start_of s m number
  pub same : keep (λ f. eqb number f.number) (fields s m.next pos) ≡ all_of number (message s m)

-- Six such places in one message.
abbrev pub Outlines : (s : Bytes) (m : Field) (a b c d e f : ℕ) → Outline → Type 0
Outlines s m a b c d e f o =
    Starts s m a o.first × Starts s m b o.second × Starts s m c o.third ×
    Starts s m d o.fourth × Starts s m e o.fifth × Starts s m f o.sixth

-- The place where a field that is wanted was met first, and the message's end before that.
unfoldable pub marked : (met end pos number wanted : ℕ) → ℕ
marked met end pos number wanted = elim (ltb met end) [
  | true ↦ met
  | false ↦ elim (eqb wanted number) [ true ↦ pos | false ↦ met ]
]
