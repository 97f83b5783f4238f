-- The messages that the first walk opens. No rule speaks of this; what is claimed of the definitions does, and contracts of the code.
use Rattle.std.specs.Prelude.{ℕ, ◌≤◌, ◌≡◌, length}
use mathlib.Core.List.{List, [], ◌∷◌, Memᴰ}
use Rattle.std.proofs.Math.Option.{some}
use Rattle.varint.specs.Outcome.{pass}
use Rattle.varint.specs.Bytes.{Bytes}
use Rattle.wire.specs.Message.{message}
use Rattle.wire.specs.declared.Field.{Field}
use Rattle.schema.specs.declared.Kind.{Kind}
use Rattle.schema.specs.Rows.{row_of}
use Rattle.schema.specs.FirstWalk.{kind_of, walked}

-- A way from a message of this kind inwards: each field stands in the message before it, and its row opens it.
abbrev pub Opened : (model : Bytes) → Kind → Field → List Field → Type 0
Opened model kind f [] = Unit {0}
Opened model kind f (g ∷ inner) =
    Memᴰ g (message model f).fields × ((k : Kind) × (kind_of (row_of kind g.number) ≡ some k) × Opened model k g inner)

-- The message at its end.
unfoldable pub innermost : Field → List Field → Field
innermost f [] = f
innermost f (g ∷ inner) = innermost g inner

-- A field that holds a message of this kind: it lies in the model, and the first walk passed its contents.
pub record Walked (model : Bytes) (kind : Kind) (f : Field) : Type 0 where
  pub inside : f.next ≤ length model
  pub passed : (depth : ℕ) × (walked model kind depth [] f.next f.start ≡ pass tt)
