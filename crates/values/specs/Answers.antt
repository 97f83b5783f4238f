-- What each answer of the code says.
use Rattle.varint.specs.Answers.{Answer}
use Rattle.std.specs.Prelude.{ℕ, ◌+◌, ◌^◌, ◌<◌, Err, Ok}
use Rattle.std.proofs.Math.Option.{Option, some}
use Rattle.varint.specs.Outcome.{pass, fail, ◌>>=◌, Judged}
use Rattle.varint.specs.Bytes.{Bytes}
use Rattle.wire.specs.Message.{Message, first_of}
use Rattle.wire.specs.declared.Field.{Field}
use Rattle.rules.specs.Names.{name_of}
use Rattle.rules.specs.Walk.{Walk, naming}

-- The walk with so many odd names more.
unfoldable pub more : Walk → ℕ → Walk
more w k = record { scope = w.scope; nodes = w.nodes; most = w.most; odd = w.odd + k }

-- What a rule that tests names says of a walk: it counts the odd ones, and leaves the rest as it was.
unfoldable pub tally_says : Walk → Answer ℕ → Judged Walk
tally_says w (Ok k) = pass (more w k)
tally_says w (Err r) = fail r

unfoldable pub naming_says : Walk → Answer (Field × ℕ) → Judged (Option Field × Walk)
naming_says w (Ok (f, k)) = pass (some f, more w k)
naming_says w (Err r) = fail r

-- The field that holds a name, and the walk, once `naming` lets the name stand.
unfoldable pub name_field : (model : Bytes) → (empty number : ℕ) → Walk → Message → Judged (Option Field × Walk)
name_field model empty number w m = naming empty w (name_of model number m) >>= λ v. pass (first_of number m, v)

-- So many more.
unfoldable pub adding : ℕ → Answer ℕ → Answer ℕ
adding k (Ok l) = Ok (k + l)
adding k (Err r) = Err r

-- There is room for both in 64 bits.
unfoldable pub Addable : ℕ → Answer ℕ → Type 0
Addable k (Ok l) = k + l < 2 ^ 64
Addable k (Err r) = Unit {0}
