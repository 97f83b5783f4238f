-- What the answers of the code say: a value or a refusal, a value or none.
use Rattle.std.specs.Prelude.{ℕ, Ok, Err, Some, None}
use Rattle.std.specs.declared.result.Result.{Result}
use Rattle.std.specs.declared.option.Option as code
use Rattle.std.proofs.Math.Option.{Option, none, some}
use Rattle.varint.specs.Outcome.{pass, fail, Judged}
use Rattle.varint.specs.declared.Refusal.{Refusal}

-- What may be refused.
abbrev pub Answer : Type 0 → Type 0
Answer A = Result A Refusal

unfoldable pub outcome_of : {A : Type 0} → Answer A → Judged A
outcome_of (Ok a) = pass a
outcome_of (Err r) = fail r

unfoldable pub option_of : {A : Type 0} → code.Option A → Option A
option_of (Some a) = some a
option_of None = none

-- A refusal with no second number.
abbrev pub refusal : (number place : ℕ) → Refusal
refusal number place = record { number = number; place = place; first = 0 }
