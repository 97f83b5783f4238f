-- An answer of which the refusal alone counts, and the numbers that the code keeps for slots.
use Rattle.std.specs.Prelude.{ℕ, min, Bool, ◌&&◌, List, get_or, ltb, eqb}
use Rattle.std.proofs.Math.Option.{Option, none, some}
use Rattle.varint.specs.Outcome.{pass, ◌>>=◌, Judged, Rule}

-- An answer of which only the refusal matters.
unfoldable pub silent : {A : Type 0} → Judged A → Rule
silent o = o >>= λ _. pass tt

-- A slot by its number, all below 26; 26 for none.
unfoldable pub slot_index : Option ℕ → ℕ
slot_index none = 26
slot_index (some k) = min k 26

unfoldable pub taken_in : List ℕ → ℕ → Bool
taken_in seen slot = ltb slot 26 && eqb (get_or seen slot 0) 1
