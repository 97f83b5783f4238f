-- Small counts and answers, evaluated.
use Rattle.std.specs.Prelude.{ℕ, ◌≡◌, refl, List, [], ◌∷◌, map}
use Rattle.varint.specs.Bytes.{Bytes}
use Rattle.varint.specs.Notation.{hex, Notation-computes}
use Rattle.schema.specs.FirstWalk.{first_walk, FirstWalk-computes}
use Rattle.walk_c.specs.declared.Answer.{Answer}
use Rattle.walk_c.specs.Exports.{answered, count_from, varint_count}

counts : List (Bytes × ℕ)
counts =
    ([], 0)
    ∷ (hex "01 96 01 AC 02", 3)
    ∷ (hex "01 96", 1)  -- the second runs past the end
    ∷ (hex "00 FF FF FF FF FF FF FF FF FF 02 01", 1)  -- its tenth byte is above 1
    ∷ []

counts_hold : map (λ s. varint_count s.0) counts ≡ map (λ s. s.1) counts
unfolding counts varint_count count_from Notation-computes FirstWalk-computes
counts_hold = refl

answer : (number place : ℕ) → Answer
answer number place = record { number = number; place = place }

answers : List (Bytes × Answer)
answers =
    ([], answer 0 0)
    ∷ (hex "08 08 42 02 10 0D 3A 03 12 01 67", answer 0 0)  -- M0
    ∷ (hex "08 08 08 08", answer 5 2)
    ∷ (hex "08 08 80", answer 1 2)
    ∷ []

answers_hold : map (λ s. answered (first_walk s.0)) answers ≡ map (λ s. s.1) answers
unfolding answers answer answered Notation-computes FirstWalk-computes
answers_hold = refl
