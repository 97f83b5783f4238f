-- Lines, evaluated: document 01's two, document 02's, and numbers with a digit more and with the most that there are.
use Rattle.std.specs.Prelude.{ℕ, ◌≡◌, refl, List, [], ◌∷◌, ◌++◌, map}
use Prim.Native.String.{String}
use Rattle.varint.specs.Outcome.{pass, Judged, refused, refused_with}
use Rattle.varint.specs.Notation.{ascii, Notation-computes}
use Rattle.rules.specs.Verdict.{Counts}
use Rattle.report.specs.Line.{spell, decimal, numbers_of, first_of, line_of}

accepted : (nodes names odd : ℕ) → Judged Counts
accepted nodes names odd = pass (record { nodes = nodes; names = names; odd = odd })

lines : List (Judged Counts × String)
lines =
    (accepted 1 1 0, "accepted nodes 1 names 1 odd 0")
    ∷ (refused 30 13, "refused 30 at 13")
    ∷ (refused_with 23 16 13, "refused 23 at 16 first 13")
    ∷ (accepted 0 10 99, "accepted nodes 0 names 10 odd 99")
    ∷ (
      accepted 18_446_744_073_709_551_615 18_446_744_073_709_551_615 18_446_744_073_709_551_615,
      "accepted nodes 18446744073709551615 names 18446744073709551615 odd 18446744073709551615",
    )
    ∷ (refused 9 99, "refused 9 at 99")
    ∷ (refused 255 18_446_744_073_709_551_615, "refused 255 at 18446744073709551615")
    ∷ (refused_with 23 0 0, "refused 23 at 0 first 0")
    ∷ (refused_with 23 18_446_744_073_709_551_615 18_446_744_073_709_551_615, "refused 23 at 18446744073709551615 first 18446744073709551615")
    ∷ (refused_with 24 16 13, "refused 24 at 16")
    ∷ []

lines_hold : map (λ s. line_of s.0) lines ≡ map (λ s. ascii s.1 ++ (0x0A ∷ [])) lines
unfolding accepted lines spell decimal numbers_of first_of line_of Notation-computes
lines_hold = refl
