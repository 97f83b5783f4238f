-- How the fields of a message lie. No rule speaks of this; what is claimed of the definitions does.
use Rattle.std.specs.Prelude.{ℕ, ◌≤◌, ◌<◌, ◌≡◌, List, [], ◌∷◌}
use Rattle.wire.specs.declared.Field.{Field}

-- From `lo` to `hi` each field begins where the one before it ended or later, has a tag of a byte or more, and ends in time.
abbrev pub Ordered : (lo hi : ℕ) → List Field → Type 0
Ordered lo hi [] = Unit {0}
Ordered lo hi (f ∷ more) = (lo ≤ f.place) × (f.place < f.start) × (f.start ≤ f.next) × (f.next ≤ hi) × Ordered f.next hi more

-- From `lo` to `hi` each field begins where the one before it ended, and the last ends at `hi`.
abbrev pub Gapless : (lo hi : ℕ) → List Field → Type 0
Gapless lo hi [] = lo ≡ hi
Gapless lo hi (f ∷ more) = (f.place ≡ lo) × Gapless f.next hi more
