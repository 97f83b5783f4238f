-- Document 01, "The operator list": which versions of which domains the runtime has. An entry is known by its place in the
-- list, and what stands in it is read from there.
use Rattle.std.specs.Prelude.{ℕ, zero, suc, ◌+◌, ◌-◌, ◌*◌, Bool, true, false, not, ◌&&◌, List, [], ◌∷◌, length, leb, eqb}
use Rattle.std.proofs.Math.Option.{Option, none, some}
use Rattle.varint.specs.Lists.{present, within, Lists-computes}
use Rattle.varint.specs.Bytes.{Bytes, byte, part, same, Bytes-computes}

-- `ai.onnx`
unfoldable pub onnx : Bytes
onnx = 0x61 ∷ 0x69 ∷ 0x2E ∷ 0x6F ∷ 0x6E ∷ 0x6E ∷ 0x78 ∷ []

-- "The empty domain and `ai.onnx` are one domain, here and in models."
unfoldable pub domain : Bytes → Bytes
domain d = elim (same d onnx) [ true ↦ [] | false ↦ d ]

module _ (list : Bytes) where
  -- "all numbers big-endian": the two bytes, and the four, from a position on.
  unfoldable pub two : ℕ → ℕ
  two pos = 256 * byte list pos + byte list (pos + 1)

  unfoldable pub four : ℕ → ℕ
  four pos = 65_536 * two pos + two (pos + 2)

  -- "four bytes counting all that follows them; one version byte, 1"
  unfoldable pub headed : Bool
  headed = leb 5 (length list) && eqb (four 0 + 4) (length list) && eqb (byte list 4) 1

  -- "An entry is a two-byte length of the rest of it, then domain bytes, lowest version (four bytes), highest version (four
  -- bytes)."
  unfoldable pub after : (entry : ℕ) → ℕ
  after entry = entry + 2 + two entry

  unfoldable pub domain_of : (entry : ℕ) → Bytes
  domain_of entry = domain (part (entry + 2) (two entry - 8) list)

  unfoldable pub lowest : (entry : ℕ) → ℕ
  lowest entry = four (entry + 2 + (two entry - 8))

  unfoldable pub highest : (entry : ℕ) → ℕ
  highest entry = four (entry + 6 + (two entry - 8))

  -- The entry ends inside the list, and "Lowest is at least 1 and at most highest."
  unfoldable pub well_formed : (entry : ℕ) → Bool
  well_formed entry =
      leb 8 (two entry) && leb (after entry) (length list) && leb 1 (lowest entry) && leb (lowest entry) (highest entry)

  -- "then entries to the end": their places from `pos` on. Each takes two bytes at least, so the bytes left are bound
  -- enough for their number.
  unfoldable pub entries_from : (bound pos : ℕ) → List ℕ
  entries_from zero pos = []
  entries_from (suc bound) pos = elim (leb (length list) pos) [ true ↦ [] | false ↦ pos ∷ entries_from bound (after pos) ]

  unfoldable pub entries_at : (pos : ℕ) → List ℕ
  entries_at pos = entries_from (length list - pos) pos

  -- The first of these entries that has the domain.
  unfoldable pub entry_of : Bytes → List ℕ → Option ℕ
  entry_of d [] = none
  entry_of d (e ∷ more) = elim (same d (domain_of e)) [ true ↦ some e | false ↦ entry_of d more ]

  -- Each entry is well formed, and "No domain stands twice."
  unfoldable pub sound_entries : List ℕ → Bool
  sound_entries [] = true
  sound_entries (e ∷ more) = well_formed e && not (present (entry_of (domain_of e) more)) && sound_entries more

  -- "No entries at all is sound. Anything else is refusal 8."
  unfoldable pub sound : Bool
  sound = headed && sound_entries (entries_at 5)

  -- The list has the domain, at this version.
  unfoldable pub allows : Bytes → (version : ℕ) → Bool
  allows d version =
      elim (entry_of d (entries_at 5)) [ none ↦ false | some e ↦ within (lowest e) (highest e) version ]

-- This file and what it is built on, for whoever computes with it.
unfoldable pub Operators-computes : Unit {0}
unfolding Lists-computes Bytes-computes onnx domain two four headed after domain_of lowest highest well_formed entries_from entries_at entry_of sound_entries sound allows
Operators-computes = tt
