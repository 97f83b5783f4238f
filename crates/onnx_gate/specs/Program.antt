-- What the program adds to the check: "By a rule of the program alone, a longer model prints refusal 7 and a longer list 8, both at
-- 0, 7 first."
use Rattle.std.specs.Prelude.{ℕ, Bool, false, ltb, Some, None}
use Rattle.std.specs.declared.option.Option.{Option}
use Rattle.varint.specs.Outcome.{◌>>◌, Judged, refuse◌at:◌when:◌}
use Rattle.varint.specs.Bytes.{Bytes}
use Rattle.rules.specs.Verdict.{Counts, verdict}
use Rattle.onnx_gate.specs.declared.files.Loaded.{Loaded}

-- The answer to what was read of the two files, and whether each is longer than its buffer. "4,096 cells", so
-- 2,048 names.
unfoldable pub answered : (model : Bytes) → (model_longer : Bool) → (list : Bytes) → (list_longer : Bool) → Judged Counts
answered model model_longer list list_longer = do
  refuse 7 at: 0 when: model_longer
  refuse 8 at: 0 when: list_longer
  verdict model list 4_096

-- A file of which `size` bytes were read, by what the read after them answered: how many bytes it gave, or that it failed. "an absent
-- file counts as empty", and so does one that cannot be read to its end.
unfoldable pub held_of : (size : ℕ) → (more : Option ℕ) → Loaded
held_of size (Some n) = record { size = size; is_longer = ltb 0 n }
held_of size None = record { size = 0; is_longer = false }
