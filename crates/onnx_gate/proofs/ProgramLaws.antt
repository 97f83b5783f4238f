-- What was read, and what is answered to it, by cases.
use Rattle.std.specs.Prelude.{Some, None}
use Rattle.std.specs.declared.option.Option.{Option}
use Prim.Native.Nat.{ℕ}
use mathlib.Core.Path.{◌≡◌, sym, ap, subst, subst⁻¹, ◌∙◌}
use mathlib.Core.Bool.{Bool, true, false}
use mathlib.Core.List.{List}
use native.Mathlib.Omega.{arith}
use borrow.Author.Tests.{ltb-true}
use lib.ListN.{length, take, drop}
use lib.Seq.{take_at}
use lib.Dec.{T}
use lib.IntN.{ℤ, pos, negsuc}
use lib.Signed.{lt_z}
use Rattle.io.specs.Counts.{IsPrefixLen}
use Rattle.io.proofs.Counting.{prefix_len_of_le}
use Rattle.varint.specs.Outcome.{◌>>◌, refused, refuse◌at:◌when:◌}
use Rattle.varint.specs.Bytes.{Bytes}
use Rattle.rules.specs.Verdict.{verdict}
use Rattle.report.specs.Line.{over}
use Rattle.onnx_gate.specs.declared.files.Loaded.{Loaded}
use Rattle.onnx_gate.specs.Program.{answered, held_of}

module _ (model list : Bytes) where
  pub model_longer_lem : {m : Bool} (l : Bool) → m ≡ true → refused 7 0 ≡ answered model m list l
  unfolding answered ◌>>◌ refuse◌at:◌when:◌
  model_longer_lem l e = ap (λ b. answered model b list l) (sym e)

  pub list_longer_lem : {m l : Bool} → m ≡ false → l ≡ true → refused 8 0 ≡ answered model m list l
  unfolding answered ◌>>◌ refuse◌at:◌when:◌
  list_longer_lem {m} {l} e d = ap (λ b. answered model false list b) (sym d) ∙ ap (λ b. answered model b list l) (sym e)

  pub both_fit : {m l : Bool} → m ≡ false → l ≡ false → verdict model list 4_096 ≡ answered model m list l
  unfolding answered ◌>>◌ refuse◌at:◌when:◌
  both_fit {m} {l} e d = ap (λ b. answered model false list b) (sym d) ∙ ap (λ b. answered model b list l) (sym e)

-- The three, for `decide`.
pub ruleset answering = (model_longer_lem, list_longer_lem, both_fit)

-- What is printed of a buffer is the text that was put at its start.
pub printed : (text out₀ : Bytes) {r : ℕ} {out : Bytes} → r ≡ length text → out ≡ over text out₀ → take r out ≡ text
unfolding over
printed text out₀ {r} {out} e d = ap (take r) d ∙ take_at text (drop (length text) out₀) r (sym e)

-- The part of the buffer that is the file's lies in it.
pub held_counts : (size : ℕ) (more : Option ℕ) (l : List ℕ) {r : Loaded} → r ≡ held_of size more → IsPrefixLen size l → IsPrefixLen r.size l
unfolding held_of
held_counts size (Some n) l e h = subst⁻¹ (λ x. IsPrefixLen x.size l) e h
held_counts size None l e h = subst⁻¹ (λ x. IsPrefixLen x.size l) e (prefix_len_of_le 0 l (omega arith))
