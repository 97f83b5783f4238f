-- The limit of a model's size: what it leaves for places, and the answers on both sides of it.
use Prim.Native.Nat.{ℕ, zero, suc, ◌+◌, ◌^◌, ◌<◌}
use native.Mathlib.Omega.{arith}
use mathlib.Core.Path.{◌≡◌, refl, sym, ◌∙◌}
use mathlib.Core.Logic.{inl, inr}
use mathlib.Core.Bool.{Bool, true, false}
use mathlib.Core.List.{[], ◌∷◌}
use lib.ListN.{length, replicate, length-replicate}
use lib.Dec.{leb, ltb}
use borrow.Author.Tests.{lt-ltb, le-ltb, lt-leb}
use Rattle.varint.specs.Outcome.{fail, ◌>>◌, refused, refuse◌at:◌when:◌}
use Rattle.varint.specs.declared.Refusal.{Refusal}
use Rattle.varint.specs.Bytes.{Bytes}
use Rattle.varint.specs.Varint.{varint_from, varint}
use Rattle.varint.proofs.Passing.{fail_same}
use Rattle.wire.specs.Wire.{tag}
use Rattle.schema.specs.FirstWalk.{turn, walk, first_walk, FirstWalk-computes}
use Rattle.schema.specs.declared.Kind.TheVariants.{Model}
use Rattle.schema.proofs.Bound.{walk_bound}
use Rattle.rules.specs.Verdict.{LARGEST, verdict}
use Rattle.rules.specs.Demands.{RefusedProperly, PlacesShort, ZerosAtLimit}
use Rattle.rules.proofs.Proper.{refused_properly}
use Rattle.rules.proofs.Accepting.{acceptable}
use Rattle.rules.proofs.Size.{largest_some, size_short}

-- ---- places

places : (model list : Bytes) (cells : ℕ) (r : Refusal) (b : Bool) → ltb LARGEST (length model) ≡ b → verdict model list cells ≡ fail r → (r.place < 2 ^ 31) × (r.first < 2 ^ 31)
unfolding verdict RefusedProperly ◌>>◌ refuse◌at:◌when:◌
places model list cells r true k e = let f = fail_same _ r (rw (k, verdict) at e) in rw (← f) (omega arith, omega arith)
places model list cells r false k e =
    let s = size_short model k in
    let proper = refused_properly model list cells r e in
    (elim proper.1 [ inl p ↦ omega arith | inr p ↦ omega arith ], elim proper.2 [ inl p ↦ omega arith | inr p ↦ (let l = p.1 in omega arith) ])

pub places_short : PlacesShort
unfolding PlacesShort
places_short model list cells = (
  (λ r e. places model list cells r (ltb LARGEST (length model)) refl e),
  (λ c e. size_short model (le-ltb LARGEST (length model) (acceptable model list cells c e).size_kept)),
)

-- ---- the answers on both sides

zero_first : (more : Bytes) → first_walk (0 ∷ more) ≡ refused 3 0
unfolding FirstWalk-computes
zero_first more =
    let n = suc (length more) in
    let some : leb n 0 ≡ false = lt-leb n 0 (omega arith) in
    sym (walk_bound (0 ∷ more) n Model 0 [] n 0 (omega arith)) ∙ rw (some, walk, turn, tag, varint, varint_from, some) refl

zeros_walked : (n : ℕ) → 0 < n → first_walk (replicate n 0) ≡ refused 3 0
zeros_walked zero h = absurd (omega arith)
zeros_walked (suc n) h = zero_first (replicate n 0)

pub zeros_at_limit : ZerosAtLimit
unfolding ZerosAtLimit verdict ◌>>◌ refuse◌at:◌when:◌
zeros_at_limit list cells s = (
  rw (le-ltb LARGEST (length {A = ℕ} (replicate LARGEST 0)) (omega (arith, length-replicate {A = ℕ} LARGEST 0)), s, zeros_walked LARGEST largest_some, verdict) refl,
  rw (lt-ltb LARGEST (length {A = ℕ} (replicate (LARGEST + 1) 0)) (omega (arith, length-replicate {A = ℕ} (LARGEST + 1) 0)), verdict) refl,
)
