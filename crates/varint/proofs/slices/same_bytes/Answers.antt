use native.Mathlib.Omega.{arith}
use Prim.Native.Nat.{◌-◌, ◌/◌}
use mathlib.Core.Path.{refl, sym, ap, ◌∙◌}
use mathlib.Core.List.{[]}
use lib.ListN.{length, drop, get_or}
use Rattle.std.specs.Simd.{first_chunks}
use Rattle.varint.specs.Bytes.{Bytes}
use Rattle.varint.proofs.SliceLaws.{same_length, pointwise_same, same_unless, not_unlike, eight_on, eights_end}
use Rattle.varint.proofs.slices.same_bytes.Goals as goal

pub returns-then-a-b : goal.returns-then-a-b
returns-then-a-b c = same_length _ _ (λ e. omega (arith, e, c.if-a-b.true))

pub returns-in_default : goal.returns-in_default
returns-in_default c = c.eq.ensures ∙ pointwise_same _ _

pub returns-then-ne : goal.returns-then-ne
returns-then-ne c =
    same_unless
    (λ e. c.in-Some-Some.ensures.cases.1.same ∙ ap (λ (s : Bytes). drop (length s - 8) s) e ∙ sym c.in-Some-Some.ensures'.cases.1.same)
    (sym c.if-ne.true ∙ c.ne.ensures)

pub loop-i-init : goal.loop-i-init
loop-i-init c = refl

pub returns-then-ne-2 : goal.returns-then-ne-2
returns-then-ne-2 c =
    same_unless
    (λ e. ap (λ z. get_or z c.loop-i.i [])
    (c.as_chunks.ensures.front ∙ ap (λ (s : Bytes). first_chunks 8 (length s / 8) s) e ∙ sym c.as_chunks-2.ensures.front))
    (sym c.if-ne-2.true ∙ c.ne-in-loop-i.ensures)

pub loop-i-preserved : goal.loop-i-preserved
loop-i-preserved c =
    let many = c.as_chunks.ensures.front_len in
    eight_on _ _ _ c.loop-i.invariant c.as_chunks.ensures.front c.as_chunks-2.ensures.front
    (omega (arith, c.loop-i-test.true, many)) (omega (arith, c.loop-i-test.true, many, c.if-a-b.false))
    (not_unlike (sym c.if-ne-2.false ∙ c.ne-in-loop-i.ensures))

pub returns : goal.returns
returns c =
    eights_end c.args.a.now c.args.b.now c.loop-i.i c.loop-i.invariant
    (omega (arith, c.if-a-b.false)) (omega (arith, c.loop-i-test.false, c.as_chunks.ensures.front_len))
    (sym c.in-Some-Some.ensures.cases.1.same ∙ not_unlike (sym c.if-ne.false ∙ c.ne.ensures) ∙ c.in-Some-Some.ensures'.cases.1.same)
