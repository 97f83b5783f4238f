-- What is accepted with some cells, and what more of them change: the verdict, from what `Cells` says of the second walk.
use Prim.Native.Nat.{ℕ, ◌≤◌, ◌<◌}
use native.Mathlib.Omega.{arith}
use mathlib.Core.Path.{◌≡◌, refl, ap, subst, subst⁻¹}
use mathlib.Core.Logic.{inl}
use mathlib.Core.Bool.{Bool, true, false, not}
use lib.ListN.{length}
use lib.Dec.{T, ltb, nltb→le}
use borrow.Author.Tests.{le-ltb, lt-leb}
use Rattle.varint.specs.Outcome.{pass, fail, ◌>>=◌, ◌>>◌, Judged, Rule, refuse◌at:◌when:◌}
use Rattle.varint.specs.Bytes.{Bytes}
use Rattle.operators.specs.Operators.{sound}
use Rattle.schema.specs.FirstWalk.{first_walk}
use Rattle.rules.specs.Header.{second_walk}
use Rattle.rules.specs.Verdict.{LARGEST, Counts, counts, WIDTH, room, fills, verdict}
use Rattle.rules.specs.Demands.{Acceptable, AcceptedExactly, EnoughCells}
use Rattle.varint.proofs.Passing.{pass_same, passed_bind, passed_seq, passed_rule}
use Rattle.rules.proofs.Held.{UnlessFull, unless_bind}
use Rattle.rules.proofs.Cells.{second_unless_full, second_fits, second_passes}

not-false : (b : Bool) → T (not (not b)) → b ≡ true
not-false true t = refl
not-false false t = absurd t

abbrev free : ℕ → Bool
free visible = false

module _ (model list : Bytes) (cells : ℕ) (c : Counts) where
  pub acceptable : verdict model list cells ≡ pass c → Acceptable model list cells c
  unfolding verdict counts
  acceptable e =
      let a = passed_seq (refuse 7 at: 0 when: ltb LARGEST (length model)) _ c e in
      let b = passed_seq (refuse 8 at: 0 when: not (sound list)) _ c a.1 in
      let d = passed_seq (first_walk model) _ c b.1 in
      let w = passed_bind (second_walk model list (fills cells)) (λ w. pass (counts w)) c d.1 in
      let u = second_fits cells free (λ v l. refl) model list w.0 w.1 in
      let q = pass_same (counts w.0) c w.2 in
      record {
        list_sound = not-false (sound list) (passed_rule 8 0 (not (sound list)) b.0);
        size_kept = nltb→le LARGEST (length model) (passed_rule 7 0 (ltb LARGEST (length model)) a.0);
        wire_kept = d.0;
        rules_kept = (w.0, u.0, q);
        names_fit = subst (λ (k : Counts). k.names ≤ room cells) q u.1;
      }

  accepted : Acceptable model list cells c → verdict model list cells ≡ pass c
  unfolding verdict counts ◌>>=◌ ◌>>◌ refuse◌at:◌when:◌
  accepted a =
      let w = a.rules_kept in
      let fit : w.0.most ≤ room cells = subst⁻¹ (λ (k : Counts). k.names ≤ room cells) w.2 a.names_fit in
      let second = second_passes cells free (λ v l. refl) model list w.0 w.1 fit in
      rw (le-ltb LARGEST (length model) a.size_kept, a.list_sound, a.wire_kept, second, verdict) (ap pass w.2)

pub accepted_exactly : AcceptedExactly
unfolding AcceptedExactly
accepted_exactly model list cells c = (acceptable model list cells c, accepted model list cells c)

-- ---- more cells

unless_seq : {A : Type 0} (rule : Rule) (j u : Judged A) → UnlessFull j u → UnlessFull (rule >> j) (rule >> u)
unfolding ◌>>◌
unless_seq (pass a) j u h = h
unless_seq (fail r) j u h = inl refl

room_wider : (cells more : ℕ) → cells ≤ more → room cells ≤ room more
unfolding room WIDTH
room_wider cells more h = omega arith

fills_wider : (cells more : ℕ) → cells ≤ more → (visible : ℕ) → visible < room cells → fills more visible ≡ false
unfolding fills
fills_wider cells more h visible l = lt-leb (room more) visible (omega (arith, room_wider cells more h))

pub enough_cells : EnoughCells
unfolding EnoughCells verdict
enough_cells model list cells more h =
    unless_seq (refuse 7 at: 0 when: _) _ _
    (unless_seq (refuse 8 at: 0 when: _) _ _
    (unless_seq (first_walk model) _ _
    (unless_bind (second_walk model list (fills cells)) (second_walk model list (fills more)) (λ w. pass (counts w))
    (second_unless_full cells (fills more) (fills_wider cells more h) model list))))
