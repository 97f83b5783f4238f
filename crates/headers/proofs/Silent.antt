-- Answers of which only the refusal matters.
use mathlib.Core.Path.{◌≡◌, refl, sym, ap}
use Rattle.varint.specs.Outcome.{pass, fail, ◌>>=◌, ◌>>◌, Judged, Rule}
use Rattle.varint.specs.declared.Refusal.{Refusal}
use Rattle.varint.proofs.Passing.{fail_no_pass, passed_bind}
use Rattle.schema.specs.Answers.{silent}

pub silent_fails : {A : Type 0} (o : Judged A) {x : Refusal} → silent o ≡ fail x → o ≡ fail x
unfolding silent ◌>>=◌
silent_fails (pass a) {x} e = absurd (fail_no_pass x tt (sym e))
silent_fails (fail y) {x} e = let k : y ≡ x = cc in ap fail k

pub silent_passes : {A : Type 0} (o : Judged A) → silent o ≡ pass tt → (a : A) × (o ≡ pass a)
unfolding silent
silent_passes o e = let p = passed_bind o (λ _. pass tt) tt e in (p.0, p.1)

-- ---- what comes after

pub seq_bind : {A B : Type 0} (r : Rule) (o : Judged A) (k : A → Judged B) → (r >> o >>= k) ≡ (r >> (o >>= k))
unfolding ◌>>=◌ ◌>>◌
seq_bind (pass u) o k = refl
seq_bind (fail r) o k = refl
