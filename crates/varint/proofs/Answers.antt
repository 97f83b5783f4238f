-- What an answer says, where it is known which variant it is.
use mathlib.Core.Path.{◌≡◌, sym, ap, ◌∙◌}
use Rattle.std.specs.Prelude.{Err}
use Rattle.std.specs.declared.result.Result.{Result}
use Rattle.std.specs.Result.{IsErrAnd}
use Rattle.std.proofs.lemmas.Result.{err_from_is_err_and}

pub says : {A B : Type 0} (f : A → B) {r v : A} {o : B} → f r ≡ o → r ≡ v → f v ≡ o
says f h k = ap f (sym k) ∙ h

-- What `?` hands out is the error that it met,
pub erred : {A E : Type 0} {r : Result A E} {e : E} → IsErrAnd r (λ x. x ≡ e) → r ≡ Err e
erred {r = r} h = let p = err_from_is_err_and r h in p.1 ∙ ap Err p.2

-- and where the types are the same, the answer that it met.
pub passed_on : {A E : Type 0} {r : Result A E} (met : Result A E) {e : E} → met ≡ Err e → IsErrAnd r (λ x. x ≡ e) → r ≡ met
passed_on met k h = erred h ∙ sym k
