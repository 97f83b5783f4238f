-- What a ruling says.
use Rattle.std.specs.Prelude.{Err, Ok}
use Rattle.varint.specs.Answers.{Answer, outcome_of}
use mathlib.Core.Path.{◌≡◌, sym}
use Rattle.varint.specs.Outcome.{pass, fail, Rule}
use Rattle.varint.specs.declared.Refusal.{Refusal}
use Rattle.varint.proofs.Answers.{says}

module _ {o : Rule} {r : Answer (Unit {0})} (e : outcome_of r ≡ o) where
  pub ruled_kept : r ≡ (Ok tt) → o ≡ pass tt
  unfolding outcome_of
  ruled_kept k = sym (says outcome_of e k)

  pub ruled_refused : {x : Refusal} → r ≡ Err x → o ≡ fail x
  unfolding outcome_of
  ruled_refused k = sym (says outcome_of e k)
