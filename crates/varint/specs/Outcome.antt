-- An answer in the making: a value, or the fault that ended the work. A `do` block over it lists rules in the order in
-- which they are tested, and the first that is broken decides.
use Rattle.std.specs.Prelude.{ℕ, Bool, true, false, List, [], ◌∷◌}
use Rattle.varint.specs.declared.Refusal.{Refusal}

pub data Outcome (E A : Type 0) : Type 0 where
  pass : A → Outcome E A
  fail : E → Outcome E A

infixl 10 ◌>>=◌
infixl 10 ◌>>◌
unfoldable pub ◌>>=◌ : {E A B : Type 0} → Outcome E A → (A → Outcome E B) → Outcome E B
pass a >>= f = f a
fail e >>= f = fail e

unfoldable pub ◌>>◌ : {E B : Type 0} → Outcome E (Unit {0}) → Outcome E B → Outcome E B
pass u >> o = o
fail e >> o = fail e

-- One step for each element in list order, the state handed on.
unfoldable pub each : {E A S : Type 0} → (S → A → Outcome E S) → S → List A → Outcome E S
each step s [] = pass s
each step s (a ∷ more) = step s a >>= λ t. each step t more

-- "*refused* with a number and a place": a refusal is the struct of the code. Number and place are document 01's terms: a place
-- is a byte offset in the model. Document 02, Req 08: "Every refusal gains a second number: for 23 the place of the definition already
-- visible, otherwise 0." To judge is document 01's word for testing a part of a model against its rules ("A graph judges nodes").
abbrev pub Judged : Type 0 → Type 0
Judged A = Outcome Refusal A

-- A rule has nothing to say where it holds.
abbrev pub Rule : Type 0
Rule = Judged (Unit {0})

abbrev pub refused : {A : Type 0} → ℕ → ℕ → Judged A
refused n p = fail (record { number = n; place = p; first = 0 })

-- With the second number.
abbrev pub refused_with : {A : Type 0} → (number place first : ℕ) → Judged A
refused_with n p q = fail (record { number = n; place = p; first = q })

-- One rule, as in `refuse 27 at: p when: broken`, with document 01's number.
infix 20 refuse◌at:◌when:◌
unfoldable pub refuse◌at:◌when:◌ : ℕ → ℕ → Bool → Rule
refuse n at: p when: true = refused n p
refuse n at: p when: false = pass tt

-- One rule whose refusal has a second number.
infix 20 refuse◌at:◌first:◌when:◌
unfoldable pub refuse◌at:◌first:◌when:◌ : (number place first : ℕ) → Bool → Rule
refuse n at: p first: q when: true = refused_with n p q
refuse n at: p first: q when: false = pass tt

-- All of this file, for whoever computes with it.
unfoldable pub Outcome-computes : Unit {0}
unfolding ◌>>=◌ ◌>>◌ each refuse◌at:◌when:◌ refuse◌at:◌first:◌when:◌
Outcome-computes = tt
