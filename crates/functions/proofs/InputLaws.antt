-- The inputs and outputs of a function in the order of the code's tests.
use Rattle.std.specs.Prelude.{Err, Ok}
use Rattle.varint.specs.Answers.{Answer}
use Prim.Native.Nat.{ℕ, ◌+◌, ◌≤◌}
use native.Mathlib.Omega.{arith}
use mathlib.Core.Path.{◌≡◌, refl, sym, ap, ◌∙◌}
use mathlib.Core.Bool.{Bool, true, false, not}
use mathlib.Core.List.{List, [], ◌∷◌}
use lib.ListN.{length}
use Rattle.varint.specs.Outcome.{pass, fail, ◌>>=◌, ◌>>◌, Judged, refused, refuse◌at:◌when:◌}
use Rattle.varint.specs.declared.Refusal.{Refusal}
use Rattle.wire.specs.declared.Field.{Field}
use Rattle.varint.specs.Bytes.{Bytes}
use Rattle.wire.specs.Message.{text}
use Rattle.varint.proofs.Tells.{Any, tells_weaken}
use Rattle.varint.proofs.Refusing.{when_broken, when_kept}
use Rattle.rules.specs.Names.{Name, name_in}
use Rattle.rules.specs.Walk.{Walk, visible, naming, define}
use Rattle.rules.specs.Verdict.{fills}
use Rattle.rules.specs.Count.{odds}
use Rattle.rules.specs.Function.{function_input, function_output}
use Rattle.rules.proofs.Counting.{Grew}
use Rattle.rules.proofs.FunctionCounting.{grew_function_input, grew_function_output}
use Rattle.rules.proofs.NamesFew.{odds_few}
use Rattle.values.specs.Answers.{more, tally_says}
use Rattle.values.proofs.TallyLaws.{tallied, untallied, tally_few}
use Rattle.messages.specs.Again.{field_names}
use Rattle.scope.proofs.StepLaws.{Counts}
use Rattle.nodes.proofs.NodeCounts.{seeing}

-- t is the tally of the name
module _ (model : Bytes) (f : Field) (t : Answer ℕ) (e : (w : Walk) → tally_says w t ≡ naming 22 w (name_in model f)) (w : Walk) where
  module _ (full : ℕ → Bool) where
    input_by : {o : Judged Walk} → naming 22 w (name_in model f) ≡ o → (o >>= λ v. define full v (name_in model f)) ≡ function_input model full w f
    unfolding function_input
    input_by k = ap (λ (o : Judged Walk). o >>= λ v. define full v (name_in model f)) (sym k)

    pub input_bad : {r : Refusal} → t ≡ Err r → fail r ≡ function_input model full w f
    unfolding ◌>>=◌
    input_bad i = input_by (untallied w (e w) i)

    pub input_new : {k : ℕ} → t ≡ Ok k → define full (more w k) (name_in model f) ≡ function_input model full w f
    unfolding ◌>>=◌
    input_new i = input_by (tallied w (e w) i)

  Seen : Walk → Judged Walk
  Seen v = refuse 35 at: f.place when: not (visible (text model f) v.scope) >> pass v

  output_by : {o : Judged Walk} → naming 22 w (name_in model f) ≡ o → (o >>= Seen) ≡ function_output model w f
  unfolding function_output Seen name_in
  output_by k = ap (λ (o : Judged Walk). o >>= Seen) (sym k)

  pub output_bad : {r : Refusal} → t ≡ Err r → tally_says w t ≡ function_output model w f
  unfolding tally_says ◌>>=◌
  output_bad i = ap (tally_says w) i ∙ output_by (untallied w (e w) i)

  -- v is whether it is visible in the scope
  module _ {k : ℕ} (i : t ≡ Ok k) {x : Bytes} (ex : x ≡ text model f) {scope : List Name} (s : w.scope ≡ scope) {v : Bool} (j : v ≡ visible x scope) where
    seen : (refuse 35 at: f.place when: not v >> pass (more w k)) ≡ function_output model w f
    unfolding Seen more ◌>>=◌
    seen =
        ap (λ (y : Bool). refuse 35 at: f.place when: not y >> pass (more w k))
        (j ∙ ap (λ (y : Bytes). visible y scope) ex ∙ ap (visible (text model f)) (sym s))
        ∙ output_by (tallied w (e w) i)

    pub output_visible : v ≡ true → pass (more w k) ≡ function_output model w f
    output_visible l = sym (when_kept 35 f.place _ (ap not l)) ∙ seen

    pub output_hidden : v ≡ false → refused 35 f.place ≡ function_output model w f
    output_hidden l = sym (when_broken 35 f.place _ (ap not l)) ∙ seen

-- each counts no more than its name
pub input_counts : (model : Bytes) → Counts (field_names model) (λ n. function_input model (fills n))
unfolding field_names
input_counts model n w f =
    let few = odds_few (text model f ∷ []) in
    tells_weaken (Grew w 0 (odds (text model f ∷ []))) (λ v. v.odd ≤ w.odd + length (text model f ∷ [])) Any Any (function_input model (fills n) w f)
    (λ v a. let e = a.1 in omega arith) (λ r _. tt) (grew_function_input model (fills n) w f)

pub output_few : (model : Bytes) (scope : List Name) (f : Field) {t : Answer ℕ}
    → ((w : Walk) → w.scope ≡ scope → tally_says w t ≡ function_output model w f)
    → {k : ℕ} → t ≡ Ok k → k ≤ length (field_names model f)
unfolding field_names
output_few model scope f e i =
    let w = seeing scope in
    tally_few w (e w refl) (text model f ∷ []) (Grew w 0 (odds (text model f ∷ []))) (λ v a. a.1) (grew_function_output model (λ _. false) w f) i
