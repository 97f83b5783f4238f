-- A function as the code judges it is the function of document 02, and so are all of them: what the definitions keep of earlier functions answers as what the
-- code reads again.
use Prim.Native.Nat.{ℕ}
use mathlib.Core.Path.{◌≡◌, refl, sym, ap, ap₂, ◌∙◌}
use mathlib.Core.Bool.{Bool, ◌||◌}
use mathlib.Core.List.{List, [], ◌∷◌, ◌++◌, map, append_assoc}
use Rattle.varint.specs.Outcome.{pass, ◌>>=◌, each, Judged}
use Rattle.varint.specs.Bytes.{Bytes}
use Rattle.varint.proofs.Lists.{or_swap}
use Rattle.wire.specs.Message.{all_of, message}
use Rattle.wire.specs.declared.Field.{Field}
use Rattle.schema.specs.Numbers.{Function-input, Function-output}
use Rattle.rules.specs.Walk.{Context, nested_in, Walk, GraphJudge, afresh}
use Rattle.rules.specs.Identity.{Identity, identity_of, same_identity, identified}
use Rattle.rules.specs.Graph.{graph}
use Rattle.rules.specs.Function.{function_input, function_output, function_body, Heading, Functions, functions, function}
use Rattle.rules.proofs.Matching.{bind_assoc}
use Rattle.messages.specs.Around.{field_of, inside, import_number, imports_of, attributes_of}
use Rattle.messages.specs.Again.{graph_again}
use Rattle.signatures.specs.Signature.{signature_again}
use Rattle.signatures.proofs.HeadLaws.{Headed, head_again}
use Rattle.identities.specs.Functions.{functions_before}
use Rattle.identities.proofs.LoopLaws.{All, functions_split}
use Rattle.functions.specs.Function.{within, nodes_again, body_again, function_again}
use Rattle.second_walk.specs.Walks.{one_again, functions_again}
use Rattle.second_walk.proofs.AgainLaws.{kept, Answers, answers_inside, nodes_again_lem}
use Rattle.second_walk.proofs.GraphAgain.{graph_again_lem}

-- ---- the body

-- what surrounds it answers as what is read again
headed_answers : {model : Bytes} {f : Field} {v : ℕ} {h : Heading} → Headed model f v h → Answers model (within v f) h.around.imports h.around.attributes
unfolding within field_of imports_of import_number attributes_of
headed_answers k = record { imported = k.imports; declared = k.attributes }

headed_kept : {model : Bytes} {f : Field} {v : ℕ} {h : Heading} → Headed model f v h → h.around ≡ kept (within v f) h.around.imports h.around.attributes
unfolding within
headed_kept {model} {f} {v} {h} k =
    ap₂ (λ (main : Bool) (n : ℕ). record { imports = h.around.imports; main = main; ir_version = n; attributes = h.around.attributes }) k.main k.version

module _ (model : Bytes) (full : ℕ → Bool) (left v : ℕ) (f : Field) where
  abbrev Outputs : Walk → Judged Walk
  Outputs n = each (function_output model) n (all_of Function-output (message model f))

  abbrev Inner : Context → GraphJudge
  Inner c u g = graph model full left (nested_in c) u g

  body_again_lem : {imports attributes : List Bytes} → Answers model (within v f) imports attributes → (w : Walk)
      → function_body model full (kept (within v f) imports attributes) (Inner (kept (within v f) imports attributes)) w (message model f)
      ≡ body_again model full left (within v f) w f
  unfolding function_body body_again nodes_again within nested_in inside
  body_again_lem {imports} {attributes} answers w =
      ap (λ (nested : GraphJudge). function_body model full (kept (within v f) imports attributes) nested w (message model f))
      (λ i u g. graph_again_lem model full left (inside (within v f)) refl (answers_inside answers) u g i)
      ∙ ap (λ (k : Walk → Judged Walk). each (function_input model full) w (all_of Function-input (message model f)) >>= k)
      (λ i t. nodes_again_lem model full (within v f) answers (λ u g. graph_again model full left (inside (within v f)) u g) f t Outputs i)

  headed_again : {h : Heading} → Headed model f v h
      → function_body model full h.around (Inner h.around) h.walk (message model f) ≡ body_again model full left (within v f) h.walk f
  headed_again {h} k =
      ap (λ (c : Context). function_body model full c (Inner c) h.walk (message model f)) (headed_kept k) ∙ body_again_lem (headed_answers k) h.walk

-- ---- one function: `b` is whether it stood before

module _ (model list : Bytes) (full : ℕ → Bool) (v : ℕ) where
  who : Field → Identity
  who f = identity_of model v (message model f)

  abbrev Next : Functions → Field → Walk → Judged Functions
  Next w f b = pass (record { walk = b; earlier = who f ∷ w.earlier })

  function_again_lem : (w : Functions) (f : Field) (b : Bool) → b ≡ identified (who f) w.earlier
      → function model list full 7 v w f ≡ (function_again model full 7 list v b w.walk f >>= Next w f)
  unfolding function function_again who
  function_again_lem w f b e =
      head_again model list v w.earlier b (afresh w.walk) f e _ (λ t. body_again model full 7 (within v f) t f >>= Next w f)
      (λ h k. ap (λ (o : Judged Walk). o >>= Next w f) (headed_again model full 7 v f k))
      ∙ sym (bind_assoc (signature_again model list b (afresh w.walk) f) _ (Next w f))

  -- ---- all of them: `pre` stand before

  identified_last : (x : Identity) (pre : List Field) (f : Field) → identified x (map who (pre ++ (f ∷ []))) ≡ (same_identity x (who f) || identified x (map who pre))
  unfolding identified
  identified_last x [] f = refl
  identified_last x (g ∷ pre) f = ap (λ (b : Bool). same_identity x (who g) || b) (identified_last x pre f) ∙ or_swap (same_identity x (who g)) (same_identity x (who f)) _

  each_again : (pre rest : List Field) → All model ≡ pre ++ rest → (w : Functions) → ((x : Identity) → identified x w.earlier ≡ identified x (map who pre))
      → (each (function model list full 7 v) w rest >>= λ u. pass u.walk) ≡ each (one_again model list full v) w.walk rest
  unfolding each ◌>>=◌ identified one_again who
  each_again pre [] e w known = refl
  each_again pre (f ∷ rest) e w known =
      ap (λ (o : Judged Functions). o >>= (λ u. each (function model list full 7 v) u rest) >>= λ u. pass u.walk) (function_again_lem w f _ seen)
      ∙ bind_assoc (One >>= Next w f) _ _
      ∙ bind_assoc One (Next w f) _
      ∙ ap (λ (k : Walk → Judged Walk). One >>= k) (λ i b. each_again (pre ++ (f ∷ [])) rest (e ∙ sym (append_assoc pre (f ∷ []) rest))
      (record { walk = b; earlier = who f ∷ w.earlier }) later i)
    where
      One : Judged Walk
      One = one_again model list full v w.walk f

      seen : identified (who f) (map who (functions_before model f.place)) ≡ identified (who f) w.earlier
      seen = ap (λ (l : List Field). identified (who f) (map who l)) (functions_split model pre f rest e) ∙ sym (known (who f))

      later : (x : Identity) → identified x (who f ∷ w.earlier) ≡ identified x (map who (pre ++ (f ∷ [])))
      later x = ap (λ (b : Bool). same_identity x (who f) || b) (known x) ∙ sym (identified_last x pre f)

  pub functions_again_lem : (w : Walk) → (each (function model list full 7 v) (functions w) (All model) >>= λ u. pass u.walk) ≡ functions_again model list full v w
  unfolding functions_again functions
  functions_again_lem w = each_again [] (All model) refl (functions w) (λ x. refl)
