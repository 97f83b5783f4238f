-- Initializers of a graph in the order of the code's tests.
use Rattle.std.specs.Prelude.{Err, Ok}
use Rattle.varint.specs.Answers.{Answer}
use Prim.Native.Nat.{ℕ, ◌+◌, ◌^◌, ◌≤◌, ◌<◌}
use native.Mathlib.Omega.{arith}
use mathlib.Core.Path.{◌≡◌, refl, sym, ap, ◌∙◌}
use mathlib.Core.Bool.{Bool, true, false, not, ◌&&◌, ◌||◌}
use mathlib.Core.List.{List, [], ◌∷◌, map}
use Rattle.varint.specs.Outcome.{pass, fail, ◌>>=◌, ◌>>◌, Judged, refused, refuse◌at:◌when:◌}
use Rattle.varint.specs.declared.Refusal.{Refusal}
use Rattle.wire.specs.declared.Field.{Field}
use Rattle.varint.specs.Bytes.{Bytes, member}
use Rattle.wire.specs.Message.{number_of, place_of, text, message}
use Rattle.varint.proofs.Answers.{says}
use Rattle.varint.proofs.Refusing.{when_broken, when_kept}
use Rattle.varint.proofs.Tells.{Tells, Any, tells_bind}
use Rattle.schema.specs.Numbers.{Graph-initializer, Tensor-name, Tensor-data_type}
use Rattle.rules.specs.Names.{Name, name_of, name_in, inputs_of}
use Rattle.rules.specs.Walk.{Context, Walk, naming, define}
use Rattle.rules.specs.Types.{is_element}
use Rattle.rules.specs.Graph.{at_ir3, lacks_input, takes_defaults, is_default, default_or_new}
use Rattle.rules.specs.Verdict.{fills}
use Rattle.rules.specs.Count.{odds}
use Rattle.rules.proofs.Rules.{Adds, naming_tells}
use Rattle.rules.proofs.Counting.{past, Grew, grew_default}
use Rattle.values.proofs.NameLaws.{named_name, named_passes, named_fails}
use Rattle.headers.specs.Earlier.{earlier_in}
use Rattle.index.specs.Table.{seek, since}
use Rattle.scope.specs.Scope.{bytes_in, walk_in, step_says, with_odd, Countable, grows, Keeps, Defaultable}
use Rattle.messages.specs.Around.{context}
use Rattle.messages.specs.Again.{tensor_names, declaring, initializer_again}
use Rattle.messages.specs.declared.contexts.Surroundings.{Surroundings}
use Rattle.values.specs.Answers.{more, naming_says, name_field}
use Rattle.scope.specs.declared.scopes.Progress.{Progress}
use Rattle.scope.proofs.ScopeLaws.{scope_prefix}
use Rattle.scope.proofs.StepLaws.{Counts, grew_few, odd_walk}

-- ---- the inputs

-- names that are added leave the inputs where they are
pub default_kept : {model : Bytes} {graph : Field} {cells later : List ℕ} {outer inner : ℕ}
    → Defaultable model graph cells outer inner → {used : ℕ} → inner ≤ used → Keeps used cells later
    → Defaultable model graph later outer inner
unfolding bytes_in
default_kept {model} {graph} {cells} {later} {outer} {inner} d {used} h k = record {
  names = λ x. ap (λ (l : List Name). since outer (seek x (map (λ n. n.bytes) l))) (scope_prefix model later cells used inner h k.below) ∙ d.names x;
}

pub used_after : {inputs : ℕ} (q u : Progress) {r : Answer Progress} → inputs ≤ q.used → grows q r → r ≡ Ok u → inputs ≤ u.used
unfolding grows
used_after {inputs} q u h g e = let k : q.used ≤ u.used = rw e at g in omega arith

-- two tests, of which the first decides: t is what it said
pub first_not : {t a : Bool} (b : Bool) → t ≡ a → t ≡ false → false ≡ (a && b)
first_not {t} {a} b e k = ap (λ (c : Bool). c && b) (sym k ∙ e)

pub then_second : {t a r b : Bool} → t ≡ a → t ≡ true → r ≡ b → r ≡ (a && b)
then_second {t} {a} {r} {b} e k i = i ∙ ap (λ (c : Bool). c && b) (sym k ∙ e)

-- the names of initializers before f
abbrev Before : Bytes → (graph f : Field) → List Bytes
Before model graph f = earlier_in model Graph-initializer Tensor-name graph f

-- a is IR 3, d whether the graph is the main one, b whether an input has the name
lacks_own : (a d b : Bool) → (a && not ((d || a) && b)) ≡ (a && not b)
lacks_own true true b = refl
lacks_own true false b = refl
lacks_own false d b = refl

module _ (model : Bytes) (full : ℕ → Bool) (s : Surroundings) (graph f : Field) where
  abbrev C : Context
  C = context model s

  abbrev Inputs : List Bytes
  Inputs = inputs_of model (message model graph)

  abbrev Named : Walk → Name → Judged Walk
  Named w x = declaring model full s graph f w x

  -- ---- its name, that in g: own is whether it is one of an input's
  module _ (w : Walk) (g : Field) {x : Bytes} (t : x ≡ text model g) {own : Bool} (eo : own ≡ (takes_defaults C && member x Inputs)) where
    bears : own ≡ (takes_defaults C && member (text model g) Inputs)
    bears = eo ∙ ap (λ (y : Bytes). takes_defaults C && member y Inputs) t

    -- b is whether it is refused because it is none
    module _ {b : Bool} (eb : b ≡ (at_ir3 C && not own)) where
      lacks : {v : Bool} → b ≡ v → lacks_input C Inputs (text model g) ≡ v
      unfolding lacks_input takes_defaults
      lacks k = sym (lacks_own (at_ir3 C) C.main (member (text model g) Inputs)) ∙ ap (λ (y : Bool). at_ir3 C && not y) (sym bears) ∙ sym eb ∙ k

      pub declare_lacks : b ≡ true → refused 43 g.place ≡ Named w (name_in model g)
      unfolding declaring name_in
      declare_lacks k = sym (when_broken 43 _ _ (lacks k))

      kept : b ≡ false → default_or_new full C Inputs (Before model graph f) w (name_in model g) ≡ Named w (name_in model g)
      unfolding declaring name_in
      kept k = sym (when_kept 43 _ _ (lacks k))

      -- d is whether it is a default
      module _ (k : b ≡ false) {y : Bytes} (u : y ≡ text model g) {d : Bool} (ed : d ≡ (own && not (member y (Before model graph f)))) where
        default_by : {v : Bool} → d ≡ v → elim v [ true ↦ pass w | false ↦ define full w (name_in model g) ] ≡ Named w (name_in model g)
        unfolding default_or_new is_default name_in
        default_by i =
            ap (λ (v : Bool). elim v as (λ _. Judged Walk) [ true ↦ pass w | false ↦ define full w (name_in model g) ])
            (sym i ∙ ed
            ∙ ap (λ (z : Bytes). own && not (member z (Before model graph f))) u
            ∙ ap (λ (o : Bool). o && not (member (text model g) (Before model graph f))) bears)
            ∙ kept k

        pub declare_default : d ≡ true → pass w ≡ Named w (name_in model g)
        declare_default i = default_by i

        pub declare_new : d ≡ false → define full w (name_in model g) ≡ Named w (name_in model g)
        declare_new i = default_by i

  -- ---- one initializer: n is the answer of reading the name

  Typed : Walk → Judged Walk
  Typed v = refuse 26 at: place_of Tensor-data_type (message model f) when: not (is_element (number_of Tensor-data_type (message model f))) >> pass v

  module _ (cells : List ℕ) (p : Progress) (n : Answer (Field × ℕ)) (named : (v : Walk) → naming_says v n ≡ name_field model 22 Tensor-name v (message model f)) where
    abbrev Whole : Judged Walk
    Whole = initializer_again model full s graph (walk_in model cells p) f

    initializer_by : {o : Judged Walk} → o ≡ naming 22 (walk_in model cells p) (name_of model Tensor-name (message model f))
        → (o >>= λ t. Named t (name_of model Tensor-name (message model f)) >>= Typed) ≡ Whole
    unfolding initializer_again Typed
    initializer_by e = ap (λ (o : Judged Walk). o >>= λ t. Named t (name_of model Tensor-name (message model f)) >>= Typed) e

    pub initializer_unnamed : {x : Refusal} → n ≡ Err x → fail x ≡ Whole
    unfolding ◌>>=◌
    initializer_unnamed e = initializer_by (named_fails _ _ _ _ _ named (walk_in model cells p) e)

    -- a is the answer for the name, after it was counted, with the cells `later`
    module _ {g : Field} {j : ℕ} (e : n ≡ Ok (g, j)) {t : Progress} (counted : t ≡ with_odd p j) (later : List ℕ) (a : Answer Progress)
        (added : step_says model later a ≡ Named (walk_in model cells t) (name_in model g)) where
      initializer_named : {r : Answer Progress} → a ≡ r → (step_says model later r >>= Typed) ≡ Whole
      unfolding ◌>>=◌
      initializer_named q =
          ap (λ (o : Judged Walk). o >>= Typed)
          (says (step_says model later) added q
          ∙ ap (λ (v : Walk). Named v (name_in model g)) (odd_walk p j counted model cells)
          ∙ ap (Named (more (walk_in model cells p) j)) (named_name _ _ _ _ _ named e))
          ∙ initializer_by (named_passes _ _ _ _ _ named (walk_in model cells p) e)

      pub initializer_stops : {x : Refusal} → a ≡ Err x → step_says model later a ≡ Whole
      unfolding step_says ◌>>=◌
      initializer_stops q = ap (step_says model later) q ∙ initializer_named q

      -- d is the data type, b whether it is one of an element
      module _ {v : Progress} (q : a ≡ Ok v) {d : ℕ} (ed : d ≡ number_of Tensor-data_type (message model f)) {b : Bool} (eb : b ≡ is_element d) where
        went : (refuse 26 at: place_of Tensor-data_type (message model f) when: not b >> pass (walk_in model later v)) ≡ Whole
        unfolding step_says Typed ◌>>=◌
        went =
            ap (λ (y : Bool). refuse 26 at: place_of Tensor-data_type (message model f) when: not y >> pass (walk_in model later v)) (eb ∙ ap is_element ed)
            ∙ initializer_named q

        pub initializer_mistyped : b ≡ false → {at : ℕ} → at ≡ place_of Tensor-data_type (message model f) → refused 26 at ≡ Whole
        initializer_mistyped u ep = ap (refused 26) ep ∙ sym (when_broken 26 _ _ (ap not u)) ∙ went

        pub initializer_goes : b ≡ true → pass (walk_in model later v) ≡ Whole
        initializer_goes u = sym (when_kept 26 _ _ (ap not u)) ∙ went

-- ---- what it counts

pub initializer_grew : (model : Bytes) (full : ℕ → Bool) (s : Surroundings) (graph : Field) (w : Walk) (f : Field)
    → Tells (Grew w 0 (odds (tensor_names model f))) Any (initializer_again model full s graph w f)
unfolding initializer_again declaring name_of tensor_names
initializer_grew model full s graph w f =
    let x = name_of model Tensor-name (message model f) in
    let R : Walk → Type 0 = Grew w 0 (odds (x.bytes ∷ [])) in
    tells_bind (Adds w (odds (x.bytes ∷ []))) R Any (naming 22 w x) _ (naming_tells Any w x 22 tt tt) (λ t h.
    tells_bind (Grew t 0 0) R Any (Named model full s graph f t x) _
    (past (Grew t 0 0) (refuse 43 at: _ when: _) _
    (grew_default model full (context model s) (inputs_of model (message model graph)) (Before model graph f) t x)) (λ v i.
    past R (refuse 26 at: _ when: _) _ (omega arith, omega arith)))

pub initializer_counts : (model : Bytes) (s : Surroundings) (graph : Field) → Counts (tensor_names model) (λ size. initializer_again model (fills size) s graph)
initializer_counts model s graph size w f =
    grew_few w 0 (tensor_names model f) (initializer_again model (fills size) s graph w f) (initializer_grew model (fills size) s graph w f)

pub initializer_fits : (model : Bytes) (p : Progress) (f : Field) → Countable p (tensor_names model f) → {j : ℕ} → j ≤ 1 → p.odd + j < 2 ^ 64
unfolding Countable tensor_names
initializer_fits model p f room h = let r = room in omega arith
