-- The rules of types in the order of the code's tests.
use Rattle.std.specs.Prelude.{Ok}
use Rattle.varint.specs.Answers.{Answer}
use Prim.Native.Nat.{ℕ, ◌≤◌, ◌<◌, ◌^◌}
use native.Mathlib.Omega.{arith}
use mathlib.Core.Path.{◌≡◌, refl, sym, ap, ◌∙◌}
use mathlib.Core.Bool.{Bool, true, false, not}
use mathlib.Core.List.{List, [], ◌∷◌, flat_map}
use mathlib.Core.Option.{Option, none, some}
use lib.ListN.{length}
use lib.Dec.{leb}
use borrow.Author.Tests.{le-leb, lt-leb}
use Rattle.varint.specs.Outcome.{pass, each, Judged, refused}
use Rattle.wire.specs.declared.Field.{Field}
use Rattle.varint.specs.Lists.{is_empty, within}
use Rattle.varint.specs.Bytes.{Bytes}
use Rattle.wire.specs.Message.{all_of, first_of, number_of, place_of, text, bytes_of, message}
use Rattle.wire.proofs.Along.{all_from}
use Rattle.varint.proofs.Refusing.{when_broken, when_kept}
use Rattle.schema.specs.Numbers.{ValueInfo-type, TypeProto-tensor, TensorType-elem_type, TensorType-shape, Shape-dim, Dimension-dim_value, Dimension-dim_param}
use Rattle.rules.specs.Names.{name_in}
use Rattle.rules.specs.Walk.{Context, in_main, Walk, start, tested, naming}
use Rattle.rules.specs.Types.{negative, is_element, dim_param, dim, tensor_type, declared_type}
use Rattle.rules.specs.Count.{odds}
use Rattle.rules.proofs.Rules.{Adds}
use Rattle.rules.proofs.Counting.{grew_dim}
use Rattle.rules.proofs.NamesFew.{from_few}
use Rattle.values.specs.Answers.{more, tally_says}
use Rattle.values.proofs.TallyLaws.{more_none, tally_few}
use Rattle.values.proofs.NameLaws.{empty_none, empty_some}

pub element_below : (n : ℕ) → n < 1 → false ≡ is_element n
unfolding is_element within
element_below n h = simp (lt-leb 1 n h)

pub element_rest : (n : ℕ) → 1 ≤ n → leb n 23 ≡ is_element n
unfolding is_element within
element_rest n h = simp (le-leb 1 n h)

-- the name that is tested of a dim; one is counted at most
abbrev pub dim_names : (model : Bytes) → Field → List Bytes
dim_names model d = bytes_of model Dimension-dim_param (message model d) ∷ []

pub dim_few : (model : Bytes) (f : Field) {t : Answer ℕ} → ((w : Walk) → tally_says w t ≡ dim model w f) → {k : ℕ} → t ≡ Ok k → k ≤ length (dim_names model f)
dim_few model f e i = tally_few start (e start) (dim_names model f) (Adds start (odds (dim_names model f))) (λ v a. a.3) (grew_dim model start f) i

-- as many as there are fields, so fewer than 64 bits can count
singles : (g : Field → Bytes) (l : List Field) → length (flat_map (λ f. g f ∷ []) l) ≡ length l
unfolding flat_map
singles g [] = refl
singles g (f ∷ l) = let e = singles g l in omega arith

pub dims_few : (model : Bytes) (number end start : ℕ) → length (flat_map (dim_names model) (all_from model number end start)) ≤ end
dims_few model number end start =
    let e = singles (λ d. bytes_of model Dimension-dim_param (message model d)) (all_from model number end start) in
    let h = from_few model number end start in
    omega arith

module _ (model : Bytes) (f : Field) (w : Walk) where
  -- ---- a dim

  pub dim_negative : {n p : ℕ} → n ≡ number_of Dimension-dim_value (message model f) → p ≡ place_of Dimension-dim_value (message model f)
      → 2 ^ 63 ≤ n → refused 38 p ≡ dim model w f
  unfolding dim negative
  dim_negative {n} {p} e k h =
      ap (λ (q : ℕ). refused 38 q) k
      ∙ sym (when_broken 38 (place_of Dimension-dim_value (message model f)) _ (ap negative (sym e) ∙ le-leb (2 ^ 63) n h))

  module _ {n : ℕ} (e : n ≡ number_of Dimension-dim_value (message model f)) (h : n < 2 ^ 63) where
    dim_rest : {o : Option Field} → o ≡ first_of Dimension-dim_param (message model f)
        → elim o as (λ _. Judged Walk) [ none ↦ pass w | some p ↦ naming 21 w (name_in model p) ] ≡ dim model w f
    unfolding dim dim_param negative
    dim_rest k =
        ap (λ (o : Option Field). elim o as (λ _. Judged Walk) [ none ↦ pass w | some p ↦ naming 21 w (name_in model p) ]) k
        ∙ sym (when_kept 38 _ _ (ap negative (sym e) ∙ lt-leb (2 ^ 63) n h))

    pub dim_nameless : none ≡ first_of Dimension-dim_param (message model f) → pass (more w 0) ≡ dim model w f
    dim_nameless k = ap pass (more_none w) ∙ dim_rest k

    module _ {g : Field} (k : some g ≡ first_of Dimension-dim_param (message model f)) {x : Bytes} (t : x ≡ text model g) where
      pub dim_empty : length x ≡ 0 → refused 21 g.place ≡ dim model w f
      unfolding naming name_in
      dim_empty l = sym (when_broken 21 g.place _ (ap is_empty (sym t) ∙ empty_none x l)) ∙ dim_rest k

      pub dim_tested : (length x ≡ 0 → ⊥) → tested w (record { bytes = x; place = g.place }) ≡ dim model w f
      unfolding naming name_in
      dim_tested l =
          ap (λ (y : Bytes). tested w (record { bytes = y; place = g.place })) t
          ∙ sym (when_kept 21 g.place _ (ap is_empty (sym t) ∙ empty_some x l))
          ∙ dim_rest k

  -- ---- a tensor's type

  module _ {b : Bool} {n : ℕ} (e : n ≡ number_of TensorType-elem_type (message model f)) (i : b ≡ is_element n) where
    pub elem_bad : {p : ℕ} → p ≡ place_of TensorType-elem_type (message model f) → b ≡ false → refused 25 p ≡ tensor_type model (message model f) w
    unfolding tensor_type
    elem_bad k t =
        ap (λ (q : ℕ). refused 25 q) k
        ∙ sym (when_broken 25 (place_of TensorType-elem_type (message model f)) _
        (ap (λ (m : ℕ). not (is_element m)) (sym e) ∙ ap not (sym i) ∙ ap not t))

    shaped : b ≡ true → {o : Option Field} → o ≡ first_of TensorType-shape (message model f)
        → tensor_type model (message model f) w
        ≡ elim o [ none ↦ refused 37 f.place | some shape ↦ each (dim model) w (all_of Shape-dim (message model shape)) ]
    unfolding tensor_type message
    shaped t {o} k =
        when_kept 25 _ _ (ap (λ (m : ℕ). not (is_element m)) (sym e) ∙ ap not (sym i) ∙ ap not t)
        ∙ ap (λ (x : Option Field). elim x [ none ↦ refused 37 f.place | some shape ↦ each (dim model) w (all_of Shape-dim (message model shape)) ]) (sym k)

    pub shape_none : b ≡ true → none ≡ first_of TensorType-shape (message model f) → refused 37 f.place ≡ tensor_type model (message model f) w
    shape_none t k = sym (shaped t k)

    pub shape_some : b ≡ true → {g : Field} → some g ≡ first_of TensorType-shape (message model f)
        → each (dim model) w (all_of Shape-dim (message model g)) ≡ tensor_type model (message model f) w
    shape_some t k = sym (shaped t k)

  -- ---- the type that is declared

  declared : {o : Option Field} → o ≡ first_of ValueInfo-type (message model f)
      → declared_type model (message model f) w
      ≡ elim o [
        | none ↦ refused 24 f.place
        | some type ↦ elim (first_of TypeProto-tensor (message model type))
            [ none ↦ refused 24 type.place | some tensor ↦ tensor_type model (message model tensor) w ]
      ]
  unfolding declared_type message
  declared k =
      ap (λ (x : Option Field). elim x [
        | none ↦ refused 24 f.place
        | some type ↦ elim (first_of TypeProto-tensor (message model type))
            [ none ↦ refused 24 type.place | some tensor ↦ tensor_type model (message model tensor) w ]
      ]) (sym k)

  pub type_none : none ≡ first_of ValueInfo-type (message model f) → refused 24 f.place ≡ declared_type model (message model f) w
  type_none k = sym (declared k)

  module _ {g : Field} (k : some g ≡ first_of ValueInfo-type (message model f)) where
    within_type : {o : Option Field} → o ≡ first_of TypeProto-tensor (message model g)
        → declared_type model (message model f) w ≡ elim o [ none ↦ refused 24 g.place | some tensor ↦ tensor_type model (message model tensor) w ]
    within_type l = declared k ∙ ap (λ (x : Option Field). elim x [ none ↦ refused 24 g.place | some tensor ↦ tensor_type model (message model tensor) w ]) (sym l)

    pub tensor_none : none ≡ first_of TypeProto-tensor (message model g) → refused 24 g.place ≡ declared_type model (message model f) w
    tensor_none l = sym (within_type l)

    pub tensor_some : {h : Field} → some h ≡ first_of TypeProto-tensor (message model g)
        → tensor_type model (message model h) w ≡ declared_type model (message model f) w
    tensor_some l = sym (within_type l)

-- a rule of the main graph alone
module _ (k : Context) {main : Bool} (e : k.main ≡ main) (rule : Walk → Judged Walk) (w : Walk) where
  pub main_does : main ≡ true → rule w ≡ in_main k rule w
  unfolding in_main
  main_does h = ap (λ (b : Bool). elim b [ true ↦ rule w | false ↦ pass w ]) (sym (e ∙ h))

  pub main_not : main ≡ false → pass (more w 0) ≡ in_main k rule w
  unfolding in_main
  main_not h = ap pass (more_none w) ∙ ap (λ (b : Bool). elim b [ true ↦ rule w | false ↦ pass w ]) (sym (e ∙ h))
