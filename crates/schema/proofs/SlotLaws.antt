-- The slots of a message, as the bytes of an array that the code keeps.
use Prim.Native.Nat.{ℕ, ◌<◌}
use native.Mathlib.Omega.{arith}
use Prim.Native.String.{String}
use mathlib.Core.Path.{◌≡◌, refl, ap, ◌∙◌}
use mathlib.Core.Bool.{Bool, true, false, ◌&&◌, ◌||◌}
use mathlib.Core.List.{List, [], ◌∷◌}
use mathlib.Core.Option.{Option, none, some}
use lib.ListN.{length, get_or, set, replicate, length-set, get_or-replicate}
use lib.Seq.{get_or-set_same, get_or-set_other}
use lib.Dec.{T, ltb, ltb→lt, eqb, eqb→eq}
use borrow.Author.Tests.{lt-ltb, eqb-true, eqb-false}
use Rattle.varint.specs.Lists.{contains}
use Rattle.varint.proofs.Lists.{true_T}
use Rattle.schema.specs.declared.Kind.{Kind}
use Rattle.schema.specs.declared.Kind.TheVariants.{Model, OperatorSetId, Function, Graph, Node, Attribute, Tensor, ValueInfo, TypeProto, TensorType, Shape, Dimension}
use Rattle.schema.specs.declared.Row.{Row}
use Rattle.schema.specs.declared.Row.TheVariants.{Once, Many, Packable, OneOf, Unknown}
use Rattle.schema.specs.Rows.{rows, row_in, row_of}
use Rattle.schema.specs.FirstWalk.{slot_of, taken, take_up}
use Rattle.schema.specs.Answers.{slot_index, taken_in}

-- ---- every slot is below 26

abbrev pub LowSlot : Option ℕ → Type 0
LowSlot none = Unit {0}
LowSlot (some k) = k < 26

all_below : List (ℕ × String × Row) → Bool
all_below [] = true
all_below (e ∷ more) = ltb e.0 26 && all_below more

both : (a b : Bool) → T (a && b) → T a × T b
both true b t = (tt, t)
both false b t = absurd t

low_row : (n : ℕ) (r : Row) → n < 26 → LowSlot (slot_of n r)
unfolding slot_of
low_row n (Once h) l = l
low_row n (Many h) l = tt
low_row n (Packable h) l = tt
low_row n (OneOf h) l = omega arith
low_row n Unknown l = tt

low_in : (n : ℕ) (l : List (ℕ × String × Row)) → T (all_below l) → LowSlot (slot_of n (row_in n l))
unfolding all_below row_in slot_of
low_in n [] t = tt
low_in n (e ∷ l) t = go (eqb n e.0) refl (both (ltb e.0 26) (all_below l) t) (low_in n l)
  where
    go : (b : Bool) → eqb n e.0 ≡ b → T (ltb e.0 26) × T (all_below l) → (T (all_below l) → LowSlot (slot_of n (row_in n l)))
        → LowSlot (slot_of n (elim b [ true ↦ e.2 | false ↦ row_in n l ]))
    go true q h ih = let x = eqb→eq n e.0 (true_T (eqb n e.0) q) in let y = ltb→lt e.0 26 h.0 in low_row n e.2 (omega arith)
    go false q h ih = ih h.1

pub low_slot : (k : Kind) (n : ℕ) → LowSlot (slot_of n (row_of k n))
unfolding row_of rows all_below
low_slot k n = low_in n (rows k) (below k)
  where
    below : (k : Kind) → T (all_below (rows k))
    below Model = tt
    below OperatorSetId = tt
    below Function = tt
    below Graph = tt
    below Node = tt
    below Attribute = tt
    below Tensor = tt
    below ValueInfo = tt
    below TypeProto = tt
    below TensorType = tt
    below Shape = tt
    below Dimension = tt

-- ---- the array beside the list

pub record Slots (seen slots : List ℕ) : Type 0 where
  pub size : length seen ≡ 27
  pub same : (k : ℕ) → k < 26 → eqb (get_or seen k 0) 1 ≡ contains k slots

pub slots_none : Slots (replicate 27 0) []
unfolding contains
slots_none = record { size = refl; same = λ k h. ap (λ (x : ℕ). eqb x 1) (get_or-replicate 27 k 0 0 (omega arith)) }

pub slot_low : (slot : ℕ) (o : Option ℕ) → slot ≡ slot_index o → slot < 27
unfolding slot_index
slot_low slot none e = omega arith
slot_low slot (some k) e = omega arith

pub slots_taken : {seen slots : List ℕ} (slot : ℕ) (o : Option ℕ) → Slots seen slots → slot ≡ slot_index o → LowSlot o → taken_in seen slot ≡ taken o slots
unfolding taken_in taken slot_index
slots_taken slot none q e l = rw e refl
slots_taken slot (some k) q e l = let x : slot ≡ k = omega arith in rw (x, lt-ltb k 26 l) (q.same k l)

seen_other : (seen : List ℕ) (slot k : ℕ) → (k ≡ slot → ⊥) → eqb (get_or (set seen slot 1) k 0) 1 ≡ eqb (get_or seen k 0) 1
seen_other seen slot k h = ap (λ (x : ℕ). eqb x 1) (get_or-set_other seen slot k 1 0 h)

seen_by : {seen slots : List ℕ} (slot k : ℕ) → Slots seen slots → slot < 26 → k < 26 → (b : Bool) → eqb k slot ≡ b → eqb (get_or (set seen slot 1) k 0) 1 ≡ (b || contains k slots)
seen_by {seen} slot k q l h true e =
    let s = q.size in
    let x = eqb-true k slot e in
    rw x (ap (λ (x : ℕ). eqb x 1) (get_or-set_same seen slot 1 0 (omega arith)))
seen_by {seen} slot k q l h false e = seen_other seen slot k (eqb-false k slot e) ∙ q.same k h

pub slots_more : {seen slots : List ℕ} (slot : ℕ) (o : Option ℕ) → Slots seen slots → slot ≡ slot_index o → LowSlot o → Slots (set seen slot 1) (take_up o slots)
unfolding take_up slot_index contains
slots_more {seen} slot none q e l = record { size = length-set seen slot 1 ∙ q.size; same = λ k h. seen_other seen slot k (λ x. omega arith) ∙ q.same k h }
slots_more {seen} slot (some j) q e l = let x : slot ≡ j = omega arith in record { size = length-set seen slot 1 ∙ q.size; same = λ k h. rw x (seen_by j k q l h (eqb k j) refl) }
