-- What judge and runner share does what its name says.
use Prim.Native.Nat.{ℕ, ◌+◌, ◌-◌, ◌<◌, min}
use native.Mathlib.Omega.{arith}
use mathlib.Core.Path.{◌≡◌, refl, sym, ap, ◌∙◌}
use mathlib.Core.Logic.{◌↔◌, ◌⊎◌, inl, inr}
use mathlib.Core.Bool.{Bool, true, false, ◌||◌, true≢false}
use mathlib.Core.List.Memᴰ
use mathlib.Core.List.{List, [], ◌∷◌, ◌++◌, Memᴰ}
use mathlib.Core.Option.{Option, none, some}
use lib.ListN.{length, drop, length-take, length-drop}
use lib.Seq.{get_or-take, get_or-drop}
use lib.Dec.{T, eqb, eqb→eq, eqb_refl}
use Rattle.wire.specs.declared.Field.{Field}
use Rattle.varint.specs.Lists.{present, first, keep}
use Rattle.varint.specs.Bytes.{Bytes, byte, part, same}
use Rattle.wire.specs.Message.{Message, all_of, first_of, place_of, text, bytes_of, message, whole}
use Rattle.varint.proofs.Lists.{some_same, true_T, or_cases, or_left, or_right, keep_exactly}
use Rattle.varint.proofs.Bytes.{same→eq, same_exactly, member_exactly}
use Rattle.wire.proofs.Fields.{message_ordered, keep_ordered, all_of_ordered}
use Rattle.wire.proofs.PlainLaws.{plain_message}
use Rattle.schema.specs.declared.Kind.TheVariants.{Model}
use Rattle.schema.specs.FirstWalk.{first_walk}
use Rattle.schema.specs.Opened.{innermost}
use Rattle.schema.proofs.Opened.{opened_gapless}
use Rattle.schema.specs.Numbers.{Graph-input, ValueInfo-name, Attribute-g, Attribute-graphs}
use Rattle.rules.specs.Names.{Name, bodies_of, name_of, name_in, inputs_of}
use Rattle.rules.specs.Runner.{find}
use Rattle.rules.specs.Demands.{Absent, SharedTrue}
use Rattle.rules.proofs.Defaults.{same_true}

some_no_none : {A : Type 0} (a : A) → ◌≡◌ {A = Option A} (some a) none → ⊥
unfolding present
some_no_none a e = true≢false (ap (λ (o : Option _). present o) e)

-- the first of the list, and then the rest
absent_cons : (x : Bytes) (n : Name) (l : List Name) → same x n.bytes ≡ false → Absent x l → Absent x (n ∷ l)
absent_cons x n l e a m k q = go (Memᴰ.cases_cons k)
  where
    go : (m ≡ n) ⊎ Memᴰ m l → ⊥
    go (inl p) = true≢false (sym (same_true x) ∙ ap (λ (u : Bytes). same x u) (sym q ∙ ap (λ (u : Name). u.bytes) p) ∙ e)
    go (inr k) = a m k q

find_newest : (x : Bytes) (names : List Name) (p : ℕ) → find x names ≡ some p
    → (newer older : List Name) × (n : Name) × (names ≡ newer ++ (n ∷ older)) × (n.bytes ≡ x) × (n.place ≡ p) × Absent x newer
unfolding find
find_newest x [] p e = absurd (some_no_none p (sym e))
find_newest x (n ∷ l) p e = go (same x n.bytes) refl e (find_newest x l p)
  where
    go : (b : Bool) → same x n.bytes ≡ b → ◌≡◌ {A = Option ℕ} (elim b [ true ↦ some n.place | false ↦ find x l ]) (some p)
        → (find x l ≡ some p → (newer older : List Name) × (m : Name) × (l ≡ newer ++ (m ∷ older)) × (m.bytes ≡ x) × (m.place ≡ p) × Absent x newer)
        → (newer older : List Name) × (m : Name) × (n ∷ l ≡ newer ++ (m ∷ older)) × (m.bytes ≡ x) × (m.place ≡ p) × Absent x newer
    go true s q ih = ([], l, n, refl, sym (same→eq x n.bytes (true_T (same x n.bytes) s)), some_same n.place p q, λ m k. absurd (Memᴰ.not-nil k))
    go false s q ih = let h = ih q in (n ∷ h.0, h.1, h.2, ap (λ (k : List Name). n ∷ k) h.3, h.4, h.5, absent_cons x n h.0 s h.6)

find_none : (x : Bytes) (names : List Name) → find x names ≡ none → Absent x names
unfolding find
find_none x [] e = λ m k. absurd (Memᴰ.not-nil k)
find_none x (n ∷ l) e = go (same x n.bytes) refl e (find_none x l)
  where
    go : (b : Bool) → same x n.bytes ≡ b → ◌≡◌ {A = Option ℕ} (elim b [ true ↦ some n.place | false ↦ find x l ]) none → (find x l ≡ none → Absent x l) → Absent x (n ∷ l)
    go true s q ih = absurd (some_no_none n.place q)
    go false s q ih = absent_cons x n l s (ih q)

-- the test that `all_of` and `bodies_of` make is on the number
number_test : (n : ℕ) (f : Field) → T (eqb n f.number) ↔ (f.number ≡ n)
number_test n f = ((λ t. sym (eqb→eq n f.number t)), λ e. rw e (eqb_refl n))

body_test : (f : Field) → T (eqb Attribute-g f.number || eqb Attribute-graphs f.number) ↔ ((f.number ≡ Attribute-g) ⊎ (f.number ≡ Attribute-graphs))
body_test f = ((λ t. from (or_cases (eqb Attribute-g f.number) (eqb Attribute-graphs f.number) t)), to)
  where
    from : T (eqb Attribute-g f.number) ⊎ T (eqb Attribute-graphs f.number) → (f.number ≡ Attribute-g) ⊎ (f.number ≡ Attribute-graphs)
    from (inl t) = inl ((number_test Attribute-g f).0 t)
    from (inr t) = inr ((number_test Attribute-graphs f).0 t)

    to : (f.number ≡ Attribute-g) ⊎ (f.number ≡ Attribute-graphs) → T (eqb Attribute-g f.number || eqb Attribute-graphs f.number)
    to (inl e) = or_left (eqb Attribute-g f.number) (eqb Attribute-graphs f.number) ((number_test Attribute-g f).1 e)
    to (inr e) = or_right (eqb Attribute-g f.number) (eqb Attribute-graphs f.number) ((number_test Attribute-graphs f).1 e)

kept_by : (P : Field → Type 0) (test : Field → Bool) (fs : List Field) (f : Field) → T (test f) ↔ P f → Memᴰ f (keep test fs) ↔ (Memᴰ f fs × P f)
kept_by P test fs f h = ((λ m. let k = (keep_exactly test f fs).0 m in (k.0, h.0 k.1)), λ k. (keep_exactly test f fs).1 (k.0, h.1 k.1))

-- ---- what a field holds, and the first of its number

text_at : (model : Bytes) (f : Field) (i : ℕ) → i < f.next - f.start → byte (text model f) i ≡ byte model (f.start + i)
unfolding text part byte
text_at model f i h = get_or-take (f.next - f.start) (drop f.start model) i 0 h ∙ get_or-drop f.start model i 0

text_length : (model : Bytes) (f : Field) → length (text model f) ≡ min (f.next - f.start) (length model - f.start)
unfolding text part
text_length model f = length-take (f.next - f.start) (drop f.start model) ∙ ap (λ (k : ℕ). min (f.next - f.start) k) (length-drop f.start model)

first_some : (fs : List Field) (f : Field) → first fs ≡ some f → (more : List Field) × (fs ≡ f ∷ more)
unfolding first
first_some [] f e = absurd (some_no_none f (sym e))
first_some (g ∷ fs) f e = (fs, ap (λ (h : Field). h ∷ fs) (some_same g f e))

first_none : (fs : List Field) → first fs ≡ none → fs ≡ []
unfolding first
first_none [] e = refl
first_none (g ∷ fs) e = absurd (some_no_none g e)

name_first : (model : Bytes) (n : ℕ) (m : Message) (f : Field) → first_of n m ≡ some f → name_of model n m ≡ name_in model f
unfolding name_of name_in bytes_of place_of
name_first model n m f e = go (first_of n m) e
  where
    go : (o : Option Field) → o ≡ some f
        → ◌≡◌ {A = Name} (record { bytes = elim o [ none ↦ [] | some g ↦ text model g ]; place = elim o [ none ↦ m.place | some g ↦ g.place ] })
        (record { bytes = text model f; place = f.place })
    go none q = absurd (some_no_none f (sym q))
    go (some g) q = ap (λ (h : Field). record { bytes = text model h; place = h.place }) (some_same g f q)

inputs_exactly : (model : Bytes) (g : Message) (x : Bytes)
    → Memᴰ x (inputs_of model g) ↔ ((f : Field) × Memᴰ f (all_of Graph-input g) × ((name_of model ValueInfo-name (message model f)).bytes ≡ x))
unfolding inputs_of name_of
inputs_exactly model g x = (
  (λ m. Memᴰ.of_map (λ f. bytes_of model ValueInfo-name (message model f)) (all_of Graph-input g) m),
  (λ k. Memᴰ.cast (sym k.2) (Memᴰ.map (λ f. bytes_of model ValueInfo-name (message model f)) k.1)),
)

pub shared_true : SharedTrue
unfolding all_of bodies_of first_of first_walk whole
shared_true = record {
  same_is_equal = same_exactly;
  member_is_membership = member_exactly;
  find_finds_newest = find_newest;
  find_misses_none = find_none;
  fields_apart = message_ordered;
  fields_whole = λ model w path o. opened_gapless model Model 0 (whole model) (omega arith) w path o;
  fields_plain = λ model w path o. plain_message model (innermost (whole model) path) (opened_gapless model Model 0 (whole model) (omega arith) w path o);
  all_of_lem = λ n m f. kept_by (λ g. g.number ≡ n) (λ g. eqb n g.number) m.fields f (number_test n f);
  all_apart = all_of_ordered;
  bodies_of_lem = λ a f.
      kept_by (λ g. (g.number ≡ Attribute-g) ⊎ (g.number ≡ Attribute-graphs)) (λ g. eqb Attribute-g g.number || eqb Attribute-graphs g.number)
      a.fields f (body_test f);
  bodies_apart = λ model f. keep_ordered _ f.start f.next (message model f).fields (message_ordered model f);
  text_reads = text_at;
  text_ends = text_length;
  first_of_lem = λ n m f e. first_some (all_of n m) f e;
  none_of = λ n m e. first_none (all_of n m) e;
  name_of_lem = name_first;
  inputs_of_lem = inputs_exactly;
}
