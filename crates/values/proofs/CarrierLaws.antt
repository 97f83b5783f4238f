-- The values of attributes: the table of carriers as code has it, and one pass over an attribute's fields for all its carriers.
use Rattle.std.specs.Prelude.{is_some, Some, None}
use Rattle.wire.specs.Answers.{Sought, sought_says, found_in}
use Rattle.wire.proofs.MessageLaws.{missing, found}
use Rattle.std.specs.Prelude.{Err, Ok}
use Rattle.std.specs.declared.option.Option as code
use Rattle.varint.specs.Answers.{Answer, outcome_of, option_of}
use Prim.Native.Nat.{ℕ, ◌-◌, ◌≤◌, ◌<◌}
use native.Mathlib.Omega.{arith}
use mathlib.Core.Path.{◌≡◌, refl, sym, ap, ◌∙◌}
use mathlib.Core.Bool.{Bool, true, false, not, ◌&&◌, ◌||◌, true≢false}
use mathlib.Core.List.{List, [], ◌∷◌, map}
use mathlib.Core.Option.{Option, none, some}
use lib.Dec.{T, not_T, eqb, eqb→eq}
use borrow.Author.Tests.{eq-eqb, ne_eqb}
use Rattle.varint.specs.Outcome.{pass}
use Rattle.varint.specs.declared.Refusal.{Refusal}
use Rattle.wire.specs.declared.Field.{Field}
use Rattle.wire.specs.declared.Cursor.{Cursor}
use Rattle.varint.specs.Lists.{is_empty, present, keep, contains, lookup}
use Rattle.varint.specs.Bytes.{Bytes}
use Rattle.wire.specs.Wire.{field, fields}
use Rattle.wire.specs.Message.{Message, all_of, first_of, number_of, message}
use Rattle.wire.specs.Answers.{contents_of, with_cursor}
use Rattle.varint.proofs.Lists.{or_swap, no_first, true_T, T_true, T_false, subset, contains_subset, NoneOf, none_contained}
use Rattle.wire.proofs.CursorLaws.{answer_read, answer_refused}
use Rattle.wire.proofs.Reading.{Fits, field_tells}
use Rattle.wire.proofs.Fields.{fields_done, fields_step, fields_stop}
use Rattle.schema.specs.Numbers.{Attribute-type, Attribute-g, Attribute-graphs}
use Rattle.rules.specs.Node.{carriers, carrier_numbers, needed, foreign, bad_value, bad_reference}
use Rattle.rules.specs.Function.{bad_default}

-- ---- numbers that no arm of a `match` has

pub contained_none : (n : ℕ) (l m : List ℕ) → T (subset l m) → NoneOf n m → false ≡ contains n l
contained_none n l m s h = sym (T_false (contains n l) (not_T (contains n l) (λ t. none_contained n m h (contains_subset l m n s t))))

-- ---- the fields that hold graphs

pub body_at : (m : ℕ) {n : ℕ} → n ≡ m → (eqb Attribute-g m || eqb Attribute-graphs m) ≡ (eqb Attribute-g n || eqb Attribute-graphs n)
body_at m e = ap (λ (n : ℕ). eqb Attribute-g n || eqb Attribute-graphs n) (sym e)

pub body_none : (n : ℕ) → NoneOf n (Attribute-graphs ∷ Attribute-g ∷ []) → false ≡ (eqb Attribute-g n || eqb Attribute-graphs n)
body_none n h = sym (rw (ne_eqb Attribute-g n (λ e. h.0.1 (sym e)), ne_eqb Attribute-graphs n (λ e. h.1 (sym e))) refl)

-- ---- one pass over the fields

unfoldable Holding : ℕ → List Field → Message
Holding place fs = record { place = place; fields = fs }

foreign_nothing : (mine place : ℕ) (cs : List (ℕ × ℕ)) → foreign mine cs (Holding place []) ≡ false
unfolding foreign all_of keep is_empty Holding
foreign_nothing mine place [] = refl
foreign_nothing mine place (e ∷ cs) = go (eqb e.1 mine) (foreign_nothing mine place cs)
  where
    go : (b : Bool) → foreign mine cs (Holding place []) ≡ false → ((not b && false) || foreign mine cs (Holding place [])) ≡ false
    go true h = h
    go false h = h

foreign_more : (mine place : ℕ) (cs : List (ℕ × ℕ)) (f : Field) (fs : List Field)
    → foreign mine cs (Holding place (f ∷ fs)) ≡ ((not (eqb f.number mine) && contains f.number (map (λ c. c.1) cs)) || foreign mine cs (Holding place fs))
unfolding foreign all_of keep is_empty contains Holding
foreign_more mine place [] f fs = none (not (eqb f.number mine))
  where
    none : (b : Bool) → false ≡ ((b && false) || false)
    none true = refl
    none false = refl
foreign_more mine place (e ∷ cs) f fs = go (eqb e.1 f.number) refl (eqb f.number e.1) refl _ (foreign_more mine place cs f fs)
  where
    one : (q p c k r : Bool) → q ≡ p → ((q && true) || ((p && c) || r)) ≡ ((p && true) || ((q && k) || r))
    one q true c k r h = rw h refl
    one q false c k r h = rw h refl

    go : (b : Bool) → eqb e.1 f.number ≡ b → (d : Bool) → eqb f.number e.1 ≡ d → (r : Bool)
        → r ≡ ((not (eqb f.number mine) && contains f.number (map (λ c. c.1) cs)) || foreign mine cs (Holding place fs))
        → ((not (eqb e.1 mine) && not (is_empty {A = Field} (elim b [ true ↦ f ∷ keep (λ g. eqb e.1 g.number) fs | false ↦ keep (λ g. eqb e.1 g.number) fs ]))) || r)
        ≡ ((not (eqb f.number mine) && (d || contains f.number (map (λ c. c.1) cs)))
        || ((not (eqb e.1 mine) && not (is_empty (keep (λ g. eqb e.1 g.number) fs))) || foreign mine cs (Holding place fs)))
    go true h true k r ih =
        ap (λ (x : Bool). (not (eqb e.1 mine) && true) || x) ih
        ∙ one (not (eqb e.1 mine)) (not (eqb f.number mine)) (contains f.number (map (λ c. c.1) cs))
        (not (is_empty (keep (λ g. eqb e.1 g.number) fs))) (foreign mine cs (Holding place fs))
        (ap (λ (n : ℕ). not (eqb n mine)) (eqb→eq e.1 f.number (true_T (eqb e.1 f.number) h)))
    go true h false k r ih = absurd (true≢false (sym (eq-eqb f.number e.1 (sym (eqb→eq e.1 f.number (true_T (eqb e.1 f.number) h)))) ∙ k))
    go false h true k r ih = absurd (true≢false (sym (eq-eqb e.1 f.number (sym (eqb→eq f.number e.1 (true_T (eqb f.number e.1) k)))) ∙ h))
    go false h false k r ih =
        ap (λ (x : Bool). (not (eqb e.1 mine) && not (is_empty (keep (λ g. eqb e.1 g.number) fs))) || x) ih
        ∙ or_swap (not (eqb e.1 mine) && not (is_empty (keep (λ g. eqb e.1 g.number) fs)))
        (not (eqb f.number mine) && contains f.number (map (λ c. c.1) cs)) (foreign mine cs (Holding place fs))

foreign_place : (mine p q : ℕ) (cs : List (ℕ × ℕ)) (fs : List Field) → foreign mine cs (Holding p fs) ≡ foreign mine cs (Holding q fs)
unfolding foreign all_of Holding
foreign_place mine p q [] fs = refl
foreign_place mine p q (e ∷ cs) fs = ap (λ (x : Bool). (not (eqb e.1 mine) && not (is_empty (keep (λ g. eqb e.1 g.number) fs))) || x) (foreign_place mine p q cs fs)

-- is there another carrier from `pos` on?
pub foreign_from : (model : Bytes) → (mine end pos : ℕ) → Bool
foreign_from model mine end pos = foreign mine carriers (Holding 0 (fields model end pos))

pub look_all : (model : Bytes) (mine : ℕ) (a : Field) {c : Cursor} → c ≡ contents_of a → foreign_from model mine c.end c.at ≡ foreign mine carriers (message model a)
unfolding foreign_from message Holding contents_of
look_all model mine a e = rw e (foreign_place mine 0 a.place carriers (fields model a.next a.start))

-- the search has come to the cursor `c`
pub record Looking (model : Bytes) (mine end start : ℕ) (c : Cursor) : Type 0 where
  pub ends : c.end ≡ end
  pub rest : foreign_from model mine end c.at ≡ foreign_from model mine end start

pub look_start : (model : Bytes) (mine : ℕ) (c : Cursor) → Looking model mine c.end c.at c
look_start model mine c = record { ends = refl; rest = refl }

module _ {model : Bytes} {mine end start : ℕ} {c : Cursor} (q : Looking model mine end start c) where
  pub look_done : c.end ≤ c.at → false ≡ foreign_from model mine end start
  unfolding foreign_from
  look_done h = sym (ap (λ (l : List Field). foreign mine carriers (Holding 0 l)) (fields_done model end c.at (rw q.ends at h)) ∙ foreign_nothing mine 0 carriers) ∙ q.rest

  module _ (h : c.at < c.end) {r : Answer (Field × Cursor)} (read : outcome_of r ≡ with_cursor c.end (field model c.end c.at)) where
    pub look_stop : {x : Refusal} → r ≡ Err x → false ≡ foreign_from model mine end start
    unfolding foreign_from
    look_stop {x} e =
        sym (ap (λ (l : List Field). foreign mine carriers (Holding 0 l))
        (fields_stop model end c.at x (rw q.ends at h) (rw q.ends at (answer_refused model c read e)))
        ∙ foreign_nothing mine 0 carriers)
        ∙ q.rest

    module _ {f : Field} {next : Cursor} (e : r ≡ Ok (f, next)) where
      went : (field model end c.at ≡ pass f) × (next ≡ record { at = f.next; end = end })
      went = rw q.ends at (answer_read model c read e)

      at_next : next.at ≡ f.next
      at_next = ap (λ (x : Cursor). x.at) went.1

      parted : {b : Bool} → b ≡ (not (eqb f.number mine) && contains f.number carrier_numbers)
          → (b || foreign_from model mine end next.at) ≡ foreign_from model mine end start
      unfolding foreign_from carrier_numbers
      parted k =
          ap (λ (x : Bool). x || foreign mine carriers (Holding 0 (fields model end next.at))) k
          ∙ ap (λ (n : ℕ). (not (eqb f.number mine) && contains f.number (map (λ x. x.1) carriers)) || foreign mine carriers (Holding 0 (fields model end n))) at_next
          ∙ sym (foreign_more mine 0 carriers f (fields model end f.next))
          ∙ sym (ap (λ (l : List Field). foreign mine carriers (Holding 0 l)) (fields_step model end c.at f (rw q.ends at h) went.0))
          ∙ q.rest

      module _ {b : Bool} (k : b ≡ (not (eqb f.number mine) && contains f.number carrier_numbers)) where
        pub look_here : b ≡ true → true ≡ foreign_from model mine end start
        look_here i = sym (ap (λ (x : Bool). x || foreign_from model mine end next.at) i) ∙ parted k

        pub look_next : b ≡ false → Looking model mine end start next
        look_next i = record {
          ends = ap (λ (x : Cursor). x.end) went.1;
          rest = sym (ap (λ (x : Bool). x || foreign_from model mine end next.at) i) ∙ parted k;
        }

      pub look_falls : end - next.at < end - c.at
      look_falls =
          let g : Fits c.at end f = rw went.0 at (field_tells model end c.at) in
          let n = at_next in
          omega arith

-- ---- the value

unfoldable Valued : (kind : ℕ) → Message → Option ℕ → Bool
Valued kind a o = elim o [ none ↦ true | some n ↦ foreign n carriers a || (needed kind && is_empty (all_of n a)) ]

module _ (model : Bytes) (a : Field) {kind : ℕ} (k : kind ≡ number_of Attribute-type (message model a)) {o : code.Option ℕ}
    (c : option_of o ≡ lookup kind carriers) where
  value_by : {p : code.Option ℕ} → o ≡ p
      → Valued kind (message model a) (option_of p) ≡ bad_value (number_of Attribute-type (message model a)) (message model a)
  unfolding bad_value Valued
  value_by e = ap (Valued kind (message model a)) (ap option_of (sym e) ∙ c) ∙ ap (λ (n : ℕ). bad_value n (message model a)) k

  -- the type is outside 1..14,
  pub value_outside : o ≡ None → true ≡ bad_value (number_of Attribute-type (message model a)) (message model a)
  unfolding Valued option_of
  value_outside h = value_by h

  -- or it has the carrier `mine`
  module _ {mine : ℕ} (h : o ≡ Some mine) where
    valued : {b n i : Bool} → b ≡ foreign mine carriers (message model a) → n ≡ needed kind → i ≡ is_empty (all_of mine (message model a))
        → (b || (n && i)) ≡ bad_value (number_of Attribute-type (message model a)) (message model a)
    unfolding Valued option_of
    valued e f g = rw (e, f, g) (value_by h)

    module _ {b : Bool} (e : b ≡ foreign mine carriers (message model a)) where
      pub value_foreign : b ≡ true → true ≡ bad_value (number_of Attribute-type (message model a)) (message model a)
      value_foreign t = sym (ap (λ (x : Bool). x || (needed kind && is_empty (all_of mine (message model a)))) t) ∙ valued e refl refl

      module _ (t : b ≡ false) {n : Bool} (f : n ≡ needed kind) where
        pub value_free : n ≡ false → false ≡ bad_value (number_of Attribute-type (message model a)) (message model a)
        value_free u =
            sym (ap (λ (x : Bool). x || (n && is_empty (all_of mine (message model a)))) t
            ∙ ap (λ (x : Bool). x && is_empty (all_of mine (message model a))) u)
            ∙ valued e f refl

        module _ (u : n ≡ true) where
          held : {i : Bool} → is_empty (all_of mine (message model a)) ≡ i → i ≡ bad_value (number_of Attribute-type (message model a)) (message model a)
          held {i} g = sym (ap (λ (x : Bool). x || (n && i)) t ∙ ap (λ (x : Bool). x && i) u) ∙ valued e f (sym g)

          pub value_lacks : none ≡ first_of mine (message model a) → true ≡ bad_value (number_of Attribute-type (message model a)) (message model a)
          unfolding first_of present
          value_lacks g = held (no_first (all_of mine (message model a)) ∙ ap (λ (o : Option Field). not (present o)) (sym g))

          pub value_has : {x : Field} → some x ≡ first_of mine (message model a) → false ≡ bad_value (number_of Attribute-type (message model a)) (message model a)
          unfolding first_of present
          value_has g = held (no_first (all_of mine (message model a)) ∙ ap (λ (o : Option Field). not (present o)) (sym g))

          -- by what was looked for; b says that nothing was found
          pub value_carried : (r : Sought) → sought_says r ≡ found_in a.next (first_of mine (message model a)) → (b : Bool) → is_some r ≡ not b
              → b ≡ bad_value (number_of Attribute-type (message model a)) (message model a)
          value_carried None e true k = value_lacks (missing model mine a None e refl)
          value_carried None e false k = absurd (true≢false (sym k))
          value_carried (Some (f, c)) e false k = value_has (found model mine a (Some (f, c)) e refl)
          value_carried (Some (f, c)) e true k = absurd (true≢false k)

-- ---- references and defaults

untyped : (o : code.Option ℕ) (b : Bool) → is_some o ≡ not b → not (present (option_of o)) ≡ b
unfolding present option_of
untyped None true q = refl
untyped None false q = absurd (true≢false (sym q))
untyped (Some n) true q = absurd (true≢false q)
untyped (Some n) false q = refl

module _ (model : Bytes) (a : Field) {kind : ℕ} (k : kind ≡ number_of Attribute-type (message model a)) where
  -- b says that the type is outside 1..14
  module _ (o : code.Option ℕ) (c : option_of o ≡ lookup kind carriers) {b : Bool} (q : is_some o ≡ not b) where
    reference_by : (d : Bool) → b ≡ d
        → (d || foreign 0 carriers (message model a)) ≡ bad_reference (number_of Attribute-type (message model a)) (message model a)
    unfolding bad_reference
    reference_by d h =
        ap (λ (x : Bool). x || foreign 0 carriers (message model a)) (sym (untyped o b q ∙ h) ∙ ap (λ (p : Option ℕ). not (present p)) c)
        ∙ ap (λ (n : ℕ). bad_reference n (message model a)) k

    pub reference_untyped : b ≡ true → true ≡ bad_reference (number_of Attribute-type (message model a)) (message model a)
    reference_untyped h = reference_by true h

    pub reference_typed : b ≡ false → {d : Bool} → d ≡ foreign 0 carriers (message model a)
        → d ≡ bad_reference (number_of Attribute-type (message model a)) (message model a)
    reference_typed h e = e ∙ reference_by false h

  -- n is a type that the test of the code names
  pub default_graph : {n : ℕ} → kind ≡ n → T (contains n (5 ∷ 10 ∷ [])) → true ≡ bad_default (number_of Attribute-type (message model a)) (message model a)
  unfolding bad_default
  default_graph {n} e t =
      ap (λ (b : Bool). b || bad_value n (message model a)) (sym (T_true (contains n (5 ∷ 10 ∷ [])) t))
      ∙ ap (λ (m : ℕ). bad_default m (message model a)) (sym e ∙ k)

  pub default_other : NoneOf kind (10 ∷ 5 ∷ []) → {b : Bool} → b ≡ bad_value (number_of Attribute-type (message model a)) (message model a)
      → b ≡ bad_default (number_of Attribute-type (message model a)) (message model a)
  unfolding bad_default contains subset
  default_other h {b} e =
      e ∙ ap (λ (n : ℕ). bad_value n (message model a)) (sym k)
      ∙ ap (λ (x : Bool). x || bad_value kind (message model a)) (contained_none kind (5 ∷ 10 ∷ []) (10 ∷ 5 ∷ []) tt h)
      ∙ ap (λ (m : ℕ). bad_default m (message model a)) k
