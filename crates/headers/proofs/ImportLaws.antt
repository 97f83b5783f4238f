-- Imports, one after the other: those so far, and the loop over them.
use Rattle.std.specs.Prelude.{Err, None, Ok, Some}
use Rattle.varint.specs.Answers.{Answer, outcome_of}
use Prim.Native.Nat.{ℕ, ◌-◌, ◌≤◌, ◌<◌}
use native.Mathlib.Omega.{arith}
use mathlib.Core.Path.{◌≡◌, refl, sym, ap, subst, ◌∙◌}
use mathlib.Core.Bool.{Bool, true, false, not, ◌||◌}
use mathlib.Core.List.{List, [], ◌∷◌, ◌++◌, map, append_assoc, append-nil}
use Rattle.varint.specs.Outcome.{pass, ◌>>=◌, ◌>>◌, each, Judged, refused, refuse◌at:◌when:◌}
use Rattle.varint.specs.Bytes.{Bytes, same, member}
use Rattle.wire.specs.Message.{all_of, number_of, bytes_of, message}
use Rattle.wire.specs.Order.{Ordered}
use Rattle.wire.specs.Answers.{sought_says, sought_in, Sought}
use Rattle.varint.specs.declared.Refusal.{Refusal}
use Rattle.wire.specs.declared.Field.{Field}
use Rattle.wire.specs.declared.Cursor.{Cursor}
use Rattle.varint.proofs.Passing.{pass_same, passed_bind, passed_seq}
use Rattle.wire.proofs.Fields.{all_of_ordered}
use Rattle.varint.proofs.Lists.{or_shift, or_false}
use Rattle.varint.proofs.Refusing.{when_broken, when_kept}
use Rattle.varint.proofs.Answers.{says}
use Rattle.wire.proofs.Along.{all_from, Onward, all_none, all_some}
use Rattle.operators.specs.Operators.{domain, allows}
use Rattle.schema.specs.Numbers.{OperatorSetId-domain, OperatorSetId-version}
use Rattle.schema.specs.Answers.{silent}
use Rattle.rules.specs.Import.{opset_import}
use Rattle.headers.specs.Earlier.{before}
use Rattle.headers.specs.Imports.{import_of, imports_in, imports_before, ImportsFrom}
use Rattle.headers.proofs.EarlierLaws.{before_split, before_all, names_last}
use Rattle.index.specs.Table.{Indexed}
use Rattle.index.specs.Memory.{known, table_of}
use Rattle.index.specs.Listing.{Held}
use Rattle.index.proofs.ListingLaws.{held_all, held_fewer, held_then, listed_begin}
use Rattle.headers.specs.Imported.{Imported, ImportAdded}
use Rattle.headers.specs.declared.imports.Imports.{Imports}
use Rattle.headers.proofs.Silent.{silent_fails, silent_passes}
use Rattle.values.proofs.RulingLaws.{ruled_kept, ruled_refused}
use Rattle.rules.proofs.Matching.{each_append}

-- ---- the imports in the fields `number` of a message

module _ (model : Bytes) (number : ℕ) (m : Field) where
  abbrev pub All : List Field
  All = all_of number (message model m)

  abbrev From : ℕ → List Field
  From pos = all_from model number m.next pos

  pub imports_from : ImportsFrom model number m m.start
  unfolding all_of message
  imports_from = refl

  all_ordered : Ordered m.start m.next All
  all_ordered = all_of_ordered model number m

  -- the end of the message stands after all of them
  pub imports_all : imports_before model number m m.next ≡ imports_in model number m
  unfolding imports_before imports_in
  imports_all = ap (map (import_of model)) (before_all m.start m.next All all_ordered)

-- ---- from one import to the next: a is the answer of the search at the cursor

module _ (model : Bytes) (number : ℕ) (m : Field) (c : Cursor) (ends : c.end ≡ m.next) {a : Sought}
    (read : sought_says a ≡ sought_in model number c.end c.at) where
  none_left : a ≡ None → From model number m c.at ≡ []
  unfolding sought_says
  none_left e = all_none model number m.next c.at (says sought_says (rw ends at read) e)

  module _ {f : Field} {next : Cursor} (e : a ≡ Some (f, next)) where
    gone : Onward model number m.next c.at f next
    unfolding sought_says
    gone = all_some model number m.next c.at (says sought_says (rw ends at read) e)

    pub import_falls : m.next - next.at < m.next - c.at
    import_falls = let far = gone.onward in let near = gone.inside in omega arith

-- ---- one import: y is the domain that it names, s whether that is imported

module _ (model list : Bytes) (imports : List Bytes) (f : Field) {y : Bytes} (ey : y ≡ bytes_of model OperatorSetId-domain (message model f))
    {s : Bool} (es : s ≡ member (domain y) imports) where
  twice : {b : Bool} → s ≡ b → member (import_of model f) imports ≡ b
  unfolding import_of
  twice k = ap (λ (z : Bytes). member (domain z) imports) (sym ey) ∙ sym es ∙ k

  pub import_twice : s ≡ true → refused 13 f.place ≡ silent (opset_import model list imports f)
  unfolding opset_import import_of message silent ◌>>=◌
  import_twice k = sym (ap silent (when_broken 13 f.place _ (twice k)))

  module _ (k : s ≡ false) {n : ℕ} (en : n ≡ number_of OperatorSetId-version (message model f)) {t : Bool} (et : t ≡ allows list (domain y) n) where
    listed : {b : Bool} → t ≡ b → not (allows list (import_of model f) (number_of OperatorSetId-version (message model f))) ≡ not b
    unfolding import_of
    listed l =
        ap (λ (z : Bytes). not (allows list (domain z) (number_of OperatorSetId-version (message model f)))) (sym ey)
        ∙ ap (λ (v : ℕ). not (allows list (domain y) v)) (sym en)
        ∙ ap not (sym et ∙ l)

    once : opset_import model list imports f
        ≡ (refuse 14 at: f.place when: not (allows list (import_of model f) (number_of OperatorSetId-version (message model f)))
        >> pass (import_of model f ∷ imports))
    unfolding opset_import import_of message
    once = when_kept 13 _ _ (twice k)

    pub import_unlisted : t ≡ false → refused 14 f.place ≡ silent (opset_import model list imports f)
    unfolding silent ◌>>=◌
    import_unlisted l = sym (ap silent (once ∙ when_broken 14 _ _ (listed l)))

    pub import_kept : t ≡ true → pass tt ≡ silent (opset_import model list imports f)
    unfolding silent ◌>>=◌
    import_kept l = sym (ap silent (once ∙ when_kept 14 _ _ (listed l)))

-- ---- the domains imported so far are those of the imports so far

module _ (model list : Bytes) where
  opset_passed : (s u : List Bytes) (f : Field) → opset_import model list s f ≡ pass u → import_of model f ∷ s ≡ u
  unfolding opset_import import_of
  opset_passed s u f e = pass_same _ u (passed_seq _ _ u (passed_seq _ _ u e).1).1

  imports_member : (l : List Field) (s t : List Bytes) → each (opset_import model list) s l ≡ pass t → (x : Bytes) → member x t ≡ (member x (map (import_of model) l) || member x s)
  unfolding each member
  imports_member [] s t e x = ap (member x) (sym (pass_same s t e))
  imports_member (f ∷ l) s t e x =
      let p = passed_bind (opset_import model list s f) (λ u. each (opset_import model list) u l) t e in
      imports_member l p.0 t p.2 x
      ∙ ap (λ (u : List Bytes). member x (map (import_of model) l) || member x u) (sym (opset_passed s p.0 f p.1))
      ∙ or_shift (member x (map (import_of model) l)) (same x (import_of model f)) (member x s)

  pub imports_agree : (l : List Field) (t : List Bytes) → each (opset_import model list) [] l ≡ pass t → (x : Bytes) → member x t ≡ member x (map (import_of model) l)
  unfolding member
  imports_agree l t e x = imports_member l [] t e x ∙ or_false (member x (map (import_of model) l))

  -- only the members of the list matter to the next import
  opset_agrees : (a b : List Bytes) (f : Field) → ((x : Bytes) → member x a ≡ member x b) → silent (opset_import model list a f) ≡ silent (opset_import model list b f)
  unfolding opset_import import_of silent ◌>>◌ ◌>>=◌ refuse◌at:◌when:◌
  opset_agrees a b f h =
      ap (λ (s : Bool). silent (refuse 13 at: (message model f).place when: s
      >> (refuse 14 at: (message model f).place
      when: not (allows list (import_of model f) (number_of OperatorSetId-version (message model f))) >> pass (import_of model f ∷ a))))
      (h (import_of model f))
      ∙ go (member (import_of model f) b) (not (allows list (import_of model f) (number_of OperatorSetId-version (message model f))))
    where
      go : (s t : Bool)
          → silent (refuse 13 at: (message model f).place when: s >> (refuse 14 at: (message model f).place when: t >> pass (import_of model f ∷ a)))
          ≡ silent (refuse 13 at: (message model f).place when: s >> (refuse 14 at: (message model f).place when: t >> pass (import_of model f ∷ b)))
      go true t = refl
      go false true = refl
      go false false = refl

-- ---- the loop over the imports: those of `pre` are kept, the rest stand from the cursor on

pub record Importing (model list : Bytes) (number : ℕ) (m : Field) (c : Cursor) : Type 0 where
  pub pre : List Field
  pub imports : List Bytes
  pub ends : c.end ≡ m.next
  pub split : All model number m ≡ pre ++ From model number m c.at
  pub past : each (opset_import model list) [] pre ≡ pass imports

pub importing_start : (model list : Bytes) (number : ℕ) (m : Field) {pos : ℕ} → ImportsFrom model number m pos
    → Importing model list number m (record { at = pos; end = m.next })
unfolding each all_from
importing_start model list number m k = record { pre = []; imports = []; ends = refl; split = sym k; past = refl }

module _ {model list : Bytes} {number : ℕ} {m : Field} {c : Cursor} (q : Importing model list number m c) where
  left : each (opset_import model list) [] (All model number m) ≡ each (opset_import model list) q.imports (From model number m c.at)
  unfolding ◌>>=◌
  left =
      ap (each (opset_import model list) []) q.split
      ∙ each_append (opset_import model list) q.pre (From model number m c.at) []
      ∙ ap (λ (o : Judged (List Bytes)). o >>= λ t. each (opset_import model list) t (From model number m c.at)) q.past

module _ {model list : Bytes} {number : ℕ} {m : Field} {c : Cursor} (q : Importing model list number m c) {a : Sought}
    (read : sought_says a ≡ sought_in model number c.end c.at) where
  pub importing_end : a ≡ None → pass tt ≡ silent (each (opset_import model list) [] (All model number m))
  unfolding silent each ◌>>=◌
  importing_end e = sym (ap silent (left q ∙ ap (each (opset_import model list) q.imports) (none_left model number m c q.ends read e)))

  module _ {f : Field} {next : Cursor} (e : a ≡ Some (f, next)) where
    here : All model number m ≡ q.pre ++ (f ∷ From model number m next.at)
    here = q.split ∙ ap (λ (l : List Field). q.pre ++ l) (gone model number m c q.ends read e).list

    seen : before f.place (All model number m) ≡ q.pre
    seen = ap (before f.place) here ∙ before_split m.start m.next q.pre f (From model number m next.at) (subst (Ordered m.start m.next) here (all_ordered model number m))

    -- r is the ruling on this import
    module _ (r : Answer (Unit {0})) (ruled : outcome_of r ≡ silent (opset_import model list (imports_before model number m f.place) f)) where
      agreed : outcome_of r ≡ silent (opset_import model list q.imports f)
      unfolding imports_before
      agreed =
          ruled
          ∙ ap (λ (l : List Field). silent (opset_import model list (map (import_of model) l) f)) seen
          ∙ sym (opset_agrees model list q.imports (map (import_of model) q.pre) f (imports_agree model list q.pre q.imports q.past))

      pub importing_stops : {x : Refusal} → r ≡ Err x → outcome_of r ≡ silent (each (opset_import model list) [] (All model number m))
      unfolding silent each ◌>>=◌
      importing_stops {x} k =
          ruled
          ∙ ruled_refused ruled k
          ∙ sym (ap silent (left q ∙ ap (each (opset_import model list) q.imports) (gone model number m c q.ends read e).list ∙ ap
          (λ (o : Judged (List Bytes)). o >>= λ t. each (opset_import model list) t (From model number m next.at))
          (silent_fails (opset_import model list q.imports f) (ruled_refused agreed k))))

      pub importing_goes : r ≡ (Ok tt) → Importing model list number m next
      unfolding each ◌>>=◌
      importing_goes k =
          let p = silent_passes (opset_import model list q.imports f) (ruled_kept agreed k) in
          record {
            pre = q.pre ++ (f ∷ []);
            imports = p.0;
            ends = (gone model number m c q.ends read e).ends;
            split = here ∙ sym (append_assoc q.pre (f ∷ []) (From model number m next.at));
            past = each_append (opset_import model list) q.pre (f ∷ []) []
                ∙ ap (λ (o : Judged (List Bytes)). o >>= λ t. each (opset_import model list) t (f ∷ [])) q.past
                ∙ ap (λ (o : Judged (List Bytes)). o >>= λ t. pass t) p.1;
          }

-- ---- the same loop, with what is kept of the imports behind it

pub record Keeping (model list : Bytes) (number : ℕ) (m : Field) (seed top : ℕ) (first lists : List ℕ) (i : Imports) (c : Cursor) : Type 0 where
  pub importing : Importing model list number m c
  pub imported : Imported model seed lists i (map (import_of model) importing.pre)
  pub held : Held model seed top first lists
  pub above : top ≤ i.listing.top

pub keeping_start : (model list : Bytes) (number : ℕ) (m : Field) (seed top : ℕ) {pos : ℕ} → ImportsFrom model number m pos → {lists : List ℕ}
    → Indexed model seed (table_of lists) (known lists) → top ≤ known lists
    → Keeping model list number m seed top lists lists (record { listing = record { base = top; top = top; whole = true }; default = false })
    (record { at = pos; end = m.next })
unfolding importing_start member
keeping_start model list number m seed top begins ix h = record {
  importing = importing_start model list number m begins;
  imported = record { listed = listed_begin ix h true; default = refl };
  held = held_all ix h;
  above = omega arith;
}

module _ {model list : Bytes} {number : ℕ} {m : Field} {seed top : ℕ} {first lists : List ℕ} {i : Imports} {c : Cursor}
    (q : Keeping model list number m seed top first lists i c) {a : Sought} (read : sought_says a ≡ sought_in model number c.end c.at) where
  pub keeping_end : a ≡ None → Imported model seed lists i (imports_in model number m)
  unfolding imports_in
  keeping_end e =
      let all : q.importing.pre ≡ All model number m = sym (q.importing.split
      ∙ ap (λ (l : List Field). q.importing.pre ++ l) (none_left model number m c q.importing.ends read e)
      ∙ append-nil q.importing.pre) in
      subst (λ (l : List Field). Imported model seed lists i (map (import_of model) l)) all q.imported

  module _ {f : Field} {next : Cursor} (e : a ≡ Some (f, next)) where
    pub keeping_before : Imported model seed lists i (imports_before model number m f.place)
    unfolding imports_before
    keeping_before = subst (λ (l : List Field). Imported model seed lists i (map (import_of model) l)) (sym (seen q.importing read e)) q.imported

    pub keeping_goes : (r : Answer (Unit {0})) → outcome_of r ≡ silent (opset_import model list (imports_before model number m f.place) f) → r ≡ (Ok tt)
        → {later : List ℕ} {more : Imports} → ImportAdded model seed i f lists later more
        → Keeping model list number m seed top first later more next
    unfolding importing_goes
    keeping_goes r ruled k added = record {
      importing = importing_goes q.importing read e r ruled k;
      imported = added.imported (map (import_of model) q.importing.pre) _ q.imported (λ x. names_last (import_of model) x q.importing.pre f);
      held = held_then q.held (held_fewer q.above added.held);
      above = (let low = q.above in let high = added.rises in omega arith);
    }
