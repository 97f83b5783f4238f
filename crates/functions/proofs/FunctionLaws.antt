-- A function: its signature, and then its body.
use Rattle.std.specs.Prelude.{Err, Ok}
use Rattle.varint.specs.Answers.{Answer}
use Prim.Native.Nat.{ℕ, suc, ◌+◌, ◌-◌, ◌^◌, ◌≤◌, ◌<◌}
use native.Mathlib.Omega.{arith}
use mathlib.Core.Path.{◌≡◌, refl, sym, ap, subst}
use mathlib.Core.Bool.{Bool, false}
use mathlib.Core.List.{List, [], ◌∷◌, ◌++◌, map, flat_map}
use lib.ListN.{length, drop, length-append}
use borrow.Rule.Slice.PartMut.{put_mid}
use Rattle.varint.specs.Outcome.{◌>>=◌, Judged}
use Rattle.varint.specs.Bytes.{Bytes}
use Rattle.varint.specs.declared.Refusal.{Refusal}
use Rattle.varint.proofs.Answers.{says}
use Rattle.varint.proofs.Tells.{Any, tells_bind, tells_weaken}
use Rattle.wire.specs.declared.Field.{Field}
use Rattle.wire.specs.Message.{all_of, text, bytes_of, message}
use Rattle.schema.specs.Numbers.{Function-input, Function-output, Function-attribute, Function-node, Function-attribute_proto, Attribute-name}
use Rattle.schema.specs.declared.Kind.{Kind}
use Rattle.rules.specs.Walk.{Walk, start, leaving, afresh}
use Rattle.rules.specs.Verdict.{fills}
use Rattle.rules.specs.Count.{node_names, names_in, function_names}
use Rattle.values.specs.Answers.{more}
use Rattle.messages.specs.Around.{field_of, import_number, attributes_of, imports_of}
use Rattle.messages.specs.Again.{field_names}
use Rattle.signatures.specs.Signature.{default_names, attribute_names, signature_again, signature_says, declares}
use Rattle.signatures.specs.declared.signatures.Declaration.{Declaration}
use Rattle.signatures.proofs.HeadLaws.{head_most}
use Rattle.scope.specs.Scope.{scope_in, walk_in, step_says, Enters, Countable, counted}
use Rattle.scope.specs.Recall.{Recalling, Minds, HeldOn}
use Rattle.scope.specs.declared.remembered.Index.{Index}
use Rattle.scope.specs.declared.scopes.Progress.{Progress}
use Rattle.scope.proofs.SplitLaws.{others_put}
use Rattle.scope.proofs.RecallLaws.{holding, recalling_held, recalling_with}
use Rattle.cycle.proofs.CountLaws.{AtMost}
use Rattle.functions.specs.Function.{within, body_names, body_again, function_again}
use Rattle.functions.proofs.BodyLaws.{body_names_lem, body_most}

-- ---- its names: its own, its attributes', its body's

one_each : {A B : Type 0} (g : A → B) (l : List A) → length (flat_map (λ a. g a ∷ []) l) ≡ length (map g l)
unfolding flat_map
one_each g [] = refl
one_each g (a ∷ l) = ap suc (one_each g l)

pub function_names_lem : (model : Bytes) (inner : Field → List Bytes) (f : Field)
    → length (function_names model inner f) ≡ 1 + length (attribute_names model f) + length (body_names model inner f)
unfolding function_names attribute_names field_names default_names
function_names_lem model inner f =
    let m = message model f in
    let name : Field → Bytes = λ a. bytes_of model Attribute-name (message model a) in
    let attributes = map (text model) (all_of Function-attribute m) in
    let defaults = map name (all_of Function-attribute_proto m) in
    let ins = map (text model) (all_of Function-input m) in
    let nodes = flat_map (node_names model inner) (all_of Function-node m) in
    let outs = map (text model) (all_of Function-output m) in
    let e : length (attributes ++ defaults ++ ins ++ nodes ++ outs) ≡ length (attributes ++ defaults ++ ins ++ nodes) + length outs =
    length-append (attributes ++ defaults ++ ins ++ nodes) outs in
    let e' : length (attributes ++ defaults ++ ins ++ nodes) ≡ length (attributes ++ defaults ++ ins) + length nodes = length-append (attributes ++ defaults ++ ins) nodes in
    let e'' : length (attributes ++ defaults ++ ins) ≡ length (attributes ++ defaults) + length ins = length-append (attributes ++ defaults) ins in
    let e''' : length (attributes ++ defaults) ≡ length attributes + length defaults = length-append attributes defaults in
    let both = length-append (flat_map (λ a. text model a ∷ []) (all_of Function-attribute m)) (flat_map (λ a. name a ∷ []) (all_of Function-attribute_proto m)) in
    let a = one_each (text model) (all_of Function-attribute m) in
    let d = one_each name (all_of Function-attribute_proto m) in
    let i = one_each (text model) (all_of Function-input m) in
    let o = one_each (text model) (all_of Function-output m) in
    let b = body_names_lem model inner f in
    omega arith

-- it counts no more of them than there are
pub function_most : (model : Bytes) (full : ℕ → Bool) (left : ℕ) (list : Bytes) (v : ℕ) (twice : Bool) (w : Walk) (f : Field)
    → AtMost w (length (function_names model (names_in model left false) f)) (function_again model full left list v twice w f)
unfolding function_again afresh leaving
function_most model full left list v twice w f =
    let R : Walk → Type 0 = λ u. u.odd ≤ w.odd + length (function_names model (names_in model left false) f) in
    let n = function_names_lem model (names_in model left false) f in
    tells_bind _ R Any (signature_again model list twice (afresh w) f) _ (head_most model list twice (afresh w) f) (λ t h.
    let few : t.odd ≤ w.odd + (1 + length (attribute_names model f)) = h.3 in
    tells_weaken (λ u. u.odd ≤ t.odd + length (body_names model (names_in model left false) f)) R Any Any (body_again model full left (within v f) t f)
    (λ u k. omega arith) (λ r _. tt) (body_most model full left (within v f) t f))

-- ---- r is the signature, d what it declares

module _ (model list : Bytes) (left v : ℕ) (twice : Bool) (cells : List ℕ) (p : Progress) (f : Field) where
  abbrev Whole : Judged Walk
  Whole = function_again model (fills (length cells)) left list v twice (walk_in model cells p) f

  -- its body begins with no name in use
  abbrev Begun : Declaration → Progress
  Begun d = record { used = 0; nodes = p.nodes; most = p.most; odd = p.odd + d.odd }

  module _ (r : Answer Declaration) (read : (w : Walk) → signature_says w r ≡ signature_again model list twice w f) where
    signed : {s : Answer Declaration} → r ≡ s → (signature_says (afresh (walk_in model cells p)) s >>= λ t. body_again model (fills (length cells)) left (within v f) t f) ≡ Whole
    unfolding function_again
    signed e =
        ap (λ (o : Judged Walk). o >>= λ t. body_again model (fills (length cells)) left (within v f) t f)
        (says (signature_says (afresh (walk_in model cells p))) (read (afresh (walk_in model cells p))) e)

    pub function_unread : {x : Refusal} → r ≡ Err x → (later : List ℕ) → step_says model later (Err x) ≡ Whole
    unfolding signature_says step_says ◌>>=◌
    function_unread e later = signed e

    pub function_begun : {d : Declaration} → r ≡ Ok d
        → body_again model (fills (length cells)) left (within v f) (walk_in model cells (Begun d)) f ≡ Whole
    unfolding signature_says more afresh leaving start walk_in scope_in ◌>>=◌
    function_begun e = signed e

    -- ---- what its body goes by

    module _ {d : Declaration} (e : r ≡ Ok d) (seed : ℕ) (lists : List ℕ) (declared : declares model seed lists f r) where
      few : d.odd ≤ 1 + length (attribute_names model f)
      unfolding declares
      few = let h : declares model seed lists f (Ok d) = subst (declares model seed lists f) e declared in h.3

      pub begun_fits : Countable p (function_names model (names_in model left false) f) → p.odd + d.odd < 2 ^ 64
      unfolding Countable
      begun_fits room = let n = function_names_lem model (names_in model left false) f in let k = few in omega arith

      pub begun_countable : Countable p (function_names model (names_in model left false) f) → Countable (Begun d) (body_names model (names_in model left false) f)
      unfolding Countable
      begun_countable room = let n = function_names_lem model (names_in model left false) f in let k = few in omega arith

-- its signature was read into the lists
pub declares_on : (model : Bytes) (ix : Index) (extra : List ℕ) → ix.split ≤ length extra → (new : List ℕ) (f : Field) (r : Answer Declaration)
    → declares model ix.seed new f r
    → declares model ix.seed (drop ix.split (put_mid ix.split (length extra - ix.split) extra new)) f r
declares_on model ix extra h new f r x = subst (λ (l : List ℕ). declares model ix.seed l f r) (sym (others_put ix.split extra new h)) x

pub begun_enters : {model : Bytes} {kind : Kind} {p q : Progress} {f : Field} → Enters model kind p f → q.nodes ≡ p.nodes → Enters model kind q f
begun_enters n e = record { short = n.short; walked = n.walked; tagged = n.tagged; ends = n.ends; few = (let few = n.few in omega arith) }

pub begun_counts : (f : Field) (p q : Progress) → q.nodes ≡ p.nodes → (r : Answer Progress) → counted f q r → counted f p r
unfolding counted
begun_counts f p q e (Ok u) h = omega arith
begun_counts f p q e (Err x) h = tt

pub begun_minds : {model : Bytes} {ix : Index} {cells before after : List ℕ} → Recalling model ix cells before → HeldOn model ix before after
    → (v : ℕ) (f : Field) {r : Answer Declaration} → declares model ix.seed (drop ix.split after) f r → {d : Declaration} → r ≡ Ok d
    → Minds model (imports_of model (within v f)) (attributes_of model (within v f)) (holding ix d.imports d.attributes) d.imports.listing.top cells after
unfolding declares field_of imports_of import_number attributes_of within
begun_minds {model} {ix} {cells} {before} {after} m h v f declared {d} e =
    let y : declares model ix.seed (drop ix.split after) f (Ok d) = subst (declares model ix.seed (drop ix.split after) f) e declared in
    record {
      recalls = recalling_with (recalling_held m h);
      imported = y.1;
      resolved = y.0;
      above = omega arith;
      beyond = y.2;
      fits = y.1.listed.fits;
    }
