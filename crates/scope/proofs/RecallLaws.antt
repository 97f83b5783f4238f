-- A scope of which extra cells remember names.
use Rattle.std.specs.declared.option.Option.{Option}
use Prim.Native.Nat.{ℕ, zero, suc, ◌-◌, ◌≤◌, ◌<◌}
use native.Mathlib.Omega.{arith}
use mathlib.Core.Path.{◌≡◌, refl, sym, ap, ap₂, subst, ◌∙◌}
use mathlib.Core.List.{List, ◌∷◌}
use lib.ListN.{length, drop, replicate}
use Rattle.varint.specs.Bytes.{Bytes}
use Rattle.wire.specs.Message.{text}
use Rattle.wire.specs.declared.Field.{Field}
use Rattle.index.specs.Table.{newest, names_in, seek, Indexed}
use Rattle.index.specs.Memory.{known, table_of, Remembered}
use Rattle.index.specs.Listing.{Held}
use Rattle.index.specs.declared.listings.Listing.{Listing}
use Rattle.index.proofs.UseLaws.{indexed_none}
use Rattle.index.proofs.ListingLaws.{held_all, held_fewer, held_then, listed_held}
use Rattle.headers.specs.declared.imports.Imports.{Imports}
use Rattle.headers.proofs.ListedLaws.{imported_held}
use Rattle.rules.specs.Names.{Name, name_in}
use Rattle.rules.specs.Verdict.{room}
use Rattle.scope.specs.Scope.{stored, recorded, scope_in, bytes_in, Direct}
use Rattle.scope.specs.Recall.{Recalls, Recalling, RememberedOn, AddedOn, HeldOn, Recalled, Minded, Minds}
use Rattle.scope.specs.declared.remembered.Index.{Index}
use Rattle.scope.proofs.RecordLaws.{recorded_other, recorded_same, name_direct}
use Rattle.scope.proofs.ScopeLaws.{Searching}

-- what is remembered is the scope
recalled : {model : Bytes} {seed : ℕ} {cells extra : List ℕ} → Recalls model seed cells extra → (i : ℕ) → i ≤ known extra
    → names_in model (table_of extra) i ≡ bytes_in model cells i
unfolding names_in bytes_in scope_in
recalled m zero h = refl
recalled {model} {seed} {cells} {extra} m (suc i) h =
    ap₂ (λ (x : Bytes) (l : List Bytes). x ∷ l) (m.memory.same i (omega arith)) (recalled m i (omega arith))

-- the search after the names that are not remembered: r is what is recalled
pub recall_ends : {model : Bytes} {seed : ℕ} {cells extra : List ℕ} → Recalls model seed cells extra → {used : ℕ} {name : Bytes} {i : ℕ}
    → Searching model cells used name i → i ≤ known extra → {r : Option ℕ} → r ≡ seek name (names_in model (table_of extra) i)
    → r ≡ seek name (bytes_in model cells used)
recall_ends m {used} {name} {i} q h e = e ∙ ap (seek name) (recalled m i h) ∙ q.rest

-- a name was stored and remembered
pub recall_more : {model : Bytes} {seed : ℕ} {cells extra later : List ℕ}
    → Recalls model seed cells extra → (used : ℕ) → used < room (length cells) → (f : Field) → Direct model f
    → Remembered model seed used (text model f) extra later
    → Recalls model seed (stored cells used f.place (f.next - f.start)) later
unfolding name_in
recall_more {model} {seed} {cells} m used h f d r =
    let len = f.next - f.start in
    record {
      memory = r.memory (λ i. (recorded model cells i).bytes) (λ i. (recorded model (stored cells used f.place len) i).bytes) m.memory
          (λ i l. ap (λ (n : Name). n.bytes) (recorded_other model cells used f.place len i l))
          (ap (λ (n : Name). n.bytes) (recorded_same model cells used f.place len h ∙ name_direct model f d));
    }

-- zeros remember nothing
pub recalls_none : (model : Bytes) (seed : ℕ) (cells : List ℕ) (n : ℕ) → Recalls model seed cells (replicate n 0)
unfolding known table_of newest
recalls_none model seed cells zero = record { memory = record { index = indexed_none model seed 0; same = λ i h. absurd (omega arith) } }
recalls_none model seed cells (suc n) = record { memory = record { index = indexed_none model seed n; same = λ i h. absurd (omega arith) } }

-- ---- both parts of the extra cells

-- the same cells, with other lists in them
abbrev pub holding : Index → Imports → Listing → Index
holding ix imports attributes = record { seed = ix.seed; split = ix.split; imports = imports; attributes = attributes }

module _ {model : Bytes} {ix : Index} where
  pub recalled_none : {cells extra : List ℕ} → Recalling model ix cells extra → Recalled model ix cells extra extra
  recalled_none m = record { recalls = m; size = refl; lists = refl }

  pub recalled_then : {cells later a b c : List ℕ} → Recalled model ix cells a b → Recalled model ix later b c → Recalled model ix later a c
  recalled_then m n = record { recalls = n.recalls; size = n.size ∙ m.size; lists = n.lists ∙ m.lists }

  -- a name was stored and remembered
  pub recalled_more : {cells now' extra later : List ℕ} → Recalling model ix cells extra → (used : ℕ) → used < room (length cells) → (f : Field)
      → Direct model f → now' ≡ stored cells used f.place (f.next - f.start) → RememberedOn model ix used f extra later
      → Recalled model ix now' extra later
  recalled_more {cells} {now'} {extra} {later} m used h f d e r =
      let s = recall_more m.scope used h f d r.names in
      rw e (record {
        recalls = record {
          both = record {
            fits = omega (arith, m.both.fits, r.size);
            names = s.memory.index;
            lists = subst (λ (l : List ℕ). Indexed model ix.seed (table_of l) (known l)) (sym r.lists) m.both.lists;
          };
          scope = s;
        };
        size = r.size;
        lists = r.lists;
      })

  -- lists were changed alone
  pub recalling_held : {cells before after : List ℕ} → Recalling model ix cells before → HeldOn model ix before after → Recalling model ix cells after
  recalling_held {cells} {before} {after} m h = record {
    both = record {
      fits = omega (arith, m.both.fits, h.size);
      names = subst (λ (l : List ℕ). Indexed model ix.seed (table_of l) (known l)) (sym h.names) m.both.names;
      lists = h.lists.index;
    };
    scope = subst (λ (l : List ℕ). Recalls model ix.seed cells l) (sym h.names) m.scope;
  }

  -- what the lists hold of imports and attributes is no part of it
  module _ {imports : Imports} {attributes : Listing} {cells extra : List ℕ} where
    pub recalling_with : Recalling model ix cells extra → Recalling model (holding ix imports attributes) cells extra
    recalling_with m = record { both = record { fits = m.both.fits; names = m.both.names; lists = m.both.lists }; scope = m.scope }

    pub recalling_without : Recalling model (holding ix imports attributes) cells extra → Recalling model ix cells extra
    recalling_without m = record { both = record { fits = m.both.fits; names = m.both.names; lists = m.both.lists }; scope = m.scope }

  -- ---- with lists

  pub minded_none : {top : ℕ} {cells extra : List ℕ} → Recalling model ix cells extra → top ≤ known (drop ix.split extra) → Minded model ix top cells extra extra
  minded_none m h = record { recalls = m; size = refl; held = held_all m.both.lists h }

  pub minded_recalled : {top : ℕ} {cells before after : List ℕ} → top ≤ known (drop ix.split before) → Recalled model ix cells before after
      → Minded model ix top cells before after
  minded_recalled {top} {cells} {before} {after} h m = record {
    recalls = m.recalls;
    size = m.size;
    held = subst (λ (l : List ℕ). Held model ix.seed top l (drop ix.split after)) m.lists
        (held_all m.recalls.both.lists (subst (λ (l : List ℕ). top ≤ known l) (sym m.lists) h));
  }

  pub minded_then : {top : ℕ} {cells later a b c : List ℕ} → Minded model ix top cells a b → Minded model ix top later b c → Minded model ix top later a c
  minded_then m n = record { recalls = n.recalls; size = n.size ∙ m.size; held = held_then m.held n.held }

  pub minded_fewer : {n top : ℕ} {cells a b : List ℕ} → n ≤ top → Minded model ix top cells a b → Minded model ix n cells a b
  minded_fewer h m = record { recalls = m.recalls; size = m.size; held = held_fewer h m.held }

  pub minded_added : {l : Listing} {name : Bytes} {cells extra later : List ℕ} {r : Listing}
      → Recalling model ix cells extra → AddedOn model ix l name extra later r
      → Minded model ix l.top cells extra later
  minded_added {l} {name} {cells} {extra} {later} m a = record {
    recalls = record {
      both = record {
        fits = omega (arith, m.both.fits, a.size);
        names = subst (λ (x : List ℕ). Indexed model ix.seed (table_of x) (known x)) (sym a.names) m.both.names;
        lists = a.lists.held.index;
      };
      scope = subst (λ (x : List ℕ). Recalls model ix.seed cells x) (sym a.names) m.scope;
    };
    size = a.size;
    held = a.lists.held;
  }

  module _ {imports attributes : List Bytes} where
    -- what a graph goes by stays, as long as the names below its lists do
    pub minds_still : {top : ℕ} {cells later before after : List ℕ}
        → Minds model imports attributes ix top cells before → Minded model ix top later before after
        → Minds model imports attributes ix top later after
    minds_still m n = record {
      recalls = n.recalls;
      imported = imported_held (held_fewer m.above n.held) m.imported;
      resolved = listed_held (held_fewer m.beyond n.held) m.resolved;
      above = m.above;
      beyond = m.beyond;
      fits = n.held.fits;
    }

    pub minds_higher : {top more : ℕ} {cells extra : List ℕ} → Minds model imports attributes ix top cells extra → top ≤ more → more ≤ known (drop ix.split extra)
        → Minds model imports attributes ix more cells extra
    minds_higher m h k = record {
      recalls = m.recalls;
      imported = m.imported;
      resolved = m.resolved;
      above = (let a = m.above in omega arith);
      beyond = (let b = m.beyond in omega arith);
      fits = k;
    }
