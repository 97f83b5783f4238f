-- A loop over the messages in a list, with all that it does to the extra cells: it began with `first` of them, where `top` names were
-- remembered, and has come to `extra`.
use Rattle.std.specs.Prelude.{Some}
use Prim.Native.Nat.{ℕ, ◌≤◌}
use native.Mathlib.Omega.{arith}
use mathlib.Core.Path.{◌≡◌}
use mathlib.Core.Bool.{Bool}
use mathlib.Core.List.{List, []}
use lib.ListN.{drop}
use Rattle.wire.specs.declared.Field.{Field}
use Rattle.wire.specs.declared.Cursor.{Cursor}
use Rattle.varint.specs.Bytes.{Bytes}
use Rattle.wire.specs.Message.{bytes_of, message}
use Rattle.wire.specs.Answers.{contents_of, sought_says, sought_in, Sought}
use Rattle.index.specs.Memory.{known}
use Rattle.index.specs.Listing.{Listed}
use Rattle.index.specs.declared.listings.Listing.{Listing}
use Rattle.index.proofs.ListingLaws.{listed_begin}
use Rattle.headers.specs.Earlier.{names_in, earlier_in}
use Rattle.scope.specs.Recall.{Recalling, AddedOn, Minded, Minds}
use Rattle.scope.specs.declared.remembered.Index.{Index}
use Rattle.scope.proofs.RecallLaws.{minded_none, minded_then, minded_fewer, minded_added, minds_still}
use Rattle.headers.proofs.BehindLaws.{Behind, behind_start, behind_held, behind_found, behind_next}

pub record Lists (model : Bytes) (ix : Index) (top number name : ℕ) (m : Field) (first cells extra : List ℕ) (l : Listing) (c : Cursor) : Type 0 where
  pub minded : Minded model ix top cells first extra
  pub behind : Behind model ix.seed number [] (λ f. bytes_of model name (message model f)) m (drop ix.split extra) l c
  pub above : top ≤ l.top

pub lists_start : {model : Bytes} {ix : Index} {top : ℕ} (number name : ℕ) (m : Field) {cells extra : List ℕ}
    → Recalling model ix cells extra → top ≤ known (drop ix.split extra) → (w : Bool) → {c : Cursor} → c ≡ contents_of m
    → Lists model ix top number name m extra cells extra (record { base = top; top = top; whole = w }) c
lists_start number name m r h w e = record { minded = minded_none r h; behind = behind_start number (λ f. bytes_of _ name (message _ f)) m (listed_begin r.both.lists h w) e; above = omega arith }

module _ {model : Bytes} {ix : Index} {top number name : ℕ} {m : Field} {first cells extra : List ℕ} {l : Listing} {c : Cursor}
    (q : Lists model ix top number name m first cells extra l c) where
  pub lists_fits : l.top ≤ known (drop ix.split extra)
  lists_fits = q.behind.listed.fits

  module _ {a : Sought} (read : sought_says a ≡ sought_in model number c.end c.at) {f : Field} {next : Cursor} (e : a ≡ Some (f, next)) where
    pub lists_found : Listed model ix.seed (drop ix.split extra) l (earlier_in model number name m f)
    unfolding earlier_in names_in
    lists_found = behind_found q.behind read e

    -- what is done for the field leaves the list alone; then its name is added
    pub lists_next : {later mid last : List ℕ} {r : Listing} → Minded model ix l.top later extra mid
        → AddedOn model ix l (bytes_of model name (message model f)) mid last r
        → Lists model ix top number name m first later last r next
    lists_next n x = record {
      minded = minded_then q.minded (minded_fewer q.above (minded_then n (minded_added n.recalls x)));
      behind = behind_next (behind_held q.behind n.held) read e x.lists;
      above = (let a = q.above in let b = x.lists.rises in omega arith);
    }

    pub lists_minds : {imports attributes : List Bytes} {later mid last : List ℕ} {r : Listing} → Minds model imports attributes ix top cells extra → Minded model ix l.top later extra mid
        → AddedOn model ix l (bytes_of model name (message model f)) mid last r
        → Minds model imports attributes ix top later last
    lists_minds g n x = minds_still g (minded_fewer q.above (minded_then n (minded_added n.recalls x)))
