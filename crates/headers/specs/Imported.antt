-- What is kept of the imports, and what the header answers with it. No rule speaks of this; contracts of the code do.
use Rattle.varint.specs.Answers.{Answer}
use Rattle.std.specs.Prelude.{ℕ, ◌≤◌, ◌≡◌, ◌||◌, List, [], Err, Ok}
use Rattle.wire.specs.declared.Field.{Field}
use Rattle.varint.specs.Bytes.{Bytes, same, member}
use Rattle.wire.specs.Message.{whole}
use Rattle.wire.specs.Outline.{Starts}
use Rattle.wire.specs.declared.outlines.Outline.{Outline}
use Rattle.schema.specs.Numbers.{Model-ir_version, Model-graph, Model-opset_import, Model-functions}
use Rattle.index.specs.Listing.{Listed, Held}
use Rattle.headers.specs.Imports.{import_of, imports_in}
use Rattle.headers.specs.declared.imports.Imports.{Imports}

-- These domains are imported: those with a name are listed, and of the one that has none it is known whether it is among them.
pub record Imported (model : Bytes) (seed : ℕ) (lists : List ℕ) (i : Imports) (domains : List Bytes) : Type 0 where
  pub listed : Listed model seed lists i.listing domains
  pub default : i.default ≡ member [] domains

-- The import of a field was added.
pub record ImportAdded (model : Bytes) (seed : ℕ) (i : Imports) (f : Field) (before after : List ℕ) (r : Imports) : Type 0 where
  pub held : Held model seed i.listing.top before after
  pub rises : i.listing.top ≤ r.listing.top
  pub imported : (domains later : List Bytes) → Imported model seed before i domains
      → ((x : Bytes) → member x later ≡ (same x (import_of model f) || member x domains))
      → Imported model seed after r later

unfoldable pub ruling_of : Answer Imports → Answer (Unit {0})
ruling_of (Ok i) = (Ok tt)
ruling_of (Err r) = Err r

-- One reading of the model's own fields: where the four that the second walk asks for begin.
pub record Outlined (model : Bytes) (o : Outline) : Type 0 where
  pub version : Starts model (whole model) Model-ir_version o.first
  pub graph : Starts model (whole model) Model-graph o.second
  pub imports : Starts model (whole model) Model-opset_import o.third
  pub functions : Starts model (whole model) Model-functions o.fourth
  -- no field has the number 0
  pub rest : Starts model (whole model) 0 o.fifth × Starts model (whole model) 0 o.sixth

-- Imports that are passed are left in the lists, above the oldest `top` names.
unfoldable pub holds : (model : Bytes) (number : ℕ) (m : Field) (seed top : ℕ) (lists : List ℕ) → Answer Imports → Type 0
holds model number m seed top lists (Ok i) = Imported model seed lists i (imports_in model number m) × (top ≤ i.listing.top)
holds model number m seed top lists (Err r) = Unit {0}
