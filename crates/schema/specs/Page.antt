-- The table of rows, printed as document 01 prints it: a wrong row cannot hide.
use Rattle.std.specs.Prelude.{ℕ, ◌/◌, ◌%◌, ◌≡◌, refl, true, false, List, [], ◌∷◌, map, get_or, ltb}
use Prim.Native.String.{String, ◌++◌}
use Rattle.schema.specs.declared.Kind.{Kind}
use Rattle.schema.specs.declared.Kind.TheVariants.{Model, OperatorSetId, Function, Graph, Node, Attribute, Tensor, ValueInfo, TypeProto, TensorType, Shape, Dimension}
use Rattle.schema.specs.declared.Holds.{Holds}
use Rattle.schema.specs.declared.Holds.TheVariants.{Varint, Bytes, Four, Message}
use Rattle.schema.specs.declared.Row.{Row}
use Rattle.schema.specs.declared.Row.TheVariants.{Once, Many, Packable, OneOf, Unknown}
use Rattle.schema.specs.Rows.{rows}

-- A number below 100 in decimal.
decimal : ℕ → String
decimal n = elim (ltb n 10) [ true ↦ digit n | false ↦ digit (n / 10) ++ digit (n % 10) ]
  where
    digit : ℕ → String
    digit k = get_or ("0" ∷ "1" ∷ "2" ∷ "3" ∷ "4" ∷ "5" ∷ "6" ∷ "7" ∷ "8" ∷ "9" ∷ []) k ""

letter : Holds → String
letter Varint = "v"
letter Bytes = "s"
letter Four = "f"
letter (Message k) = "m"

named : String → String
named String.[] = ""
named (String.◌∷◌ c more) = String.◌∷◌ c more ++ " "

marked : Row → String
marked (Once h) = letter h
marked (Many h) = letter h ++ "*"
marked (Packable h) = letter h ++ "* packed"
marked (OneOf h) = letter h
marked Unknown = "?"

shown : ℕ × String × Row → String
shown e = decimal e.0 ++ " " ++ named e.1 ++ marked e.2

joined : List String → String
joined [] = ""
joined (s ∷ []) = s
joined (s ∷ (t ∷ more)) = s ++ ", " ++ joined (t ∷ more)

-- A table whose first row is a member of a "one of" has nothing but members.
opening : List (ℕ × String × Row) → String
opening [] = ""
opening (e ∷ more) = elim e.2 [ Once h ↦ "" | Many h ↦ "" | Packable h ↦ "" | OneOf h ↦ "one of: " | Unknown ↦ "" ]

line : Kind → String
line k = opening (rows k) ++ joined (map shown (rows k))

-- Document 01's table with the row that document 02 changed and the one that it added, "4, 5, 7, 8, 9 s" written out, and " packed" after what may also come packed: that is a sentence below it.
page : List (Kind × String)
page =
    (Model, "1 ir_version v, 7 graph m, 8 opset_import m*, 25 functions m*")
    ∷ (OperatorSetId, "1 domain s, 2 version v")
    ∷ (
      Function,
      "1 name s, 4 input s*, 5 output s*, 6 attribute s*, 7 node m*, 9 opset_import m*, 10 domain s, 11 attribute_proto m*, 13 overload s",
    )
    ∷ (Graph, "1 node m*, 2 name s, 5 initializer m*, 11 input m*, 12 output m*, 13 value_info m*, 15 sparse_initializer s*")
    ∷ (Node, "1 input s*, 2 output s*, 3 name s, 4 op_type s, 5 attribute m*, 7 domain s")
    ∷ (
      Attribute,
      "1 name s, 2 f f, 3 i v, 4 s s, 5 t m, 6 g m, 7 floats f* packed, 8 ints v* packed, 9 strings s*, 10 tensors m*, 11 graphs m*, "
          ++ "14 tp s, 15 type_protos s*, 20 type v, 21 ref_attr_name s, 22 sparse_tensor s, 23 sparse_tensors s*",
    )
    ∷ (Tensor, "2 data_type v, 8 name s")
    ∷ (ValueInfo, "1 name s, 2 type m")
    ∷ (TypeProto, "one of: 1 tensor m, 4 s, 5 s, 7 s, 8 s, 9 s")
    ∷ (TensorType, "1 elem_type v, 2 shape m")
    ∷ (Shape, "1 dim m*")
    ∷ (Dimension, "one of: 1 dim_value v, 2 dim_param s")
    ∷ []

page_holds : map (λ l. line l.0) page ≡ map (λ l. l.1) page
unfolding page line opening joined shown marked named letter decimal rows
page_holds = refl
