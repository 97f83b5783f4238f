-- Document 01, "Refusal numbers": the table, in its order; 9, 41, 42 and 43 are of document 02, Req 07, Req 01 and Req 06, and
-- stand where they are tested; 15, "functions present", is retired.
use Rattle.std.specs.Prelude.{ℕ, List, [], ◌∷◌}

abbrev pub refusals : List ℕ
refusals =
    7  -- model above `LARGEST` bytes
    ∷ 8  -- operator list unsound
    ∷ 1  -- varint, value or length runs past its message
    ∷ 2  -- tenth varint byte above 1
    ∷ 9  -- a padded tag, value or length
    ∷ 3  -- bad tag
    ∷ 4  -- wrong wire type for a named field
    ∷ 5  -- a single field repeated
    ∷ 6  -- a graph at depth 9
    ∷ 10  -- ir_version outside 3..11
    ∷ 11  -- no graph
    ∷ 12  -- no opset_import
    ∷ 13  -- domain imported twice
    ∷ 14  -- version not within the list
    ∷ 16  -- sparse_initializer present
    ∷ 20  -- graph name empty
    ∷ 21  -- not well-formed UTF-8, or an empty dim_param
    ∷ 22  -- name empty
    ∷ 43  -- at IR 3, an initializer bears the name of no input of its graph
    ∷ 23  -- name already visible
    ∷ 24  -- main input or output has no tensor type
    ∷ 25  -- elem_type outside 1..23
    ∷ 26  -- data_type outside 1..23
    ∷ 27  -- op_type empty
    ∷ 28  -- node's domain not imported
    ∷ 29  -- node name used before in its graph
    ∷ 31  -- attribute name used before in its node
    ∷ 30  -- node input not visible
    ∷ 35  -- graph output not visible
    ∷ 32  -- attribute value rule
    ∷ 33  -- ref_attr_name not empty
    ∷ 34  -- node has no output field
    ∷ 37  -- shape absent
    ∷ 38  -- dim_value negative
    ∷ 40  -- a new name, and visible names already equal the cells
    ∷ 41  -- a function of this name and domain, and from IR 10 overload, stands before it
    ∷ 42  -- a function has an attribute of this name already
    ∷ []
