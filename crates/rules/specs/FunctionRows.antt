-- Functions: rows of `judged`. In `model named` they stand from place 11 on, and their contents from 14 on.
use Rattle.std.specs.Prelude.{ℕ, List, [], ◌∷◌, ◌++◌}
use Prim.Native.String.{String}
use Rattle.varint.specs.Outcome.{pass, Judged, refused, refused_with}
use Rattle.varint.specs.Bytes.{Bytes}
use Rattle.varint.specs.Notation.{hex, ascii}
use Rattle.schema.specs.Numbers.{Model-ir_version, Model-graph, Model-functions, OperatorSetId-domain, OperatorSetId-version}
use Rattle.schema.specs.Numbers.{Function-name, Function-input, Function-output, Function-attribute, Function-node, Function-opset_import}
use Rattle.schema.specs.Numbers.{Function-domain, Function-attribute_proto, Function-overload, Graph-node, Node-output, Node-name, Node-attribute}
use Rattle.schema.specs.Numbers.{Node-domain, Attribute-name, Attribute-ref_attr_name}
use Rattle.rules.specs.Models.{held, counted, body, node, call, graph, import, named, op, out, model_of, model, imported, function}
use Rattle.rules.specs.Verdict.{Counts}

-- ---- parts of a function

flag : String → Bytes
flag x = held Function-attribute (ascii x)

default : String → Bytes → Bytes
default x fields = held Function-attribute_proto (held Attribute-name (ascii x) ++ fields)

imports : String → ℕ → Bytes
imports d v = held Function-opset_import (held OperatorSetId-domain (ascii d) ++ counted OperatorSetId-version v)

within : String → Bytes
within d = held Function-domain (ascii d)

overloaded : String → Bytes
overloaded o = held Function-overload (ascii o)

-- An attribute of a node that refers to this one, and has these fields besides.
refers : String → Bytes → Bytes
refers x fields = held Node-attribute (held Attribute-name (ascii "k") ++ held Attribute-ref_attr_name (ascii x) ++ fields)

unfoldable pub accepted : (nodes names odd : ℕ) → Judged Counts
accepted nodes names odd = pass (record { nodes = nodes; names = names; odd = odd })

-- A model, cells, and the answer.
unfoldable pub function_rows : List (Bytes × ℕ × Judged Counts)
unfolding flag default imports within overloaded refers
function_rows =
    -- a function, with no nodes and with some; names of the model's graph and of other functions are not seen, and may be bound again
    (model named ++ function "f" imported "x" [] "x", 2, accepted 0 1 0)
    ∷ (model named ++ function "f" imported "x" (call "x" [] "y" ∷ []) "y", 4, accepted 1 2 0)
    ∷ (model named ++ function "f" imported "x" (call "x" [] "y" ∷ []) "y", 3, refused 40 32)
    ∷ (model (graph "x" "" (node "x" [] "y" ∷ []) "y") ++ function "f" imported "x" (call "x" [] "y" ∷ []) "y", 4, accepted 2 2 0)
    ∷ (model (graph "x" "" [] "x") ++ function "f" imported "" (call "x" [] "y" ∷ []) "y", 18, refused 30 49)
    ∷ (model named ++ function "f" imported "x" (call "x" [] "y" ∷ []) "y" ++ function "g" imported "" (call "y" [] "z" ∷ []) "z", 18, refused 30 50)
    ∷ (model (graph "x" "" [] "x") ++ function "f" imported "" [] "x", 18, refused 35 47)
    ∷ (model named ++ function "f" imported "x" [] "x x", 2, accepted 0 1 0)
    ∷ (model named ++ function "f" imported "x x" [] "x", 18, refused_with 23 24 21)
    -- its name; an input, an output or an attribute may not be left out
    ∷ (model named ++ held Model-functions [], 0, refused 22 11)
    ∷ (model named ++ function "" imported "" [] "", 0, refused 22 14)
    ∷ (model named ++ held Model-functions (held Function-name (hex "FF")), 0, refused 21 14)
    ∷ (model named ++ function "f" (imported ++ held Function-input []) "" [] "", 2, refused 22 21)
    ∷ (model named ++ function "f" (imported ++ held Function-output []) "" [] "", 2, refused 22 21)
    ∷ (model named ++ function "f" (held Function-attribute [] ++ imported) "" [] "", 2, refused 22 17)
    ∷ (model named ++ function "f" (held Function-attribute (hex "FF") ++ imported) "" [] "", 2, refused 21 17)
    ∷ (model named ++ function "f" (held Function-attribute_proto [] ++ imported) "" [] "", 2, refused 22 17)
    ∷ (model named ++ function "f" (held Function-attribute_proto (held Attribute-name []) ++ imported) "" [] "", 2, refused 22 19)
    -- who it is: name and domain, from IR 10 overload too
    ∷ (model named ++ function "f" imported "" [] "" ++ function "f" imported "" [] "", 0, refused 41 21)
    ∷ (model named ++ function "f" imported "" [] "" ++ function "g" imported "" [] "", 0, accepted 0 0 0)
    ∷ (model named ++ function "f" imported "" [] "" ++ function "f" (imported ++ within "d") "" [] "", 0, accepted 0 0 0)
    ∷ (model named ++ function "f" imported "" [] "" ++ function "f" (imported ++ within "ai.onnx") "" [] "", 0, refused 41 21)
    ∷ (model_of 9 named ++ function "f" imported "" [] "" ++ function "f" (imported ++ overloaded "o") "" [] "", 0, refused 41 21)
    ∷ (model_of 10 named ++ function "f" imported "" [] "" ++ function "f" (imported ++ overloaded "o") "" [] "", 0, accepted 0 0 0)
    ∷ (model_of 11 named ++ function "f" imported "" [] "" ++ function "f" (imported ++ overloaded "o") "" [] "", 0, accepted 0 0 0)
    ∷ (model_of 10 named ++ function "f" (imported ++ overloaded "o") "" [] "" ++ function "f" (overloaded "o" ++ imported) "" [] "", 0, refused 41 24)
    ∷ (model named ++ function "f" (imported ++ within "d") "" [] "" ++ function "f" imported "" [] "" ++ function "f" (within "d" ++ imported) "" [] "", 0, refused 41 34)
    -- 42: twice in one list, twice in the other, in both
    ∷ (model named ++ function "f" (flag "a" ++ flag "a" ++ imported) "" [] "", 0, refused 42 20)
    ∷ (model named ++ function "f" (default "a" (hex "A0 01 02") ++ default "a" (hex "A0 01 02") ++ imported) "" [] "", 0, refused 42 27)
    ∷ (model named ++ function "f" (default "a" (hex "A0 01 02") ++ flag "a" ++ imported) "" [] "", 0, refused 42 19)
    ∷ (model named ++ function "f" (flag "a" ++ default "b" (hex "A0 01 02") ++ imported) "" [] "", 0, accepted 0 0 0)
    ∷ (model named ++ function "f" (flag "a" ++ imported) "" [] "" ++ function "g" (flag "a" ++ imported) "" [] "", 0, accepted 0 0 0)
    -- a default: no graph, no graphs, no reference
    ∷ (model named ++ function "f" (default "a" (hex "32 03 12 01 67 A0 01 05") ++ imported) "" [] "", 0, refused 32 17)
    ∷ (model named ++ function "f" (default "a" (hex "A0 01 05") ++ imported) "" [] "", 0, refused 32 17)
    ∷ (model named ++ function "f" (default "a" (hex "A0 01 0A") ++ imported) "" [] "", 0, refused 32 17)
    ∷ (model named ++ function "f" (default "a" (hex "A0 01 0F") ++ imported) "" [] "", 0, refused 32 17)
    ∷ (model named ++ function "f" (default "a" (hex "A0 01 02 22 00") ++ imported) "" [] "", 0, refused 32 17)
    ∷ (model named ++ function "f" (default "a" (hex "A0 01 04") ++ imported) "" [] "", 0, refused 32 17)
    ∷ (model named ++ function "f" (flag "b" ++ default "a" (held Attribute-ref_attr_name (ascii "b") ++ hex "A0 01 02") ++ imported) "" [] "", 0, refused 33 20)
    ∷ (model named ++ function "f" (default "a" (held Attribute-ref_attr_name [] ++ hex "A0 01 02") ++ imported) "" [] "", 0, accepted 0 0 0)
    ∷ (model named ++ function "f" (default "a" (hex "A0 01 03 22 00") ++ imported) "" [] "", 0, accepted 0 0 0)
    -- a reference: to an attribute of this function, in a nested graph too; of any type, with no value of its own
    ∷ (model named ++ function "f" (flag "a" ++ imported) "x" (call "x" (refers "a" (hex "A0 01 02") ∷ []) "y" ∷ []) "y", 4, accepted 1 2 0)
    ∷ (model named ++ function "f" (default "a" (hex "A0 01 02") ++ imported) "x" (call "x" (refers "a" (hex "A0 01 02") ∷ []) "y" ∷ []) "y", 4, accepted 1 2 0)
    ∷ (model named ++ function "f" (flag "a" ++ imported) "x" (call "x" (refers "a" (hex "A0 01 04") ∷ []) "y" ∷ []) "y", 4, accepted 1 2 0)
    ∷ (model named ++ function "f" (flag "a" ++ imported) "x" (call "x" (refers "a" (hex "A0 01 05") ∷ []) "y" ∷ []) "y", 4, accepted 1 2 0)
    ∷ (model named ++ function "f" (flag "a" ++ imported) "x" (call "x" (refers "b" (hex "A0 01 02") ∷ []) "y" ∷ []) "y", 4, refused 33 35)
    ∷ (model named ++ function "f" (flag "a" ++ imported) "x" (call "x" (refers "a" [] ∷ []) "y" ∷ []) "y", 4, refused 32 35)
    ∷ (model named ++ function "f" (flag "a" ++ imported) "x" (call "x" (refers "a" (hex "A0 01 0F") ∷ []) "y" ∷ []) "y", 4, refused 32 35)
    ∷ (model named ++ function "f" (flag "a" ++ imported) "x" (call "x" (refers "a" (hex "18 01 A0 01 02") ∷ []) "y" ∷ []) "y", 4, refused 32 35)
    ∷ (model named ++ function "f" (flag "a" ++ imported) "x" (call "x" (body "do" (graph "" "" (node "x" (refers "a" (hex "A0 01 02") ∷ []) "t" ∷ []) "t") ∷ []) "y" ∷ []) "y", 4, accepted 2 2 0)
    ∷ (model named ++ function "f" imported "x" (call "x" (body "do" (graph "" "" (node "x" (refers "a" (hex "A0 01 02") ∷ []) "t" ∷ []) "t") ∷ []) "y" ∷ []) "y", 4, refused 33 51)
    ∷ (model named ++ function "f" (flag "a" ++ imported) "" [] "" ++ function "g" imported "" (call "" (refers "a" (hex "A0 01 02") ∷ []) "y" ∷ []) "y", 4, refused 33 39)
    ∷ (model (graph "x" "" (node "x" (refers "a" (hex "A0 01 02") ∷ []) "y" ∷ []) "y") ++ function "f" (flag "a" ++ imported) "" [] "", 4, refused 33 32)
    -- its own imports, and no others
    ∷ (model named ++ function "f" [] "" [] "", 0, refused 12 11)
    ∷ (model named ++ function "f" (imported ++ imports "ai.onnx" 13) "" [] "", 0, refused 13 21)
    ∷ (model named ++ function "f" (imports "" 22) "" [] "", 0, refused 14 17)
    ∷ (counted Model-ir_version 8 ++ import "m" 1 ++ import "" 13 ++ held Model-graph named ++ function "f" imported "" (held Function-node (held Node-domain (ascii "m") ++ op ++ out) ∷ []) "y", 2, refused 28 32)
    ∷ (counted Model-ir_version 8 ++ import "m" 1 ++ import "" 13 ++ held Model-graph named ++ function "f" (imports "m" 2) "" (call "" [] "y" ∷ []) "y", 2, refused 28 33)
    ∷ (counted Model-ir_version 8 ++ import "m" 1 ++ import "" 13 ++ held Model-graph named ++ function "f" (imports "m" 2) "" (held Function-node (held Node-domain (ascii "m") ++ op ++ out) ∷ []) "y", 2, accepted 1 1 0)
    ∷ (counted Model-ir_version 8 ++ import "m" 1 ++ import "" 13 ++ held Model-graph named ++ function "f" (imports "m" 2 ++ imports "ai.onnx" 7) "" (call "" [] "y" ∷ []) "y", 2, accepted 1 1 0)
    ∷ (counted Model-ir_version 8 ++ import "m" 1 ++ import "" 13 ++ held Model-graph named ++ function "f" (imports "m" 1) "" [] "" ++ function "g" imported "" (held Function-node (held Node-domain (ascii "m") ++ op ++ out) ∷ []) "y", 2, refused 28 45)
    -- names of nodes: 29 within the function
    ∷ (model named ++ function "f" imported "" (held Function-node (held Node-name (ascii "n") ++ op ++ held Node-output (ascii "y")) ∷ held Function-node (held Node-name (ascii "n") ++ op ++ held Node-output (ascii "z")) ∷ []) "", 4, refused 29 34)
    ∷ (model (named ++ held Graph-node (held Node-name (ascii "n") ++ op ++ held Node-output (ascii "y"))) ++ function "f" imported "" (held Function-node (held Node-name (ascii "n") ++ op ++ held Node-output (ascii "y")) ∷ []) "" ++ function "g" imported "" (held Function-node (held Node-name (ascii "n") ++ op ++ held Node-output (ascii "y")) ∷ []) "", 2, accepted 3 1 0)
    -- all counts include functions; the greatest may lie in one, or in the main graph; at IR 3 its graphs are as others
    ∷ (model (graph "x y z" "" [] "x") ++ function "f" imported "x" (call "x" (body "do" (graph "i" "" [] "i") ∷ []) "y" ∷ []) "y", 6, accepted 1 3 0)
    ∷ (model (graph "x" "" [] "x") ++ function "f" imported "x" (call "x" (body "do" (graph "i j" "" [] "i") ∷ []) "y" ∷ []) "y", 6, accepted 1 3 0)
    ∷ (model named ++ function "/f" (held Function-attribute (ascii "/a") ++ default "/b" (hex "A0 01 02") ++ imported ++ within "/d") "/x" (call "/x" [] "/y" ∷ []) "/y", 4, accepted 1 2 7)
    ∷ (model_of 3 named ++ function "f" imported "x" (call "x" (body "do" (graph "i" "k" [] "i") ∷ []) "y" ∷ []) "y", 18, refused 43 60)
    ∷ (model_of 3 named ++ function "f" imported "x" (call "x" (body "do" (graph "i" "i" [] "i") ∷ []) "y" ∷ []) "y", 4, accepted 1 2 0)
    -- the order of neighbouring rules: each model breaks both; wire faults come before the header, the header and the main graph before functions
    ∷ (counted Model-ir_version 2 ++ held Model-functions (hex "08 00"), 0, refused 4 5)
    ∷ (counted Model-ir_version 2 ++ held Model-functions [], 0, refused 10 0)
    ∷ (counted Model-ir_version 8 ++ held Model-functions [], 0, refused 11 0)
    ∷ (held Model-functions [] ++ model [], 0, refused 20 9)
    ∷ (model named ++ held Model-functions [] ++ function "f" imported "" [] "" ++ function "f" imported "" [] "", 0, refused 22 11)
    ∷ (model named ++ function "f" imported "" [] "" ++ function "f" (held Function-attribute [] ++ imported) "" [] "", 0, refused 41 21)
    ∷ (model named ++ function "f" (default "" (hex "A0 01 02") ++ held Function-attribute []) "" [] "", 0, refused 22 24)
    ∷ (model named ++ function "f" (flag "a" ++ default "a" (held Attribute-ref_attr_name (ascii "a"))) "" [] "", 0, refused 42 22)
    ∷ (model named ++ function "f" (default "a" (held Attribute-ref_attr_name (ascii "a"))) "" [] "", 0, refused 33 17)
    ∷ (model named ++ function "f" (default "a" []) "" [] "", 0, refused 32 17)
    ∷ (model named ++ function "f" (held Function-input []) "" [] "", 0, refused 12 11)
    ∷ (model named ++ function "f" (held Function-input [] ++ imports "" 22) "" [] "", 0, refused 14 19)
    ∷ (model named ++ function "f" (held Function-node [] ++ held Function-input [] ++ imported) "" [] "", 0, refused 22 19)
    ∷ (model named ++ function "f" (held Function-output [] ++ held Function-node [] ++ imported) "" [] "", 0, refused 27 19)
    ∷ (model named ++ function "f" imported "x" [] "z" ++ function "f" imported "" [] "", 2, refused 35 24)
    ∷ []

-- All of this file, for whoever computes with it.
unfoldable pub FunctionRows-computes : Unit {0}
unfolding accepted function_rows
FunctionRows-computes = tt
