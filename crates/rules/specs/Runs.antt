-- Runs of the runner, evaluated.
use Rattle.std.specs.Prelude.{ℕ, ◌≡◌, refl, List, [], ◌∷◌, ◌++◌, map, reverse}
use Prim.Native.String.{String}
use Rattle.varint.specs.Outcome.{Outcome, pass, fail}
use Rattle.varint.specs.Bytes.{Bytes}
use Rattle.schema.specs.Numbers.{Model-ir_version, Model-graph}
use Rattle.rules.specs.Models.{held, counted, body, node, call, graph, named, model_of, model, imported, function, Models-computes}
use Rattle.rules.specs.Runner.{Stop, binding, reading, Ran, run, Runner-computes}

-- The reads of a run in the order in which they were made, each as the place of the field and the place that it found.
told : Ran → Outcome Stop (List (ℕ × ℕ))
told (pass r) = pass (map (λ x. (x.field, x.found)) (reverse r.trace))
told (fail s) = fail s

-- ---- main graphs; each has the input `x`, and its last node binds `y`

straight : Bytes
straight = graph "x" "" (node "x" [] "a" ∷ node "x a" [] "y" ∷ []) "y"

-- Both bodies bind `t`, and neither sees the other's.
two_bodies : Bytes
two_bodies =
    graph "x" "" (node "x" (body "then" (graph "" "" (node "x" [] "t" ∷ []) "t") ∷ body "else" (graph "" "t" [] "t") ∷ []) "y" ∷ []) "y"

one_body : Bytes
one_body = graph "x" "" (node "" (body "do" (graph "" "" (node "x" [] "t" ∷ []) "t") ∷ []) "y" ∷ []) "y"

inner : Bytes
inner = graph "" "" (node "t" [] "u" ∷ []) "u"

outer : Bytes
outer = graph "" "" (node "x" [] "t" ∷ node "" (body "do" inner ∷ []) "v" ∷ []) "v"

nested : Bytes
nested = graph "x" "" (node "" (body "do" outer ∷ []) "y" ∷ []) "y"

-- A body binds `t`, and so does its own node.
shadow : Bytes
shadow = graph "x" "" (node "" (body "do" (graph "" "t" [] "t") ∷ []) "t" ∷ node "t" [] "y" ∷ []) "y"

-- A body reads its own node's output.
self_reader : Bytes
self_reader = graph "x" "" (node "" (body "do" (graph "" "" (node "y" [] "t" ∷ []) "t") ∷ []) "y" ∷ []) "y"

-- A body has an input `i`, and these initializers.
defaulting : String → Bytes
defaulting initializers = graph "x" "" (node "" (body "do" (graph "i" initializers [] "i") ∷ []) "y" ∷ []) "y"

-- ---- functions

-- One with a node, and one whose node has a body.
one_node : Bytes
one_node = function "f" imported "x" (call "x" [] "y" ∷ []) "y"

with_body : Bytes
with_body = function "f" imported "x" (call "" (body "do" (graph "" "" (node "x" [] "t" ∷ []) "t") ∷ []) "y" ∷ []) "y"

-- A model, choices, and what is told of the run.
runs : List (Bytes × List ℕ × Outcome Stop (List (ℕ × ℕ)))
runs =
    (model straight, [], pass ((26, 13) ∷ (37, 13) ∷ (40, 32) ∷ (51, 46) ∷ []))
    ∷ (model two_bodies, [], pass ((26, 13) ∷ (47, 13) ∷ (58, 53) ∷ (94, 89) ∷ (113, 108) ∷ []))
    ∷ (model two_bodies, 0 ∷ 1 ∷ [], pass ((26, 13) ∷ (94, 89) ∷ (113, 108) ∷ []))
    ∷ (model one_body, [], pass ((42, 13) ∷ (53, 48) ∷ (72, 67) ∷ []))
    ∷ (model one_body, 0 ∷ [], pass ((72, 67) ∷ []))
    ∷ (model one_body, 3 ∷ [], pass ((42, 13) ∷ (53, 48) ∷ (42, 13) ∷ (53, 48) ∷ (42, 13) ∷ (53, 48) ∷ (72, 67) ∷ []))
    ∷ (model nested, [], pass ((42, 13) ∷ (69, 48) ∷ (80, 75) ∷ (99, 94) ∷ (118, 113) ∷ []))
    -- the outer body twice, and in it the inner one not at all, then three times
    ∷ (model nested, 2 ∷ 0 ∷ 3 ∷ [], pass ((42, 13) ∷ (99, 94) ∷ (42, 13) ∷ (69, 48) ∷ (80, 75) ∷ (69, 48) ∷ (80, 75) ∷ (69, 48) ∷ (80, 75) ∷ (99, 94) ∷ (118, 113) ∷ []))
    ∷ (model shadow, 2 ∷ [], pass ((49, 44) ∷ (49, 44) ∷ (68, 63) ∷ (79, 74) ∷ []))
    ∷ (model self_reader, [], fail (reading 42))
    ∷ (model self_reader, 0 ∷ [], pass ((72, 67) ∷ []))
    -- a default, and a second one
    ∷ (model (graph "x" "x" (node "x" [] "y" ∷ []) "y"), [], pass ((33, 13) ∷ (44, 39) ∷ []))
    ∷ (model (graph "x" "x x" (node "x" [] "y" ∷ []) "y"), [], fail (binding 35 13))
    -- a default in a body: at IR 3 it binds nothing new, and a second one binds a bound name; at IR 4 the first does
    ∷ (model_of 3 (defaulting "i"), 2 ∷ [], pass ((62, 42) ∷ (62, 42) ∷ (81, 76) ∷ []))
    ∷ (model_of 3 (defaulting "i i"), [], fail (binding 64 42))
    ∷ (model_of 4 (defaulting "i"), [], fail (binding 57 42))
    ∷ (held Model-graph (defaulting "i") ++ counted Model-ir_version 3, [], pass ((56, 36) ∷ (75, 70) ∷ []))
    -- a body binds an outer name
    ∷ (model (graph "x" "" (node "" (body "do" (graph "x" "" [] "x") ∷ []) "y" ∷ []) "y"), [], fail (binding 42 13))
    -- use before definition, an output that is not defined, a name bound twice
    ∷ (model (graph "x" "" (node "a" [] "y" ∷ node "x" [] "a" ∷ []) "y"), [], fail (reading 26))
    ∷ (model (graph "x" "" (node "x" [] "a" ∷ []) "y"), [], fail (reading 37))
    ∷ (model (graph "x" "" (node "x" [] "y y" ∷ []) "y"), [], fail (binding 35 32))
    -- the same output listed twice; a left-out input and a left-out output
    ∷ (model (graph "x" "" (node "x" [] "y" ∷ []) "y y"), [], pass ((26, 13) ∷ (37, 32) ∷ (50, 32) ∷ []))
    ∷ (model (graph "x" "" (node " x" [] " y" ∷ []) "y"), [], pass ((28, 13) ∷ (41, 36) ∷ []))
    -- functions after the main graph, each from no bound names; without a graph too
    ∷ (model straight ++ one_node, [], pass ((26, 13) ∷ (37, 13) ∷ (40, 32) ∷ (51, 46) ∷ (77, 72) ∷ (86, 83) ∷ []))
    ∷ (model named ++ one_node ++ one_node, [], pass ((26, 21) ∷ (35, 32) ∷ (53, 48) ∷ (62, 59) ∷ []))
    ∷ (counted Model-ir_version 8 ++ one_node, [], pass ((17, 12) ∷ (26, 23) ∷ []))
    -- what is left of the choices: the main graph's body not at all, the function's twice; and 1 when none is left
    ∷ (model one_body ++ with_body, 0 ∷ 2 ∷ [], pass ((72, 67) ∷ (114, 93) ∷ (125, 120) ∷ (114, 93) ∷ (125, 120) ∷ (142, 139) ∷ []))
    ∷ (model one_body ++ with_body, 0 ∷ [], pass ((72, 67) ∷ (114, 93) ∷ (125, 120) ∷ (142, 139) ∷ []))
    -- a body reads a name of the main graph, one of another function, and binds its own input
    ∷ (model (graph "x" "" [] "x") ++ function "f" imported "" (call "x" [] "y" ∷ []) "y", [], fail (reading 49))
    ∷ (model named ++ one_node ++ function "g" imported "" (call "y" [] "z" ∷ []) "z", [], fail (reading 50))
    ∷ (model named ++ function "f" imported "x" (call "x" [] "x" ∷ []) "x", [], fail (binding 32 21))
    ∷ []

runs_hold : map (λ s. told (run s.0 s.1)) runs ≡ map (λ s. s.2) runs
unfolding told runs straight two_bodies one_body inner outer nested shadow self_reader defaulting one_node with_body Models-computes Runner-computes
runs_hold = refl
