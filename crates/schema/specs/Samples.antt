-- The first walk on both sides of each of its rules, evaluated.
use Rattle.std.specs.Prelude.{ℕ, zero, suc, ◌+◌, ◌*◌, ◌≡◌, refl, length}
use mathlib.Core.List.{List, [], ◌∷◌, ◌++◌, map, flat_map}
use Rattle.varint.specs.Outcome.{pass, Rule, refused}
use Rattle.varint.specs.Bytes.{Bytes}
use Rattle.varint.specs.Notation.{hex, Notation-computes}
use Rattle.schema.specs.FirstWalk.{first_walk, FirstWalk-computes}

-- A graph with `n` more inside it, each in an attribute of a node of the one around it.
nested : ℕ → Bytes
nested zero = []
nested (suc n) = let g = nested n in 0x0A ∷ (length g + 4) ∷ 0x2A ∷ (length g + 2) ∷ 0x32 ∷ length g ∷ g

graphs : ℕ → Bytes
graphs n = let g = nested n in 0x3A ∷ length g ∷ g

-- A message inside others: on the way to it each tag, and the length of what its field holds.
inside : (way : Bytes) → Bytes → Bytes
inside [] m = m
inside (t ∷ way) m = let inner = inside way m in t ∷ length inner ∷ inner

-- A function with these fields, and one with a graph that has `n` more inside it: under a node, and as a default.
function : Bytes → Bytes
function fields = 0xCA ∷ 0x01 ∷ length fields ∷ fields

called : ℕ → Bytes
called n = function (inside (hex "3A 2A 32") (nested n))

default : ℕ → Bytes
default n = function (inside (hex "5A 32") (nested n))

walks : List (Bytes × Rule)
walks =
    ([], pass tt)
    ∷ (hex "08 88 80 80 80 80 80 80 80 80 01", pass tt)
    ∷ (hex "08 80 80 80 80 80 80 80 80 80 80", refused 2 0)
    ∷ (hex "88 80 80 80 80 80 80 80 80 81 08", refused 2 0)
    ∷ (hex "80 80 80 80 10 00", refused 3 0)  -- 2^32
    ∷ (hex "F8 FF FF FF 0F 00", pass tt)  -- the largest field number
    ∷ (hex "0B", refused 3 0)  -- wire type 3
    ∷ (hex "FB 01", refused 3 0)  -- and of a field that no row names
    ∷ (hex "F9 01 00 00 00 00 00 00 00 00", pass tt)  -- eight bytes that no row names
    ∷ (hex "F9 01 00 00 00 00 00 00 00", refused 1 0)
    ∷ (hex "08 08 08", refused 5 2)  -- a repeat comes before its missing value
    ∷ (hex "08 08 0A 00", refused 4 2)  -- and after its wire kind
    ∷ (hex "3A 02 0A 01", refused 1 2)  -- a length inside its message, and one past it
    ∷ (hex "0A 02 0A 05", refused 4 0)
    ∷ (hex "3A 08 0A 06 2A 04 3A 02 08 01", pass tt)  -- floats packed, and not a whole number of them
    ∷ (hex "3A 0A 0A 08 2A 06 42 00 40 01 40 02", pass tt)  -- ints packed and not
    ∷ (hex "3A 06 0A 04 2A 02 15 00", refused 1 6)  -- f is four bytes
    ∷ (hex "3A 08 5A 06 12 04 0A 00 22 00", refused 5 8)  -- a second member of Type's one of
    ∷ (hex "3A 0E 5A 0C 12 0A 0A 08 12 06 0A 04 08 01 12 00", refused 5 14)  -- and of Dimension's
    ∷ (graphs 7, pass tt)  -- depth 8
    ∷ (graphs 8, refused 6 48)
    ∷ (function (hex "0A 00 0A 00"), refused 5 5)  -- a function's name, domain and overload, each alone
    ∷ (function (hex "52 00 52 00"), refused 5 5)
    ∷ (function (hex "6A 00 6A 00"), refused 5 5)
    ∷ (function (hex "22 00 2A 00 32 00 3A 00 4A 00 5A 00 22 00 2A 00 32 00 3A 00 4A 00 5A 00"), pass tt)  -- and lists
    ∷ (function (hex "08 00"), refused 4 3)
    ∷ (function (hex "20 00"), refused 4 3)
    ∷ (function (hex "38 00"), refused 4 3)
    ∷ (function (hex "4A 01 10"), refused 1 5)  -- an import, a node and a default are opened
    ∷ (function (hex "3A 02 22 01"), refused 1 5)
    ∷ (function (hex "5A 02 08 01"), refused 4 5)
    ∷ (function (hex "10 01 10 01 18 01 42 00 60 01 60 01 72 00"), pass tt)  -- 2, 3, 8, 12 and 14 are unknown
    ∷ (called 6, pass tt)  -- a function is at depth 1
    ∷ (called 7, refused 6 49)
    ∷ (default 6, pass tt)
    ∷ (default 7, refused 6 47)
    ∷ []

-- The way to a message of each kind, and to a graph of each depth up to 8.
ways : List Bytes
ways =
    []
    ∷ hex "42"  -- OperatorSetId
    ∷ hex "3A"  -- Graph
    ∷ hex "3A 0A"  -- Node
    ∷ hex "3A 0A 2A"  -- Attribute
    ∷ hex "3A 2A"  -- Tensor
    ∷ hex "3A 5A"  -- ValueInfo
    ∷ hex "3A 5A 12"  -- Type
    ∷ hex "3A 5A 12 0A"  -- Type.Tensor
    ∷ hex "3A 5A 12 0A 12"  -- Shape
    ∷ hex "3A 5A 12 0A 12 0A"  -- Dimension
    ∷ hex "3A 0A 2A 32"
    ∷ hex "3A 0A 2A 5A 0A 2A 32"
    ∷ hex "3A 0A 2A 32 0A 2A 5A 0A 2A 32"
    ∷ hex "3A 0A 2A 32 0A 2A 32 0A 2A 32 0A 2A 32"
    ∷ hex "3A 0A 2A 32 0A 2A 32 0A 2A 32 0A 2A 32 0A 2A 32"
    ∷ hex "3A 0A 2A 32 0A 2A 32 0A 2A 32 0A 2A 32 0A 2A 32 0A 2A 32"
    ∷ hex "3A 0A 2A 32 0A 2A 32 0A 2A 32 0A 2A 32 0A 2A 32 0A 2A 32 0A 2A 32"
    ∷ []

-- And from a function inwards: to itself, an import, a node, a default.
function_ways : List Bytes
function_ways = [] ∷ hex "4A" ∷ hex "3A" ∷ hex "5A" ∷ []

-- Fields that no row names: a padded tag of each wire type, a padded value, a padded length.
unknown : List Bytes
unknown =
    hex "A0 86 00 00"
    ∷ hex "A1 86 80 00 01 02 03 04 05 06 07 08"
    ∷ hex "A2 86 80 80 80 80 80 80 80 00 00"
    ∷ hex "A5 86 00 01 02 03 04"
    ∷ hex "A0 06 81 00"
    ∷ hex "A2 06 80 80 00"
    ∷ []

-- Document 02, Req 07: each position in each message, and the rules beside it.
padded : List (Bytes × Rule)
padded =
    flat_map (λ way. map (λ field. (inside way field, refused 9 (2 * length way))) unknown) ways
    ++ flat_map (λ way. map (λ field. (function (inside way field), refused 9 (3 + 2 * length way))) unknown) function_ways
    ++ ((hex "88 00 08", refused 9 0)  -- ir_version: tag, value
    ∷ (hex "08 88 00", refused 9 0)
    ∷ (hex "08 80 80 80 80 80 80 80 80 80 00", refused 9 0)  -- of ten bytes
    ∷ (hex "08 08 3A 80 00", refused 9 2)  -- graph: length
    ∷ (hex "CA 01 80 00", refused 9 0)  -- functions: length
    ∷ (function (hex "52 80 00"), refused 9 3)  -- a function's domain: length
    ∷ (inside (hex "42") (hex "8A 00 00"), refused 9 2)  -- domain: tag, length
    ∷ (inside (hex "42") (hex "0A 80 00"), refused 9 2)
    ∷ (inside (hex "42") (hex "10 8D 00"), refused 9 2)  -- version: value
    ∷ (inside (hex "3A") (hex "92 00 01 67"), refused 9 2)  -- a graph's name: tag, length
    ∷ (inside (hex "3A") (hex "12 81 00 67"), refused 9 2)
    ∷ (inside (hex "3A 0A") (hex "A2 00 01 58"), refused 9 4)  -- op_type: tag, length
    ∷ (inside (hex "3A 0A") (hex "22 81 00 58"), refused 9 4)
    ∷ (inside (hex "3A 0A 2A") (hex "A0 81 00 02"), refused 9 6)  -- type: tag, value
    ∷ (inside (hex "3A 0A 2A") (hex "A0 01 82 00"), refused 9 6)
    ∷ (inside (hex "3A 0A 2A") (hex "95 00 01 02 03 04"), refused 9 6)  -- f: tag
    ∷ (inside (hex "3A 0A 2A") (hex "40 80 00"), refused 9 6)  -- ints: value, length, and contents, which are not read
    ∷ (inside (hex "3A 0A 2A") (hex "42 82 00 80 00"), refused 9 6)
    ∷ (inside (hex "3A 0A 2A") (hex "42 02 80 00"), pass tt)
    ∷ (inside (hex "3A 0A 2A") (hex "32 80 00"), refused 9 6)  -- g: length
    ∷ (inside (hex "3A 2A") (hex "90 00 01"), refused 9 4)  -- data_type: tag, value
    ∷ (inside (hex "3A 2A") (hex "10 81 00"), refused 9 4)
    ∷ (inside (hex "3A 2A") (hex "42 81 00 77"), refused 9 4)  -- an initializer's name: length
    ∷ (inside (hex "3A 5A") (hex "8A 00 01 61"), refused 9 4)  -- an input's name: tag; its type: length
    ∷ (inside (hex "3A 5A") (hex "12 80 00"), refused 9 4)
    ∷ (inside (hex "3A 5A 12") (hex "8A 00 00"), refused 9 6)  -- tensor: tag, length
    ∷ (inside (hex "3A 5A 12") (hex "0A 80 00"), refused 9 6)
    ∷ (inside (hex "3A 5A 12 0A") (hex "88 00 01"), refused 9 8)  -- elem_type: tag, value; shape: length
    ∷ (inside (hex "3A 5A 12 0A") (hex "08 81 00"), refused 9 8)
    ∷ (inside (hex "3A 5A 12 0A") (hex "12 80 00"), refused 9 8)
    ∷ (inside (hex "3A 5A 12 0A 12") (hex "8A 00 00"), refused 9 10)  -- dim: tag, length
    ∷ (inside (hex "3A 5A 12 0A 12") (hex "0A 80 00"), refused 9 10)
    ∷ (inside (hex "3A 5A 12 0A 12 0A") (hex "88 00 01"), refused 9 12)  -- dim_value: tag, value; dim_param: length
    ∷ (inside (hex "3A 5A 12 0A 12 0A") (hex "08 81 00"), refused 9 12)
    ∷ (inside (hex "3A 5A 12 0A 12 0A") (hex "12 81 00 4E"), refused 9 12)
    -- tag: 1, 2, 9, 3, 4, 5
    ∷ (hex "88", refused 1 0)
    ∷ (hex "88 80", refused 1 0)
    ∷ (hex "88 80 80 80 80 80 80 80 80 80 00", refused 2 0)
    ∷ (hex "88 80 80 80 80 80 80 80 80 00", refused 9 0)
    ∷ (hex "80 00 00", refused 9 0)
    ∷ (hex "8B 00", refused 9 0)
    ∷ (hex "80 80 80 80 90 00", refused 9 0)
    ∷ (hex "8A 00 00", refused 9 0)
    ∷ (hex "08 08 88 00 08", refused 9 2)
    -- 4 and 5, then value or length: 1, 2, 9, the extent's 1; then 6
    ∷ (hex "0A 80 00", refused 4 0)
    ∷ (hex "08 08 08 80 00", refused 5 2)
    ∷ (hex "08 80", refused 1 0)
    ∷ (hex "08 80 80 80 80 80 80 80 80 80 80 00", refused 2 0)
    ∷ (hex "3A 85 00", refused 9 0)
    ∷ (hex "A2 06 85 00", refused 9 0)
    ∷ (inside (hex "3A 0A 2A 32 0A 2A 32 0A 2A 32 0A 2A 32 0A 2A 32 0A 2A 32 0A 2A 32 0A 2A") (hex "32 80 00"), refused 9 48)
    ∷ (inside (hex "3A 0A 2A 32 0A 2A 32 0A 2A 32 0A 2A 32 0A 2A 32 0A 2A 32 0A 2A 32 0A 2A") (hex "32 00"), refused 6 48)
    -- the first fault in byte order
    ∷ (hex "3A 00 88 00 08 0B", refused 9 2)
    ∷ (hex "3A 00 0B 88 00 08", refused 3 2)
    ∷ [])

walks_hold : map (λ s. first_walk s.0) (walks ++ padded) ≡ map (λ s. s.1) (walks ++ padded)
unfolding walks nested graphs function called default inside ways function_ways unknown padded flat_map Notation-computes FirstWalk-computes
walks_hold = refl
