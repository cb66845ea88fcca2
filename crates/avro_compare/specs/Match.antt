-- Which nodes of a writer's schema match which of a reader's (Avro 1.11, "Schema Resolution").
use Rattle.std.specs.Prelude.{◌≡◌, ℕ, suc, Bool, true, false, cond, ◌&&◌, ◌||◌, List, [], ◌∷◌, Option, Some, None, length, ◌==◌, bytes_eq, option_and_then}
use Rattle.std.specs.List.{list_any}
use Rattle.avro_name.specs.Name.{Name, same_name}
use Rattle.avro_schema.specs.Node.{Node, FieldNode, node_at, branches_of}

-- equal simple names, or the writer's fullname is one of the reader's aliases
abbrev pub are_alike : Name → Name → List Name → Bool
are_alike writer reader aliases = bytes_eq writer.simple reader.simple || list_any (same_name writer) aliases

-- the two nodes match
pub data Matches (writer reader : List Node) : Node → Node → Type 0 where
  writer_union : {ids : List ℕ} {r : Node} → Matches writer reader (Node.union ids) r
  reader_union : {w : Node} {ids : List ℕ} → Matches writer reader w (Node.union ids)
  nulls : Matches writer reader Node.null Node.null
  booleans : Matches writer reader Node.boolean Node.boolean
  ints : Matches writer reader Node.int Node.int
  longs : Matches writer reader Node.long Node.long
  int_to_long : Matches writer reader Node.int Node.long
  bytes_alike : Matches writer reader Node.bytes Node.bytes
  strings : Matches writer reader Node.string Node.string
  string_to_bytes : Matches writer reader Node.string Node.bytes
  bytes_to_string : Matches writer reader Node.bytes Node.string
  arrays : {a b : ℕ} → Matches writer reader (node_at writer a) (node_at reader b) → Matches writer reader (Node.array a) (Node.array b)
  maps : {a b : ℕ} → Matches writer reader (node_at writer a) (node_at reader b) → Matches writer reader (Node.map_of a) (Node.map_of b)
  records : {a b : Name} {a_aliases b_aliases : List Name} {fs gs : List FieldNode} → are_alike a b b_aliases ≡ true
      → Matches writer reader (Node.record_of a a_aliases fs) (Node.record_of b b_aliases gs)
  enums : {a b : Name} {a_aliases b_aliases : List Name} {xs ys : List (List ℕ)} {x y : Option ℕ} → are_alike a b b_aliases ≡ true
      → Matches writer reader (Node.enum a a_aliases xs x) (Node.enum b b_aliases ys y)
  fixeds : {a b : Name} {a_aliases b_aliases : List Name} {n : ℕ} → are_alike a b b_aliases ≡ true
      → Matches writer reader (Node.fixed a a_aliases n) (Node.fixed b b_aliases n)

-- whether they do, where arrays and maps are looked into at most this deep: a well-formed schema has
-- fewer of them in a row than nodes
abbrev pub match_within : ℕ → List Node → List Node → Node → Node → Bool
match_within steps writer reader (Node.union ids) r = true
match_within steps writer reader w (Node.union ids) = true
match_within steps writer reader Node.null Node.null = true
match_within steps writer reader Node.boolean Node.boolean = true
match_within steps writer reader Node.int Node.int = true
match_within steps writer reader Node.int Node.long = true
match_within steps writer reader Node.long Node.long = true
match_within steps writer reader Node.bytes Node.bytes = true
match_within steps writer reader Node.bytes Node.string = true
match_within steps writer reader Node.string Node.string = true
match_within steps writer reader Node.string Node.bytes = true
match_within (suc steps) writer reader (Node.array a) (Node.array b) = match_within steps writer reader (node_at writer a) (node_at reader b)
match_within (suc steps) writer reader (Node.map_of a) (Node.map_of b) = match_within steps writer reader (node_at writer a) (node_at reader b)
match_within steps writer reader (Node.record_of a a_aliases fs) (Node.record_of b b_aliases gs) = are_alike a b b_aliases
match_within steps writer reader (Node.enum a a_aliases xs x) (Node.enum b b_aliases ys y) = are_alike a b b_aliases
match_within steps writer reader (Node.fixed a a_aliases n) (Node.fixed b b_aliases m) = are_alike a b b_aliases && n == m
match_within steps writer reader w r = false

-- the test whether two nodes match, as deep as a schema has nodes
abbrev pub is_match : List Node → List Node → Node → Node → Bool
is_match writer reader w r = match_within (length writer) writer reader w r

-- the first of some reader's branches that matches, by its index among them
abbrev pub first_match_from : ℕ → List Node → List Node → Node → List ℕ → Option ℕ
first_match_from index writer reader w [] = None
first_match_from index writer reader w (b ∷ bs) =
    cond (is_match writer reader w (node_at reader b)) (Some index) (first_match_from (suc index) writer reader w bs)

-- the first branch of a reader's union that matches, by its index among the branches
abbrev pub first_match : List Node → List Node → Node → List ℕ → Option ℕ
first_match writer reader w ids = first_match_from 0 writer reader w ids

-- the same of a reader's node; only a union has branches
abbrev pub first_match_at : List Node → List Node → Node → Node → Option ℕ
first_match_at writer reader w r = option_and_then (first_match writer reader w) (branches_of r)
