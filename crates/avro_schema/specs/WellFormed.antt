-- When a list of nodes is a schema (Avro 1.11, "Schema Declaration", "Names", "Aliases").
use Rattle.std.specs.Prelude.{ℕ, suc, Bool, true, false, ◌&&◌, ◌||◌, List, [], ◌∷◌, Option, Some, None, length, nat_lt, nat_le, ◌==◌, bytes_eq, is_some, filter_map, flat_map}
use Rattle.std.specs.List.{list_all}
use Rattle.avro_name.specs.Name.{Name, is_full_name, is_simple_name, same_name}
use Rattle.avro_schema.specs.Value.{Value}
use Rattle.avro_schema.specs.Node.{Node, FieldNode, node_at, node_name, node_aliases, edges_of}
use Rattle.avro_schema.specs.Fits.{fits}
use Rattle.avro_schema.specs.Distinct.{are_distinct}

-- the most nodes of a schema: a limit of this project
abbrev pub max_nodes : ℕ
max_nodes = 4096

-- the most symbols of an enum and the most bytes of a fixed: a limit of this project
abbrev pub max_count : ℕ
max_count = 1048576

-- an edge goes to a node in the list, which is a later one or a record, an enum or a fixed
abbrev pub is_edge : List Node → ℕ → ℕ → Bool
is_edge nodes from to = nat_lt to (length nodes) && (nat_lt from to || is_some (node_name (node_at nodes to)))

-- the kind of a union's branch: none twice, except for named types, which differ by their names
pub data BranchKind : Type 0 where
  unnamed : ℕ → BranchKind
  named : Name → BranchKind

-- the kind of a node as a branch; a union has none, since no union may hold one directly
abbrev pub branch_kind : Node → Option BranchKind
branch_kind Node.null = Some (unnamed 0)
branch_kind Node.boolean = Some (unnamed 1)
branch_kind Node.int = Some (unnamed 2)
branch_kind Node.long = Some (unnamed 3)
branch_kind Node.bytes = Some (unnamed 4)
branch_kind Node.string = Some (unnamed 5)
branch_kind (Node.array id) = Some (unnamed 6)
branch_kind (Node.map_of id) = Some (unnamed 7)
branch_kind (Node.union ids) = None
branch_kind (Node.record_of name aliases fields) = Some (named name)
branch_kind (Node.enum name aliases symbols default) = Some (named name)
branch_kind (Node.fixed name aliases count) = Some (named name)

-- the test whether two kinds are equal
abbrev pub same_kind : BranchKind → BranchKind → Bool
same_kind (unnamed a) (unnamed b) = a == b
same_kind (unnamed a) (named b) = false
same_kind (named a) (unnamed b) = false
same_kind (named a) (named b) = same_name a b

-- a union has at least one branch, none of them a union, no two of the same unnamed type or fullname
abbrev pub is_union : List Node → List ℕ → Bool
is_union nodes ids =
    nat_lt 0 (length ids) && list_all (λ id. is_some (branch_kind (node_at nodes id))) ids
    && are_distinct same_kind (filter_map (λ id. branch_kind (node_at nodes id)) ids)

-- the default of an enum is the index of one of its symbols, if there is one
abbrev pub is_default : List (List ℕ) → Option ℕ → Bool
is_default symbols None = true
is_default symbols (Some index) = nat_lt index (length symbols)

-- an enum has 1 to `max_count` symbols, which are distinct names, and a default that is one of them, if any
abbrev pub is_enum : List (List ℕ) → Option ℕ → Bool
is_enum symbols default =
    nat_lt 0 (length symbols) && nat_le (length symbols) max_count && list_all is_simple_name symbols
    && are_distinct bytes_eq symbols && is_default symbols default

-- a default fits the node of its field
abbrev pub has_good_default : List Node → FieldNode → Bool
has_good_default nodes f = is_good f.default
  where
    is_good : Option Value → Bool
    is_good None = true
    is_good (Some v) = fits nodes (node_at nodes f.node) v

-- all the names of a field
abbrev pub field_names : FieldNode → List (List ℕ)
field_names f = f.name ∷ f.aliases

-- names and aliases of fields are names, distinct within the record, and each default fits
abbrev pub are_fields : List Node → List FieldNode → Bool
are_fields nodes fields =
    list_all is_simple_name (flat_map field_names fields) && are_distinct bytes_eq (flat_map field_names fields)
    && list_all (has_good_default nodes) fields

-- what a node of each kind meets by itself
abbrev pub meets_its_rules : List Node → Node → Bool
meets_its_rules nodes (Node.union ids) = is_union nodes ids
meets_its_rules nodes (Node.record_of name aliases fields) = are_fields nodes fields
meets_its_rules nodes (Node.enum name aliases symbols default) = is_enum symbols default
meets_its_rules nodes (Node.fixed name aliases count) = nat_le count max_count
meets_its_rules nodes _ = true

-- the name of a type and its aliases are fullnames
abbrev pub has_good_names : Node → Bool
has_good_names n = has_good_name (node_name n) && list_all is_full_name (node_aliases n)
  where
    has_good_name : Option Name → Bool
    has_good_name None = true
    has_good_name (Some name) = is_full_name name

-- a node has valid edges and names, and obeys the rules of its kind
abbrev pub is_good_node : List Node → ℕ → Node → Bool
is_good_node nodes id n = list_all (is_edge nodes id) (edges_of n) && has_good_names n && meets_its_rules nodes n

-- each of the nodes from an id on is good
abbrev pub are_good_nodes : List Node → ℕ → List Node → Bool
are_good_nodes nodes id [] = true
are_good_nodes nodes id (n ∷ ns) = is_good_node nodes id n && are_good_nodes nodes (suc id) ns

-- 1 to `max_nodes` nodes that obey the rules on edges, names, unions, enums, fixeds, fields and defaults, with no
-- fullname defined twice
abbrev pub is_schema : List Node → Bool
is_schema nodes =
    nat_lt 0 (length nodes) && nat_le (length nodes) max_nodes && are_good_nodes nodes 0 nodes
    && are_distinct same_name (filter_map node_name nodes)
