-- The rules that nodes break (Avro 1.11, "Schema Declaration", "Names", "Aliases"). Each that they break is a fault.
use Rattle.std.specs.Prelude.{◌≡◌, ℕ, suc, ◌<◌, Bool, true, false, not, ◌&&◌, ◌||◌, List, [], ◌∷◌, Option, Some, None, IfSome, length, nat_lt, nat_le, bytes_eq, filter_map, flat_map, codes}
use Rattle.std.specs.List.{list_all, filter}
use Rattle.avro_name.specs.Name.{is_simple_name, same_name}
use Rattle.avro_schema.specs.Node.{Node, node_at, node_name, edges_of}
use Rattle.avro_schema.specs.Distinct.{are_distinct}
use Rattle.avro_schema.specs.WellFormed.{max_nodes, max_count, is_edge, is_union, is_default, field_names, has_good_default, has_good_names}
use Rattle.avro_schema.specs.declared.fault.DraftError.{DraftError}

-- the eight rules that nodes can break
pub data NodeFault : Type 0 where
  -- an edge to no node, or to one that is neither later nor a record, an enum or a fixed
  unknown_node : NodeFault
  -- two types with one fullname
  duplicate_name : NodeFault
  -- a symbol, or a name or alias of a type or a field, that is not a name
  invalid_name : NodeFault
  -- a union with no branch, a union as a branch, or two branches of one kind
  invalid_union : NodeFault
  -- no symbol, a symbol twice, or a default that is none
  invalid_symbols : NodeFault
  -- a name or alias twice among the fields of a record
  duplicate_field : NodeFault
  -- a default that is not a datum of its field
  invalid_default : NodeFault
  -- no node or too many; too many symbols, or bytes of a fixed
  limit_exceeded : NodeFault

-- all eight of them, in order
abbrev pub all_faults : List NodeFault
all_faults =
    unknown_node ∷ duplicate_name ∷ invalid_name ∷ invalid_union ∷ invalid_symbols ∷ duplicate_field ∷ invalid_default ∷ limit_exceeded ∷ []

-- each edge of the node with this id is valid
abbrev pub has_good_edges : List Node → ℕ → Node → Bool
has_good_edges nodes id n = list_all (is_edge nodes id) (edges_of n)

-- the names of a node's symbols, or of its fields
abbrev pub names_inside : Node → List (List ℕ)
names_inside (Node.record_of name aliases fields) = flat_map field_names fields
names_inside (Node.enum name aliases symbols default) = symbols
names_inside _ = []

-- the rule of unions, which other nodes meet
abbrev pub has_union_rule : List Node → Node → Bool
has_union_rule nodes (Node.union ids) = is_union nodes ids
has_union_rule nodes _ = true

-- the rule of enums but for the names and the number of symbols
abbrev pub has_symbols_rule : Node → Bool
has_symbols_rule (Node.enum name aliases symbols default) = nat_lt 0 (length symbols) && are_distinct bytes_eq symbols && is_default symbols default
has_symbols_rule _ = true

-- the rule that names and aliases of fields are distinct in a record
abbrev pub has_fields_rule : Node → Bool
has_fields_rule (Node.record_of name aliases fields) = are_distinct bytes_eq (flat_map field_names fields)
has_fields_rule _ = true

-- the rule that each default of a record's fields fits its node
abbrev pub has_defaults_rule : List Node → Node → Bool
has_defaults_rule nodes (Node.record_of name aliases fields) = list_all (has_good_default nodes) fields
has_defaults_rule nodes _ = true

-- the limit on symbols of an enum and bytes of a fixed
abbrev pub is_within_limit : Node → Bool
is_within_limit (Node.enum name aliases symbols default) = nat_le (length symbols) max_count
is_within_limit (Node.fixed name aliases count) = nat_le count max_count
is_within_limit _ = true

-- Whether the node of an id breaks a rule. What a node asks of those that its edges go to is a rule only where the
-- edges are good.
abbrev pub breaks : NodeFault → List Node → ℕ → Node → Bool
breaks unknown_node nodes id n = not (has_good_edges nodes id n)
breaks duplicate_name nodes id n = false
breaks invalid_name nodes id n = not (list_all is_simple_name (names_inside n) && has_good_names n)
breaks invalid_union nodes id n = has_good_edges nodes id n && not (has_union_rule nodes n)
breaks invalid_symbols nodes id n = not (has_symbols_rule n)
breaks duplicate_field nodes id n = not (has_fields_rule n)
breaks invalid_default nodes id n = has_good_edges nodes id n && not (has_defaults_rule nodes n)
breaks limit_exceeded nodes id n = not (is_within_limit n)

-- whether one of the nodes from an id on breaks a rule
abbrev pub some_breaks : NodeFault → List Node → ℕ → List Node → Bool
some_breaks fault nodes id [] = false
some_breaks fault nodes id (n ∷ ns) = breaks fault nodes id n || some_breaks fault nodes (suc id) ns

-- whether the list of nodes breaks a rule
abbrev pub list_breaks : NodeFault → List Node → Bool
list_breaks duplicate_name nodes = not (are_distinct same_name (filter_map node_name nodes))
list_breaks limit_exceeded nodes = not (nat_lt 0 (length nodes) && nat_le (length nodes) max_nodes)
list_breaks _ nodes = false

-- the list of nodes, or one of them, breaks the rule
abbrev pub has_fault : NodeFault → List Node → Bool
has_fault fault nodes = list_breaks fault nodes || some_breaks fault nodes 0 nodes

-- the faults of nodes, one for each rule that is broken; the nodes are a schema if there are none
abbrev pub faults_of_nodes : List Node → List NodeFault
faults_of_nodes nodes = filter (λ fault. has_fault fault nodes) all_faults

-- the nodes have this fault
abbrev pub IsThere : NodeFault → List Node → Type 0
IsThere fault nodes = has_fault fault nodes ≡ true

-- the fault that an error names; none where memory ran out
abbrev pub fault_of : DraftError → Option NodeFault
fault_of DraftError.UnknownNode = Some unknown_node
fault_of DraftError.DuplicateName = Some duplicate_name
fault_of DraftError.InvalidName = Some invalid_name
fault_of DraftError.InvalidUnion = Some invalid_union
fault_of DraftError.InvalidSymbols = Some invalid_symbols
fault_of DraftError.DuplicateField = Some duplicate_field
fault_of DraftError.InvalidDefault = Some invalid_default
fault_of DraftError.LimitExceeded = Some limit_exceeded
fault_of DraftError.OutOfMemory = None

-- the fault that an error names is there
abbrev pub IsRefused : List Node → DraftError → Type 0
IsRefused nodes e = IfSome (fault_of e) (λ fault. IsThere fault nodes)

-- the same of the node with an id
abbrev pub IsRefusedAt : List Node → ℕ → Node → DraftError → Type 0
IsRefusedAt nodes id n e = IfSome (fault_of e) (λ fault. breaks fault nodes id n ≡ true)

-- the same of some node
abbrev pub IsRefusedSomewhere : List Node → DraftError → Type 0
IsRefusedSomewhere nodes e = (id : ℕ) × (id < length nodes) × IsRefusedAt nodes id (node_at nodes id) e

-- the code of an error of a draft
abbrev pub draft_code : DraftError → List ℕ
draft_code DraftError.UnknownNode = codes "S2"
draft_code DraftError.DuplicateName = codes "S3"
draft_code DraftError.InvalidName = codes "S4"
draft_code DraftError.InvalidUnion = codes "S6"
draft_code DraftError.InvalidSymbols = codes "S7"
draft_code DraftError.DuplicateField = codes "S8"
draft_code DraftError.InvalidDefault = codes "S9"
draft_code DraftError.LimitExceeded = codes "S12"
draft_code DraftError.OutOfMemory = codes "S13"
