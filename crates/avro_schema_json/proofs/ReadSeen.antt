-- What a tree declares, stage by stage.
use Rattle.avro_schema_json.proofs.Words.{arith, ◌≡◌, true, false, List, [], sym, Contains, Node, is_schema, Data, has_float, SchemaError, RawNode, made_of, unless, refusals_of_nodes, or_else, HasFault, completed_nodes, are_all_defaults_read, DeclaresSchema}

-- the nodes of a tree without a fault are what it declares
pub declared-found : (tree : Data) (raws : List RawNode) (nodes : List Node) → false ≡ has_float tree → (made_of tree).faults ≡ [] → raws ≡ (made_of tree).nodes
    → is_schema (completed_nodes raws) ≡ true → are_all_defaults_read raws ≡ true → nodes ≡ completed_nodes raws → DeclaresSchema tree nodes
declared-found tree raws nodes whole clean same formed good is = grind arith

-- a fault of the nodes, or of the defaults, is one of the tree
pub fault-found : (tree : Data) (raws : List RawNode) (e : SchemaError) → false ≡ has_float tree → (made_of tree).faults ≡ [] → raws ≡ (made_of tree).nodes
    → Contains (or_else (refusals_of_nodes (completed_nodes raws)) (unless (are_all_defaults_read raws) SchemaError.InvalidDefault)) e → HasFault tree e
fault-found tree raws e whole clean same c =
    let float : has_float tree ≡ false = sym whole in
    let there = rw same at c in
    rw (float, clean) there
