-- Nodes with their defaults are the completed nodes, and what is said of those.
use Rattle.avro_schema_json.proofs.Words.{◌≡◌, ℕ, zero, suc, ◌<◌, Bool, false, List, [], ◌∷◌, length, map, refl, ap, arith, Contains, slice_index_or, and_parts, NodeFault, limit_exceeded, IsThere, Node, there-contains, SchemaError, RawField, RawNode, unless, refusals_of_nodes, or_else, field_default, completed_field, completed_node, refusal_of_fault, defaults_of_node, fields_with_defaults, nodes_with_defaults}

fields-completed : (nodes : List Node) (fields : List RawField) → fields_with_defaults fields (map (field_default nodes) fields) ≡ map (completed_field nodes) fields
fields-completed nodes [] = refl
fields-completed nodes (f ∷ fields) = ap (λ rest. completed_field nodes f ∷ rest) (fields-completed nodes fields)

pub nodes-completed : (nodes : List Node) (raws : List RawNode) → nodes_with_defaults raws (map (defaults_of_node nodes) raws) ≡ map (completed_node nodes) raws
nodes-completed nodes [] = refl
nodes-completed nodes (RawNode.plain n ∷ raws) = ap (λ rest. n ∷ rest) (nodes-completed nodes raws)
nodes-completed nodes (RawNode.record_of name aliases fields ∷ raws) = rw (fields-completed nodes fields, nodes-completed nodes raws) refl

-- a fault of the first list is one of both
pub or_else-first : (xs ys : List SchemaError) (e : SchemaError) → Contains xs e → Contains (or_else xs ys) e
or_else-first xs ys e c = grind arith

-- a default that is not a datum
pub or_else-unread : (xs : List SchemaError) (r : Bool) (e : SchemaError) → xs ≡ [] → r ≡ false → Contains (or_else xs (unless r e)) e
or_else-unread xs r e none unread = rw (none, unread) (0, omega arith, refl)

-- too many nodes
pub too_many-there : (nodes : List Node) → 4096 < length nodes → IsThere limit_exceeded nodes
too_many-there nodes h = grind (arith, and_parts)

-- the refusal that names a fault that is there
named_at : (faults : List NodeFault) (fault : NodeFault) (k : ℕ) → k < length faults → slice_index_or faults k fault ≡ fault
    → Contains (map refusal_of_fault faults) (refusal_of_fault fault)
named_at [] fault k below at = absurd (omega (arith, below))
named_at (f ∷ faults) fault zero below at = (0, omega arith, ap refusal_of_fault at)
named_at (f ∷ faults) fault (suc k) below at =
    let c = named_at faults fault k (omega (arith, below)) at in
    (suc c.0, omega (arith, c.1), c.2)

pub refusal-contains : (fault : NodeFault) (nodes : List Node) → IsThere fault nodes → Contains (refusals_of_nodes nodes) (refusal_of_fault fault)
refusal-contains fault nodes there = grind (arith, named_at, there-contains)
