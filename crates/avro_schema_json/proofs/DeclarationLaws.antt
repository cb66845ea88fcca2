-- What follows from the definitions: a tree declares one schema at most, and none exactly where a fault is there.
use Rattle.avro_schema_json.proofs.Words.{◌≡◌, ℕ, Bool, true, false, not, ◌&&◌, List, [], ◌∷◌, Option, Some, None, refl, ap, map, Ordering, arith, option_map, option_and_then, if◌then◌else◌, Contains, nat_cmp, match_ordering, slice_cmp, and_parts, Node, is_schema, NodeFault, faults_of_nodes, is_schema-from_no_faults, no_faults-from_is_schema, Data, Members, no_members, member, get_member, has_float, SchemaError, unless, made_of, meaning_of, meaning_under, fields_from, fields_under, default_of, default_under, declared, completed_nodes, are_all_defaults_read, is_empty, DeclaresSchema, faults_of, refusals_of_nodes, or_else, HasFault, refusal_of_fault}

-- ---- look-ups

option_map-match : {A B : Type 0} (f : A → B) (o : Ordering) (a b c : Option A)
    → option_map f (match_ordering o a b c) ≡ match_ordering o (option_map f a) (option_map f b) (option_map f c)
option_map-match f o a b c = grind arith

option_and_then-match : {A B : Type 0} (f : A → Option B) (o : Ordering) (a b c : Option A)
    → option_and_then f (match_ordering o a b c) ≡ match_ordering o (option_and_then f a) (option_and_then f b) (option_and_then f c)
option_and_then-match f o a b c = grind arith

-- the meaning of a member is that of the value that is found at its key
pub meaning_under-found : (key : List ℕ) (ms : Members) → meaning_under key ms ≡ option_map meaning_of (get_member key ms)
meaning_under-found key no_members = refl
meaning_under-found key (member k d ms) =
    rw (option_map-match meaning_of (slice_cmp nat_cmp key k) (get_member key ms) (Some d) (get_member key ms), meaning_under-found key ms) refl

pub fields_under-found : (key : List ℕ) (ms : Members) → fields_under key ms ≡ option_and_then fields_from (get_member key ms)
fields_under-found key no_members = refl
fields_under-found key (member k d ms) =
    rw (option_and_then-match fields_from (slice_cmp nat_cmp key k) (get_member key ms) (Some d) (get_member key ms), fields_under-found key ms) refl

pub default_under-found : (nodes : List Node) (key : List ℕ) (ms : Members) → default_under nodes key ms ≡ option_map (default_of nodes) (get_member key ms)
default_under-found nodes key no_members = refl
default_under-found nodes key (member k d ms) =
    rw (option_map-match (default_of nodes) (slice_cmp nat_cmp key k) (get_member key ms) (Some d) (get_member key ms), default_under-found nodes key ms) refl

-- ---- faults of nodes

-- nodes are a schema exactly where nothing is refused of them
none_named : (faults : List NodeFault) → map refusal_of_fault faults ≡ [] → faults ≡ []
none_named [] h = refl
none_named (fault ∷ faults) h = cc

pub is_schema-from_no_refusals : (nodes : List Node) → refusals_of_nodes nodes ≡ [] → is_schema nodes ≡ true
is_schema-from_no_refusals nodes h = is_schema-from_no_faults nodes (none_named (faults_of_nodes nodes) h)

pub no_refusals-from_is_schema : (nodes : List Node) → is_schema nodes ≡ true → refusals_of_nodes nodes ≡ []
no_refusals-from_is_schema nodes h = ap (map refusal_of_fault) (no_faults-from_is_schema nodes h)

-- ---- faults of trees

-- a tree declares at most one schema
pub at_most_one_schema : (tree : Data) (a b : List Node) → DeclaresSchema tree a → DeclaresSchema tree b → a ≡ b
at_most_one_schema tree a b g h = cc

only_where : {A : Type 0} (b : Bool) (x y : A) → (if b then Some x else None) ≡ Some y → (b ≡ true) × (x ≡ y)
only_where b x y h = grind arith

-- the nodes that a tree declares are a schema
pub is_schema-from_declared : (tree : Data) (nodes : List Node) → DeclaresSchema tree nodes → is_schema nodes ≡ true
is_schema-from_declared tree nodes h = grind (arith, and_parts, only_where)

-- with f for the floats, xs for the faults of declarations, ys for those of nodes, s for the schema and r for the defaults
stages-clean : (f s r : Bool) (xs ys : List SchemaError) → (ys ≡ [] → s ≡ true)
    → or_else (unless (not f) SchemaError.UnsupportedNumber) (or_else xs (or_else ys (unless r SchemaError.InvalidDefault))) ≡ []
    → (not f && is_empty xs && s && r) ≡ true
stages-clean f s r xs ys kept h = grind arith

stages-faulty : (f s r : Bool) (xs ys : List SchemaError) (e : SchemaError) (es : List SchemaError) → (s ≡ true → ys ≡ [])
    → or_else (unless (not f) SchemaError.UnsupportedNumber) (or_else xs (or_else ys (unless r SchemaError.InvalidDefault))) ≡ e ∷ es
    → (not f && is_empty xs && s && r) ≡ false
stages-faulty f s r xs ys e es clean h = grind arith

-- a tree without a fault declares a schema, and one with a fault none
pub declared-from_no_faults : (tree : Data) → faults_of tree ≡ [] → DeclaresSchema tree (completed_nodes (made_of tree).nodes)
declared-from_no_faults tree h = grind (arith, is_schema-from_no_refusals, stages-clean)

pub none_declared-from_faults : (tree : Data) (e : SchemaError) (es : List SchemaError) → faults_of tree ≡ e ∷ es → declared tree ≡ None
none_declared-from_faults tree e es h =
    let raws = (made_of tree).nodes in
    rw (stages-faulty (has_float tree) (is_schema (completed_nodes raws)) (are_all_defaults_read raws) (made_of tree).faults
    (refusals_of_nodes (completed_nodes raws)) e es (no_refusals-from_is_schema (completed_nodes raws)) h) refl

none_declared-from_faults_of : (tree : Data) (fault : SchemaError) (es : List SchemaError) → faults_of tree ≡ es → Contains es fault → declared tree ≡ None
none_declared-from_faults_of tree fault es h c = grind (arith, none_declared-from_faults)

-- a tree in which a fault is there declares no schema
pub none_declared-from_fault : (tree : Data) (fault : SchemaError) → HasFault tree fault → declared tree ≡ None
none_declared-from_fault tree fault h = none_declared-from_faults_of tree fault (faults_of tree) refl h

-- a tree that declares no schema has a fault
fault-from_none_declared_of : (tree : Data) (es : List SchemaError) → faults_of tree ≡ es → declared tree ≡ None → (fault : SchemaError) × HasFault tree fault
fault-from_none_declared_of tree [] h none = absurd (some-is-no_none (declared-from_no_faults tree h) none)
  where
    some-is-no_none : {A : Type 0} {x : Option A} {y : A} → x ≡ Some y → x ≡ None → ⊥
    some-is-no_none g h = cc
fault-from_none_declared_of tree (e ∷ es) h none = (e, rw h (0, omega arith, refl))

pub fault-from_none_declared : (tree : Data) → declared tree ≡ None → (fault : SchemaError) × HasFault tree fault
fault-from_none_declared tree none = fault-from_none_declared_of tree (faults_of tree) refl none
