-- The schemas that texts declare: computed.
use Rattle.avro_schema_json.proofs.Words.{◌≡◌, refl, ℕ, List, [], ◌∷◌, Option, Some, None, codes, option_and_then, option_map, map, Node, simply, within, plain_field, aliased_field, read, declared, faults_of, SchemaError}
use Rattle.serde_json.proofs.OnLiterals.{serde_json_on_literals}

-- the nodes of the schema that a text declares
abbrev pub declared_by : List ℕ → Option (List Node)
declared_by text = option_and_then declared (read text)

-- the faults of a text that is JSON
abbrev pub faults_by : List ℕ → Option (List SchemaError)
faults_by text = option_map faults_of (read text)

-- each of these texts has this fault alone
abbrev pub AllHave : SchemaError → List (List ℕ) → Type 0
AllHave fault texts = map faults_by texts ≡ map (λ text. Some (fault ∷ [])) texts

-- a record in a namespace: its aliases are there, and so are the names in it
are_declared : (declared_by (codes "{\"type\":\"record\",\"name\":\"R\",\"namespace\":\"a\",\"aliases\":[\"S\",\"b.T\"],\"fields\":[{\"name\":\"e\",\"type\":{\"type\":\"enum\",\"name\":\"E\",\"symbols\":[\"X\"]}},{\"name\":\"f\",\"type\":\"E\"},{\"name\":\"g\",\"type\":\"a.E\"}]}")
    ≡ Some (Node.record_of (within (codes "a") (codes "R")) (within (codes "a") (codes "S") ∷ within (codes "b") (codes "T") ∷ [])
    (plain_field (codes "e") 1 ∷ plain_field (codes "f") 1 ∷ plain_field (codes "g") 1 ∷ [])
    ∷ Node.enum (within (codes "a") (codes "E")) [] (codes "X" ∷ []) None ∷ []))
    -- a namespace is not looked at beside a name with a dot
    × (declared_by (codes "{\"type\":\"record\",\"name\":\"b.R\",\"namespace\":7,\"fields\":[]}")
    ≡ Some (Node.record_of (within (codes "b") (codes "R")) [] [] ∷ []))
    -- a list: the last branch is a reference to the record that is being defined
    × (declared_by (codes "{\"type\":\"record\",\"name\":\"Node\",\"fields\":[{\"name\":\"value\",\"type\":\"int\"},{\"name\":\"next\",\"type\":[\"null\",\"Node\"]}]}")
    ≡ Some (Node.record_of (simply (codes "Node")) [] (plain_field (codes "value") 1 ∷ plain_field (codes "next") 2 ∷ [])
    ∷ Node.int ∷ Node.union (3 ∷ 0 ∷ []) ∷ Node.null ∷ []))
    -- arrays in arrays
    × (declared_by (codes "{\"type\":\"array\",\"items\":{\"type\":\"array\",\"items\":{\"type\":\"array\",\"items\":{\"type\":\"array\",\"items\":\"null\"}}}}")
    ≡ Some (Node.array 1 ∷ Node.array 2 ∷ Node.array 3 ∷ Node.array 4 ∷ Node.null ∷ []))
    × (declared_by (codes "{\"type\":\"map\",\"values\":[\"string\",{\"type\":\"fixed\",\"name\":\"F\",\"size\":16}]}")
    ≡ Some (Node.map_of 1 ∷ Node.union (2 ∷ 3 ∷ []) ∷ Node.string ∷ Node.fixed (simply (codes "F")) [] 16 ∷ []))
    -- an object whose type is a word is what the word is
    × (declared_by (codes "{\"type\":\"bytes\",\"logicalType\":\"decimal\"}")
    ≡ Some (Node.bytes ∷ []))
    × (declared_by (codes "[\"null\",{\"type\":\"fixed\",\"name\":\"a.F\",\"size\":0},{\"type\":\"array\",\"items\":{\"type\":\"a.F\"}}]")
    ≡ Some (Node.union (1 ∷ 2 ∷ 3 ∷ []) ∷ Node.null ∷ Node.fixed (within (codes "a") (codes "F")) [] 0 ∷ Node.array 2 ∷ []))
    -- of equal keys the last one
    × (declared_by (codes "{\"type\":\"int\",\"type\":\"long\"}")
    ≡ Some (Node.long ∷ []))
    -- the empty namespace is the null one
    × (declared_by (codes "{\"type\":\"record\",\"name\":\"a.R\",\"fields\":[{\"name\":\"e\",\"type\":{\"type\":\"enum\",\"name\":\"E\",\"namespace\":\"\",\"symbols\":[\"X\"]}}]}")
    ≡ Some (Node.record_of (within (codes "a") (codes "R")) [] (plain_field (codes "e") 1 ∷ [])
    ∷ Node.enum (simply (codes "E")) [] (codes "X" ∷ []) None ∷ []))
    -- what follows a record has the namespace around the record again
    × (declared_by (codes "{\"type\":\"record\",\"name\":\"a.R\",\"fields\":[{\"name\":\"s\",\"type\":{\"type\":\"record\",\"name\":\"b.S\",\"fields\":[]}},{\"name\":\"t\",\"type\":{\"type\":\"enum\",\"name\":\"T\",\"symbols\":[\"X\"]}},{\"name\":\"u\",\"type\":\"T\"}]}")
    ≡ Some (Node.record_of (within (codes "a") (codes "R")) [] (plain_field (codes "s") 1 ∷ plain_field (codes "t") 2 ∷ plain_field (codes "u") 2 ∷ [])
    ∷ Node.record_of (within (codes "b") (codes "S")) [] [] ∷ Node.enum (within (codes "a") (codes "T")) [] (codes "X" ∷ []) None ∷ []))
    -- the words for kinds of types may be names
    × (declared_by (codes "{\"type\":\"record\",\"name\":\"map\",\"fields\":[{\"name\":\"f\",\"type\":\"map\"}]}")
    ≡ Some (Node.record_of (simply (codes "map")) [] (plain_field (codes "f") 0 ∷ []) ∷ []))
    × (declared_by (codes "[\"null\",{\"type\":\"fixed\",\"name\":\"error\",\"size\":1},{\"type\":\"array\",\"items\":\"error\"}]")
    ≡ Some (Node.union (1 ∷ 2 ∷ 3 ∷ []) ∷ Node.null ∷ Node.fixed (simply (codes "error")) [] 1 ∷ Node.array 2 ∷ []))
    -- the default of an enum is the index of a symbol
    × (declared_by (codes "{\"type\":\"enum\",\"name\":\"E\",\"symbols\":[\"A\",\"B\"],\"default\":\"B\"}")
    ≡ Some (Node.enum (simply (codes "E")) [] (codes "A" ∷ codes "B" ∷ []) (Some 1) ∷ []))
    × (declared_by (codes "{\"type\":\"record\",\"name\":\"new.Q\",\"aliases\":[\"old.P\"],\"fields\":[{\"name\":\"y\",\"type\":\"long\",\"aliases\":[\"x\"]}]}")
    ≡ Some (Node.record_of (within (codes "new") (codes "Q")) (within (codes "old") (codes "P") ∷ []) (aliased_field (codes "y") (codes "x" ∷ []) 1 ∷ []) ∷ Node.long ∷ []))
    -- attributes without a meaning here are ignored, whatever they hold
    × (declared_by (codes "{\"type\":\"record\",\"name\":\"R\",\"doc\":7,\"order\":[],\"fields\":[{\"name\":\"f\",\"type\":\"int\",\"doc\":null,\"order\":1,\"size\":\"x\"}]}")
    ≡ Some (Node.record_of (simply (codes "R")) [] (plain_field (codes "f") 1 ∷ []) ∷ Node.int ∷ []))
unfolding serde_json_on_literals
are_declared = (refl, refl, refl, refl, refl, refl, refl, refl, refl, refl, refl, refl, refl, refl, refl)

-- the same with a reference into another namespace
name_in_another_namespace : faults_by (codes "{\"type\":\"record\",\"name\":\"R\",\"namespace\":\"a\",\"aliases\":[\"S\",\"b.T\"],\"fields\":[{\"name\":\"e\",\"type\":{\"type\":\"enum\",\"name\":\"E\",\"symbols\":[\"X\"]}},{\"name\":\"f\",\"type\":\"E\"},{\"name\":\"g\",\"type\":\"b.E\"}]}")
    ≡ Some (SchemaError.UnknownName ∷ [])
unfolding serde_json_on_literals
name_in_another_namespace = refl
