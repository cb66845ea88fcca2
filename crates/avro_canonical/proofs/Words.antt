-- What holds of each primitive type holds of a node with a word; what holds of each kind of type holds of a node with a name.
use Rattle.std.proofs.Common.{arith, ◌≡◌, ℕ, List, Option, Some, None, codes}
use Rattle.avro_name.specs.Name.{Name}
use Rattle.avro_schema.specs.Node.{Node, FieldNode, node_name}
use Rattle.avro_canonical.specs.Canonical.{primitive_word}

pub some-is : {A : Type 0} {x y : A} → Some x ≡ Some y → x ≡ y
some-is e = cc

pub none_apart : {A : Type 0} {x : A} → None ≡ Some x → ⊥
none_apart e = cc

pub by_word : (P : Node → List ℕ → Type 0) → P Node.null (codes "null") → P Node.boolean (codes "boolean") → P Node.int (codes "int") → P Node.long (codes "long")
    → P Node.bytes (codes "bytes") → P Node.string (codes "string") → (n : Node) (word : List ℕ) → primitive_word n ≡ Some word → P n word
by_word P null boolean int long bytes string n word h = grind (arith, none_apart, some-is)

pub by_name : (P : Node → Name → Type 0) → ((name : Name) (aliases : List Name) (xs : List FieldNode) → P (Node.record_of name aliases xs) name)
    → ((name : Name) (aliases : List Name) (symbols : List (List ℕ)) (default : Option ℕ) → P (Node.enum name aliases symbols default) name)
    → ((name : Name) (aliases : List Name) (count : ℕ) → P (Node.fixed name aliases count) name)
    → (n : Node) (name : Name) → node_name n ≡ Some name → P n name
by_name P record_case enum_case fixed_case n name h = grind (arith, none_apart, some-is)
