use Rattle.std.proofs.Common.{◌≡◌, ◌∙◌, rules, FitsSigned, to_z, of_z, w32, w64, refl, ap}
use Rattle.std.proofs.lemmas.Int.{to_z-of_z}
use Rattle.avro_schema.specs.Node.{Node}
use Rattle.avro_schema.specs.Seen.{node_of, texts_of}
use Rattle.avro_schema.specs.Value.{Value}
use Rattle.avro_binary.proofs.LeafBytes.{for_leaf}
use Rattle.avro_binary.proofs.leaves.leaf_of.Goals as goal

pub returns-in-Null : goal.returns-in-Null
returns-in-Null c = λ nodes v fit s.
    for_leaf nodes Node.null v c.args.bytes.now (λ (w : Value). Value.null ≡ w) (rw (ap node_of c.in-Null.is) at fit) s refl

pub returns-in-Boolean : goal.returns-in-Boolean
returns-in-Boolean c = λ nodes v fit s.
    for_leaf nodes Node.boolean v c.args.bytes.now (λ (w : Value). Value.boolean c.is_true.result ≡ w) (rw (ap node_of c.in-Boolean.is) at fit) s (λ b t. ap Value.boolean (c.is_true.ensures b t))

pub returns-in_ok-int_of-in-Int : goal.returns-in_ok-int_of-in-Int
returns-in_ok-int_of-in-Int c = λ nodes v fit s.
    let number = c.in_ok-int_of-in-Int.field-0 in
    let within : FitsSigned w32 number = search rules in
    for_leaf nodes Node.int v c.args.bytes.now (λ (w : Value). Value.int (to_z w32 (of_z w32 number)) ≡ w) (rw (ap node_of c.in-Int.is) at fit) s (λ i t. ap Value.int (to_z-of_z w32 number within ∙ c.in_ok-int_of-in-Int.ensures i t))

pub returns-in_ok-number_of-in-Long : goal.returns-in_ok-number_of-in-Long
returns-in_ok-number_of-in-Long c = λ nodes v fit s.
    let number = c.in_ok-number_of-in-Long.field-0 in
    let within : FitsSigned w64 number = search rules in
    for_leaf nodes Node.long v c.args.bytes.now (λ (w : Value). Value.long (to_z w64 (of_z w64 number)) ≡ w) (rw (ap node_of c.in-Long.is) at fit) s (λ i t. ap Value.long (to_z-of_z w64 number within ∙ c.in_ok-number_of-in-Long.ensures.long i t))

pub returns-in_ok-content_of-in-Bytes : goal.returns-in_ok-content_of-in-Bytes
returns-in_ok-content_of-in-Bytes c = λ nodes v fit s.
    for_leaf nodes Node.bytes v c.args.bytes.now (λ (w : Value). Value.bytes c.in_ok-content_of-in-Bytes.field-0.now ≡ w) (rw (ap node_of c.in-Bytes.is) at fit) s (λ b t. ap Value.bytes (c.in_ok-content_of-in-Bytes.ensures b t))

pub returns-in_ok-string_of-in-Str : goal.returns-in_ok-string_of-in-Str
returns-in_ok-string_of-in-Str c = λ nodes v fit s.
    for_leaf nodes Node.string v c.args.bytes.now (λ (w : Value). Value.string c.in_ok-string_of-in-Str.field-0.now ≡ w) (rw (ap node_of c.in-Str.is) at fit) s (λ b t. ap Value.string (c.in_ok-string_of-in-Str.ensures b t))

pub returns-in-Fixed : goal.returns-in-Fixed
returns-in-Fixed c = λ nodes v fit s.
    let f = c.in-Fixed.field-0 in
    for_leaf nodes (Node.fixed f.name f.aliases.items f.size) v c.args.bytes.now (λ (w : Value). Value.fixed c.args.bytes.now ≡ w) (rw (ap node_of c.in-Fixed.is) at fit) s refl

pub returns-in_ok-index_of-in-Enum : goal.returns-in_ok-index_of-in-Enum
returns-in_ok-index_of-in-Enum c = λ nodes v fit s.
    let e = c.in-Enum.field-0 in
    for_leaf nodes (Node.enum e.name e.aliases.items (texts_of e.symbols.items) e.default) v c.args.bytes.now (λ (w : Value). Value.enum c.in_ok-index_of-in-Enum.field-0 ≡ w) (rw (ap node_of c.in-Enum.is) at fit) s (λ k t. ap Value.enum (c.in_ok-index_of-in-Enum.ensures k t))
