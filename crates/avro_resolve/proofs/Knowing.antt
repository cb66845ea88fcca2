-- What is known of the fields of a record, from one on.
use denote.Ref.{Bor}
use Rattle.std.proofs.Common.{◌≡◌, ◌+◌, ℕ, List, Option, Some, None, length, refl, sym, subst}
use Rattle.std.specs.Prelude.{Result, Ok, Err, IfSome, OnOk}
use Rattle.avro_schema.specs.Node.{Node, FieldNode, node_at}
use Rattle.avro_compare.specs.Pairs.{field_for}
use Rattle.avro_compare.specs.Planned.{AreForFrom}
use Rattle.avro_compare.specs.Resolve.{fields_at}
use Rattle.avro_compare.specs.declared.comparison.At.{At}
use Rattle.avro_compare.proofs.public.Entries.{first_for}
use Rattle.avro_resolve.specs.inside.Guided.{KnowsFields, KnowsNext, known_part, next_field, next_index, part_next}
use Rattle.avro_resolve.specs.declared.resolving.guided.Slots.{Slots}

-- what is kept of a field is what it is for
known_at : (ws rs : List FieldNode) (known : Option (Bor (List (ℕ × At)))) (k : ℕ) → IfSome known (λ parts. AreForFrom k ws rs parts.now)
    → known_part known k (field_for ws rs k) ≡ field_for ws rs k
known_at ws rs (Some parts) k knows = first_for k ws rs parts.now knows
known_at ws rs None k knows = refl

pub known_next : {O F : Type 0} (writer reader : List Node) (known : Option (Bor (List (ℕ × At)))) (parts : List ℕ) (slots : Slots O F) → KnowsFields writer reader slots known
    → (part_next writer reader known parts slots).at ≡ next_field writer reader slots
known_next writer reader known parts (Slots.Good slots start branch a b) knows =
    known_at (fields_at (node_at writer a.0)) (fields_at (node_at reader b.0)) known (length slots.items) knows
known_next writer reader known parts (Slots.Faulty fault) knows = refl
known_next writer reader known parts Slots.Nothing knows = refl

-- what is known of the fields after the next
pub known_then : {O F : Type 0} (writer reader : List Node) (known after : Option (Bor (List (ℕ × At)))) (slots : Slots O F) (index : ℕ) → index ≡ next_index slots
    → ((ws rs : List FieldNode) → IfSome known (λ parts. AreForFrom index ws rs parts.now) → IfSome after (λ parts. AreForFrom (index + 1) ws rs parts.now))
    → KnowsFields writer reader slots known → KnowsNext writer reader slots after
known_then writer reader known after (Slots.Good slots start branch a b) index is step knows =
    let ws = fields_at (node_at writer a.0) in
    let rs = fields_at (node_at reader b.0) in
    subst (λ (n : ℕ). IfSome after (λ parts. AreForFrom (n + 1) ws rs parts.now)) is
    (step ws rs (subst (λ (n : ℕ). IfSome known (λ parts. AreForFrom n ws rs parts.now)) (sym is) knows))
known_then writer reader known after (Slots.Faulty fault) index is step knows = tt
known_then writer reader known after Slots.Nothing index is step knows = tt

-- two facts of one answer
pub on_both : {T E : Type 0} (A B : Type 0) (r : Result T E) → OnOk r A → OnOk r B → OnOk r (A × B)
on_both A B (Ok out) a b = (a, b)
on_both A B (Err error) a b = tt
