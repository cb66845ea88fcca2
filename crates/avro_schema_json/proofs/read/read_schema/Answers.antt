use Rattle.avro_schema_json.proofs.Words.{◌≡◌, ◌⊎◌, inl, inr, List, ℕ, Some, None, Result, Ok, Err, ap, sym, ◌∙◌, IfErr, Node, Schema, Data, view, SchemaError, HasFault, declared, DeclaresSchema}
use Rattle.avro_schema_json.specs.Declaration.{HasTree}
use Rattle.avro_schema_json.proofs.DeclarationLaws.{none_declared-from_fault}
use Rattle.avro_schema_json.proofs.read.read_schema.Goals as goal

-- of a tree that declares a schema no fault is there
only_memory : (text : List ℕ) (found tree : Data) (nodes : List Node) (r : Result Schema SchemaError) → HasTree text found
    → IfErr r (λ e. (e ≡ SchemaError.OutOfMemory) ⊎ HasFault found e) → HasTree text tree → DeclaresSchema tree nodes
    → IfErr r (λ e. e ≡ SchemaError.OutOfMemory)
only_memory text found tree nodes (Ok schema) read refused is declares = tt
only_memory text found tree nodes (Err e) read (inl memory) is declares = memory
only_memory text found tree nodes (Err e) read (inr fault) is declares =
    let none : declared found ≡ None = none_declared-from_fault found e fault in
    let first = read.1 in
    let second = is.1 in
    let same : tree ≡ found = cc in
    let both : Some nodes ≡ None = sym declares ∙ ap declared same ∙ none in
    cc

pub returns-clause-complete : goal.returns-clause-complete
returns-clause-complete c = λ tree nodes is declares few.
    only_memory c.args.text.now (view c.in_ok-tree.tree) tree nodes c.declared_schema.result c.in_ok-tree.ensures.found c.declared_schema.ensures.refused is declares
