use Rattle.avro_schema_json.proofs.Words.{◌≡◌, ◌⊎◌, inl, inr, true, false, List, [], Result, Ok, Err, sym, ◌∙◌, Contains, IfOk, IfErr, OnOk, err_from_is_err_and, schema_nodes, is_schema, Schema, Data, has_float, view, SchemaError, RawNode, made_of, unless, refusals_of_nodes, or_else, HasFault, completed_nodes, are_all_defaults_read, DeclaresSchema, raw_nodes_of}
use Rattle.avro_schema_json.proofs.MadeSound.{made_fault, fault-other}
use Rattle.avro_schema_json.proofs.ReadSeen.{declared-found, fault-found}
use Rattle.avro_schema_json.proofs.read.schema_by.Goals as goal

schema_found : (tree : Data) (raws : List RawNode) (r : Result Schema SchemaError) → false ≡ has_float tree → (made_of tree).faults ≡ [] → raws ≡ (made_of tree).nodes
    → IfOk r (λ schema. schema_nodes schema ≡ completed_nodes raws) → OnOk r (is_schema (completed_nodes raws) ≡ true) → OnOk r (are_all_defaults_read raws ≡ true)
    → IfOk r (λ schema. DeclaresSchema tree (schema_nodes schema))
schema_found tree raws (Ok schema) whole clean same nodes formed good = declared-found tree raws (schema_nodes schema) whole clean same formed good nodes
schema_found tree raws (Err e) whole clean same nodes formed good = tt

schema_refused : (tree : Data) (raws : List RawNode) (r : Result Schema SchemaError) → false ≡ has_float tree → (made_of tree).faults ≡ [] → raws ≡ (made_of tree).nodes
    → IfErr r (λ e. (e ≡ SchemaError.OutOfMemory)
    ⊎ Contains (or_else (refusals_of_nodes (completed_nodes raws)) (unless (are_all_defaults_read raws) SchemaError.InvalidDefault)) e)
    → IfErr r (λ e. (e ≡ SchemaError.OutOfMemory) ⊎ HasFault tree e)
schema_refused tree raws (Ok schema) whole clean same refused = tt
schema_refused tree raws (Err e) whole clean same (inl memory) = inl memory
schema_refused tree raws (Err e) whole clean same (inr c) = inr (fault-found tree raws e whole clean same c)

no_json : (tree : Data) (r : Result Schema SchemaError) → IfErr r (λ e. (e ≡ SchemaError.OutOfMemory) ⊎ HasFault tree e)
    → IfErr r (λ e. e ≡ SchemaError.NotJson → ⊥)
no_json tree (Ok schema) refused = tt
no_json tree (Err e) (inl memory) = λ is. cc
no_json tree (Err e) (inr c) = (fault-other tree e c).0

made_refused : (tree : Data) (e : SchemaError) → (e ≡ SchemaError.OutOfMemory) ⊎ Contains (made_of tree).faults e → e ≡ SchemaError.NotJson → ⊥
made_refused tree e (inl memory) is = cc
made_refused tree e (inr c) is = made_fault tree e c is

pub returns-clause-found : goal.returns-clause-found
returns-clause-found c =
    let float = c.requires.whole in
    schema_found (view c.args.tree.now) (raw_nodes_of c.in_ok-raws.raws.items) c.schema_of.result float c.in_ok-raws.ensures.found.0 c.in_ok-raws.ensures.found.1
    c.schema_of.ensures.found c.schema_of.ensures.formed c.schema_of.ensures.read

pub returns-clause-refused : goal.returns-clause-refused
returns-clause-refused c =
    let float = c.requires.whole in
    schema_refused (view c.args.tree.now) (raw_nodes_of c.in_ok-raws.raws.items) c.schema_of.result float c.in_ok-raws.ensures.found.0 c.in_ok-raws.ensures.found.1
    c.schema_of.ensures.refused

pub returns-clause-json : goal.returns-clause-json
returns-clause-json c =
    let float = c.requires.whole in
    no_json (view c.args.tree.now) c.schema_of.result (schema_refused (view c.args.tree.now) (raw_nodes_of c.in_ok-raws.raws.items) c.schema_of.result float
    c.in_ok-raws.ensures.found.0 c.in_ok-raws.ensures.found.1 c.schema_of.ensures.refused)

pub returns-in_err-raws-clause-json : goal.returns-in_err-raws-clause-json
returns-in_err-raws-clause-json c =
    let p = err_from_is_err_and c.from_residual.result c.from_residual.ensures.1 in
    rw (p.1, p.2) (made_refused (view c.args.tree.now) c.in_err-raws.field-0.0 c.in_err-raws.ensures.refused)
