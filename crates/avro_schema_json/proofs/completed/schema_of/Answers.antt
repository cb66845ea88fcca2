use Rattle.avro_schema_json.proofs.Words.{arith, ◌≡◌, ◌<◌, ◌⊎◌, inl, inr, true, false, List, length, map, refl, sym, ap, subst, ◌∙◌, Contains, Option, Some, None, IfSome, option_map, length-map, err_from_is_err_and, Node, NodeFault, invalid_union, duplicate_field, limit_exceeded, fault_of, IsThere, IsRefused, draft_nodes, is_schema, Value, SchemaError, KeptNode, RawNode, unless, refusals_of_nodes, or_else, nodes_without_defaults, completed_nodes, are_all_defaults_read, all_without_defaults, refusal_of_fault, refusal_of, defaults_of_node, nodes_with_defaults, raw_nodes_of, unwrap_or}
use Rattle.avro_schema_json.specs.inside.Repeats.{IsRepeat}
use Rattle.avro_schema.specs.declared.fault.DraftError.{DraftError}
use Rattle.avro_schema_json.proofs.RepeatsSeen.{repeated-there, repeated_field-there}
use Rattle.avro_schema_json.proofs.DeclarationLaws.{no_refusals-from_is_schema}
use Rattle.avro_schema_json.proofs.CompletedSeen.{nodes-completed, or_else-first, or_else-unread, too_many-there, refusal-contains}
use Rattle.avro_schema_json.proofs.completed.schema_of.Goals as goal

-- the nodes of the draft are the completed ones
completed_draft : {raws read : List KeptNode} {lists : List (List (Option Value))} {nodes : List Node} → read ≡ raws
    → lists ≡ map (defaults_of_node (all_without_defaults read)) (raw_nodes_of read) → nodes ≡ nodes_with_defaults (raw_nodes_of raws) lists
    → nodes ≡ completed_nodes (raw_nodes_of raws)
completed_draft {raws} same listed is =
    let d = rw same at listed in
    is ∙ ap (nodes_with_defaults (raw_nodes_of raws)) d ∙ nodes-completed (all_without_defaults raws) (raw_nodes_of raws)

-- the refusals of nodes
abbrev faults_with : List RawNode → List SchemaError
faults_with raws = or_else (refusals_of_nodes (completed_nodes raws)) (unless (are_all_defaults_read raws) SchemaError.InvalidDefault)

of_fault : (raws : List RawNode) (fault : NodeFault) → IsThere fault (completed_nodes raws) → Contains (faults_with raws) (refusal_of_fault fault)
of_fault raws fault there = grind (arith, or_else-first, refusal-contains)

of_named : (raws : List RawNode) (fault : Option NodeFault) → IfSome fault (λ f. IsThere f (completed_nodes raws))
    → (unwrap_or (option_map refusal_of_fault fault) SchemaError.OutOfMemory ≡ SchemaError.OutOfMemory)
    ⊎ Contains (faults_with raws) (unwrap_or (option_map refusal_of_fault fault) SchemaError.OutOfMemory)
of_named raws None there = inl refl
of_named raws (Some fault) there = inr (of_fault raws fault there)

of_draft : (raws : List RawNode) (nodes : List Node) (e : DraftError) (r : SchemaError) → nodes ≡ completed_nodes raws → IsRefused nodes e
    → r ≡ refusal_of e → (r ≡ SchemaError.OutOfMemory) ⊎ Contains (faults_with raws) r
of_draft raws nodes e r completed refused is =
    subst (λ (x : SchemaError). (x ≡ SchemaError.OutOfMemory) ⊎ Contains (faults_with raws) x) (sym is)
    (of_named raws (fault_of e) (subst (λ (ns : List Node). IsRefused ns e) completed refused))

-- the refusals of a draft that is too long
of_length : (raws : List KeptNode) (e : DraftError) (r : SchemaError) → (e ≡ DraftError.OutOfMemory) ⊎ ((e ≡ DraftError.LimitExceeded) × (4096 < length raws))
    → r ≡ refusal_of e → (r ≡ SchemaError.OutOfMemory) ⊎ Contains (faults_with (raw_nodes_of raws)) r
of_length raws e r (inl memory) is = inl (is ∙ ap refusal_of memory)
of_length raws e r (inr limit) is =
    let nodes = completed_nodes (raw_nodes_of raws) in
    let count : length nodes ≡ length raws = simp length-map in
    let same : r ≡ SchemaError.LimitExceeded = is ∙ ap refusal_of limit.0 in
    inr (subst (λ (x : SchemaError). Contains (faults_with (raw_nodes_of raws)) x) (sym same)
    (of_fault (raw_nodes_of raws) limit_exceeded (too_many-there nodes (rw count limit.1))))

-- what repeats is there in the completed nodes
of_repeat : (raws : List KeptNode) (e : SchemaError) → IsRepeat (all_without_defaults raws) e
    → (e ≡ SchemaError.OutOfMemory) ⊎ Contains (faults_with (raw_nodes_of raws)) e
of_repeat raws e (inl memory) = inl memory
of_repeat raws e (inr (inl repeats)) =
    inr (subst (λ (x : SchemaError). Contains (faults_with (raw_nodes_of raws)) x) (sym repeats.0)
    (of_fault (raw_nodes_of raws) invalid_union (repeated-there (nodes_without_defaults (raw_nodes_of raws)) (raw_nodes_of raws) repeats.1)))
of_repeat raws e (inr (inr repeats)) =
    inr (subst (λ (x : SchemaError). Contains (faults_with (raw_nodes_of raws)) x) (sym repeats.0)
    (of_fault (raw_nodes_of raws) duplicate_field (repeated_field-there (nodes_without_defaults (raw_nodes_of raws)) (raw_nodes_of raws) repeats.1)))

pub returns-in_err-of_nodes-clause-refused : goal.returns-in_err-of_nodes-clause-refused
returns-in_err-of_nodes-clause-refused c =
    let p = err_from_is_err_and c.from_residual.result c.from_residual.ensures.1 in
    rw (p.1, p.2) (of_repeat c.args.raws.items c.in_err-of_nodes.field-0.0
    (subst (λ (ns : List KeptNode). IsRepeat (all_without_defaults ns) c.in_err-of_nodes.field-0.0) c.deref.ensures.value c.in_err-of_nodes.ensures.refused))

pub returns-in_err-draft-clause-refused : goal.returns-in_err-draft-clause-refused
returns-in_err-draft-clause-refused c =
    let p = err_from_is_err_and c.from_residual-in_err-draft.result c.from_residual-in_err-draft.ensures.1 in
    rw p.1 (of_length c.args.raws.items c.in_err-draft.field-0.0 p.0 c.in_err-draft.ensures.refused p.2)

pub returns-in_err-schema-clause-refused : goal.returns-in_err-schema-clause-refused
returns-in_err-schema-clause-refused c =
    let completed = completed_draft c.deref.ensures.value c.in_ok-of_nodes.ensures.data c.in_ok-draft.ensures.nodes in
    let p = err_from_is_err_and c.from_residual-in_err-schema.result c.from_residual-in_err-schema.ensures.1 in
    rw p.1 (of_draft (raw_nodes_of c.args.raws.items) (draft_nodes c.in_ok-draft.draft) c.in_err-schema.field-0.0 p.0 completed
    c.in_err-schema.ensures.faulty p.2)

pub returns-then-not-are_read-clause-refused : goal.returns-then-not-are_read-clause-refused
returns-then-not-are_read-clause-refused c =
    let raws = raw_nodes_of c.args.raws.items in
    let completed = completed_draft c.deref.ensures.value c.in_ok-of_nodes.ensures.data c.in_ok-draft.ensures.nodes in
    let formed : is_schema (completed_nodes raws) ≡ true = ap is_schema (sym completed) ∙ c.in_ok-schema.ensures.formed in
    let unread : are_all_defaults_read raws ≡ false =
    ap (λ (ns : List KeptNode). are_all_defaults_read (raw_nodes_of ns)) (sym c.deref.ensures.value) ∙ sym c.in_ok-of_nodes.ensures.read ∙ c.if-not-are_read.true in
    inr (or_else-unread (refusals_of_nodes (completed_nodes raws)) (are_all_defaults_read raws) SchemaError.InvalidDefault (no_refusals-from_is_schema (completed_nodes raws) formed) unread)

pub returns-clause-found : goal.returns-clause-found
returns-clause-found c =
    let completed = completed_draft c.deref.ensures.value c.in_ok-of_nodes.ensures.data c.in_ok-draft.ensures.nodes in
    c.in_ok-schema.ensures.schema ∙ completed

pub returns-clause-formed : goal.returns-clause-formed
returns-clause-formed c =
    let completed = completed_draft c.deref.ensures.value c.in_ok-of_nodes.ensures.data c.in_ok-draft.ensures.nodes in
    ap is_schema (sym completed) ∙ c.in_ok-schema.ensures.formed
