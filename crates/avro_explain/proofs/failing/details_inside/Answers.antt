use Rattle.std.proofs.Common.{◌≡◌, ◌∙◌, List, ℕ, IfOk, ap, subst, sym}
use Rattle.avro_schema.specs.Node.{Node, node_at}
use Rattle.avro_schema.specs.Seen.{node_of, seen_fields, texts_of}
use Rattle.avro_schema.specs.SeenSchema.{schema_nodes}
use Rattle.avro_schema.specs.declared.schema.Field.{Field}
use Rattle.avro_schema.specs.declared.schema.Node.{Node as KeptNode}
use Rattle.avro_compare.specs.Planned.{AreInside, AreSources}
use Rattle.avro_explain.specs.Details.{details_of_kind}
use Rattle.avro_explain.specs.inside.Walks.{untaken_from}
use Rattle.avro_explain.specs.declared.found.Detail.{Detail}
use Rattle.avro_explain.proofs.SymbolsTaken.{untaken_lacking}
use Rattle.avro_explain.proofs.failing.details_inside.Goals as goal

pub missing_fields-requires : goal.missing_fields-requires
missing_fields-requires c =
    let pair = c.args.pair.now in
    let n = KeptNode.Record c.in-Record.a in
    let q = KeptNode.Record c.in-Record-q.b in
    let inside : AreInside (node_of n) (node_of q) pair =
    subst (λ (m : KeptNode). AreInside (node_of n) (node_of m) pair) c.in-Record-q.is (subst (λ (m : KeptNode). AreInside (node_of m) (node_of c.args.q.now) pair) c.in-Record.is c.requires.inside) in
    subst (λ (ss : List (ℕ × ℕ)). AreSources (seen_fields c.deref.result.now) (seen_fields c.deref-in-Record-q.result.now) ss) (sym c.deref-in-Record-q-2.ensures.value)
    (subst (λ (fs : List Field). AreSources (seen_fields c.deref.result.now) (seen_fields fs) pair.sources.items) (sym c.deref-in-Record-q.ensures.value)
    (subst (λ (fs : List Field). AreSources (seen_fields fs) (seen_fields c.in-Record-q.b.fields.items) pair.sources.items) (sym c.deref.ensures.value) inside.sources))

pub returns-in-Enum-q : goal.returns-in-Enum-q
returns-in-Enum-q c =
    let a = c.in-Enum.a in
    let b = c.in-Enum-q.field-0 in
    let q = KeptNode.Enum b in
    let own : node_at (schema_nodes c.args.names.now.1) c.args.pair.now.r.0 ≡ node_of q = sym c.requires.to ∙ ap node_of c.in-Enum-q.is in
    let is : untaken_from (node_at (schema_nodes c.args.names.now.1) c.args.pair.now.r.0) 0 (texts_of c.deref-in-Enum-q.result.now) ≡ details_of_kind (node_of c.args.n.now) (node_of c.args.q.now) =
    ap (λ (m : Node). untaken_from m 0 (texts_of c.deref-in-Enum-q.result.now)) own
    ∙ ap (λ ss. untaken_from (node_of q) 0 (texts_of ss)) c.deref-in-Enum-q.ensures.value
    ∙ untaken_lacking b.name b.aliases.items (texts_of b.symbols.items) (texts_of a.symbols.items) b.default
    ∙ ap (λ (m : KeptNode). details_of_kind (node_of (KeptNode.Enum a)) (node_of m)) (sym c.in-Enum-q.is)
    ∙ ap (λ (m : KeptNode). details_of_kind (node_of m) (node_of c.args.q.now)) (sym c.in-Enum.is) in
    subst (λ (ds : List Detail). IfOk c.lacking_symbols.result (λ found. found.items ≡ ds)) is c.lacking_symbols.ensures
