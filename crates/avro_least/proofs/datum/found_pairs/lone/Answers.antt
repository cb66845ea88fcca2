use Rattle.std.proofs.Common.{◌≡◌, ◌∙◌, ◌<◌, ℕ, ap, refl, sym, subst, unwrap_or}
use Rattle.avro_schema.specs.Node.{Node, node_at}
use Rattle.avro_schema.specs.Seen.{node_of, value_of}
use Rattle.avro_schema.specs.SeenSchema.{schema_nodes}
use Rattle.avro_schema.specs.Value.{Value}
use Rattle.avro_schema.specs.declared.schema.Node.{Node as KeptNode}
use Rattle.avro_compare.proofs.public.Targets.{targets_of, inside_of}
use Rattle.avro_least.specs.Asked.{Asked, asked}
use Rattle.avro_least.specs.BuiltErrors.{IsLone}
use Rattle.avro_least.proofs.LoneValue.{lone_symbol}
use Rattle.avro_least.proofs.datum.found_pairs.lone.Goals as goal

pub returns-in-Enum : goal.returns-in-Enum
returns-in-Enum c =
    let writer = schema_nodes c.args.tables.now.writer.now in
    let reader = schema_nodes c.args.tables.now.reader.now in
    let pair = c.args.pair.now in
    let q = node_at reader pair.r.0 in
    let own = c.in-Enum.field-0 in
    let here : node_of (KeptNode.Enum own) ≡ node_at writer pair.w.0 = ap node_of (sym c.in-Enum.is) ∙ c.get.ensures.node in
    let same : c.unwrap_or.result ≡ unwrap_or pair.lacking 0 = c.unwrap_or.ensures in
    subst (λ (n : Node). Asked.lone ≡ asked writer reader n q → IsLone n q (value_of c.symbol.result)) here
    (λ e. lone_symbol writer reader own q pair (targets_of writer reader pair (node_of (KeptNode.Enum own)) q c.requires here refl)
    (inside_of writer reader pair (node_of (KeptNode.Enum own)) q c.requires here refl) e (value_of c.symbol.result)
    (subst (λ (k : ℕ). k < 4294967296 → value_of c.symbol.result ≡ Value.enum k) same c.symbol.ensures))
