use Rattle.std.proofs.Common.{◌≡◌, ◌∙◌, ◌+◌, ℕ, Some, ap, sym, arith}
use Rattle.avro_schema.specs.Node.{node_at}
use Rattle.avro_schema.specs.Seen.{ids_of}
use Rattle.avro_schema.specs.SeenSchema.{schema_nodes}
use Rattle.avro_compare.specs.Match.{first_match}
use Rattle.avro_compare.proofs.Pairing.{first_within, first_matches, never_past, seen_get, id_below}
use Rattle.avro_compare.proofs.pairs.first_matched.Goals as goal

pub returns-in-None : goal.returns-in-None
returns-in-None c =
    let ws = schema_nodes c.args.writer.now in
    let rs = schema_nodes c.args.reader.now in
    ap (first_match ws rs (node_at ws c.args.w.0)) c.requires.there ∙ sym c.first_index.ensures ∙ c.in-None.is

pub returns-in-None-branch_at : goal.returns-in-None-branch_at
returns-in-None-branch_at c =
    let ws = schema_nodes c.args.writer.now in
    let rs = schema_nodes c.args.reader.now in
    let w = node_at ws c.args.w.0 in
    let found : first_match ws rs w (ids_of c.args.branches.now) ≡ Some c.in-Some.index = ap (first_match ws rs w) c.requires.there ∙ sym c.first_index.ensures ∙ c.in-Some.is in
    absurd (never_past ws rs w c.args.branches.now c.in-Some.index found (sym c.branch_at.ensures ∙ c.in-None-branch_at.is))

pub returns-in-Some-branch_at : goal.returns-in-Some-branch_at
returns-in-Some-branch_at c =
    let ws = schema_nodes c.args.writer.now in
    let rs = schema_nodes c.args.reader.now in
    let w = node_at ws c.args.w.0 in
    let ids = c.args.branches.now in
    let i = c.in-Some.index in
    let found : first_match ws rs w (ids_of ids) ≡ Some i = ap (first_match ws rs w) c.requires.there ∙ sym c.first_index.ensures ∙ c.in-Some.is in
    let sum : i ≡ 0 + i = omega arith in
    let low = first_within ws rs w ids i found in
    let at = seen_get ids i c.in-Some-branch_at.branch (sym c.branch_at.ensures ∙ c.in-Some-branch_at.is) in
    (found, at, first_matches ws rs w (ids_of ids) 0 i _ (found ∙ ap (λ (k : ℕ). Some k) sum) at, id_below ids i low)
