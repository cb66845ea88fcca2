use Rattle.avro_schema_json.proofs.Words.{ℕ, sym, subst, ◌∙◌, members_view, HasKind}
use Rattle.avro_schema_json.proofs.LeavesSeen.{object-kind, keys-distinct, keys-count}
use Rattle.avro_schema_json.proofs.defaults.leaves.row_of_object.Goals as goal

pub returns : goal.returns
returns c = λ nodes are.
    let es = c.args.members.now.entries in
    let tables = c.args.tables.now in
    object-kind nodes tables.last tables.kinds (members_view es) c.add_kind.new.row.words are.kinds are.distinct (keys-distinct es c.len.ensures.ordered)
    (λ p kind. c.add_kind.ensures.kept p (c.row_of_kind-row.ensures p kind))
    (λ p kind. c.add_kind.ensures.added p (subst (λ (k : ℕ). HasKind tables.kinds (9, k) p) (keys-count es ∙ sym c.len.ensures.len) kind))
