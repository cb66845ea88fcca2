use Rattle.std.proofs.Common.{◌≡◌, List, length, suc, subst, sym}
use Rattle.std.proofs.lemmas.Result.{IfOk-weaker}
use Rattle.avro_schema.specs.Seen.{seen_fields}
use Rattle.avro_compare.specs.inside.Listed.{AreListedFor}
use Rattle.avro_compare.specs.declared.comparison.At.{At}
use Rattle.avro_compare.proofs.Shared.{fields_kept}
use Rattle.avro_compare.proofs.comparing.keep_fields.Goals as goal

pub returns-in_ok-found : goal.returns-in_ok-found
returns-in_ok-found c =
    let ws = seen_fields c.args.writes.now in
    let rs = seen_fields c.args.reads.now in
    let same = sym c.deref.ensures.value in
    IfOk-weaker c.shared_fields.result _ _
    (λ kept. fields_kept ws rs c.deref.result.now kept.items
    (subst (λ (ps : List At). AreListedFor ws rs ps) same c.in_ok-found.ensures.each)
    (subst (λ (ps : List At). length ps ≡ suc (length ws)) same c.in_ok-found.ensures.all)) c.shared_fields.ensures
