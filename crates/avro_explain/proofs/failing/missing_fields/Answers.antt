use Rattle.std.proofs.Common.{◌≡◌, ◌∙◌, ◌++◌, ◌+◌, ℕ, List, drop, subst, sym, arith}
use Rattle.std.proofs.lemmas.Grind.{common_steps}
use Rattle.avro_schema.specs.Seen.{field_of, seen_fields}
use Rattle.avro_compare.specs.Planned.{AreSourcesFrom}
use Rattle.avro_compare.proofs.public.Entries.{first_source, rest_sources}
use Rattle.avro_compare.proofs.public.Lists.{seen_at}
use Rattle.avro_explain.specs.Details.{missing_from}
use Rattle.avro_explain.proofs.failing.missing_fields.Goals as goal

pub add_missing-requires : goal.add_missing-requires
add_missing-requires c =
    let f = c.index-theirs-index.result in
    c.first_entry-source.ensures
    ∙ first_source c.loop-index.index (seen_fields c.args.fields.now) (seen_fields c.args.theirs.now) c.loop-index.left.now c.loop-index.invariant.1 (field_of f)
    (seen_at c.args.theirs.now c.loop-index.index f c.loop-index-test.true c.index-theirs-index.is)

pub loop-index-preserved : goal.loop-index-preserved
loop-index-preserved c =
    let i = c.loop-index.index in
    let ws = seen_fields c.args.fields.now in
    let rs = seen_fields c.args.theirs.now in
    let first : missing_from 0 ws rs ≡ c.add_missing.new.found.items ++ missing_from (i + 1) ws (seen_fields (drop (i + 1) c.args.theirs.now)) = grind (arith, common_steps) in (
      first,
      subst (λ (left : List (ℕ × ℕ)). AreSourcesFrom (i + 1) ws rs left) (sym c.rest_entries-left.ensures) (rest_sources i ws rs c.loop-index.left.now c.loop-index.invariant.1),
    )
