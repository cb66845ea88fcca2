use Rattle.std.proofs.Common.{◌≡◌, ◌<◌, ◌∙◌, Some, true, false, ap, length, refl, sym, subst, rules}
use Rattle.std.specs.Prelude.{slice_index_or}
use Rattle.std.proofs.lemmas.Option.{slice_get-get_or, slice_get_read}
use Rattle.avro_schema.specs.Node.{node_at}
use Rattle.avro_compare.specs.Planned.{AreSources}
use Rattle.avro_compare.specs.Resolve.{fields_at}
use Rattle.avro_resolve.specs.Copied.{IsVerbatim}
use Rattle.avro_resolve.proofs.Flagging.{verbatim_at}
use Rattle.avro_resolve.proofs.plan.verbatim.verbatim_kept.Goals as goal

pub returns-then-eq-2 : goal.returns-then-eq-2
returns-then-eq-2 c = λ writer reader are.
    let pair = c.index-pairs-at.result in
    let k = c.args.index in
    let flagged : k < length c.args.flags.now = search rules in
    let low : k < length c.args.pairs.now = search rules in
    let set : slice_index_or c.args.flags.now k false ≡ true = search rules in
    let of_writer : pair.w ≡ c.args.w = search rules in
    let of_reader : pair.r ≡ c.args.r = search rules in
    let found = are k true (slice_get-get_or c.args.flags.now k false flagged ∙ ap Some set) pair (slice_get_read c.args.pairs.now (length c.args.pairs.now) k pair refl low c.index-pairs-at.is) refl in
    subst (λ sources. IsVerbatim writer reader c.args.w c.args.r × AreSources (fields_at (node_at writer c.args.w.0)) (fields_at (node_at reader c.args.r.0)) sources) (sym c.deref.ensures.value)
    (verbatim_at writer reader pair.sources.items of_writer of_reader found)
