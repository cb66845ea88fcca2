use Rattle.std.proofs.Common.{◌≡◌, ◌<◌, length, refl, rules}
use Rattle.std.proofs.lemmas.Option.{slice_get_read}
use Rattle.avro_resolve.proofs.plan.lookup.pair_of.Goals as goal

pub returns-then-eq-2 : goal.returns-then-eq-2
returns-then-eq-2 c = λ writer reader kept.
    let pair = c.index-pairs-index.result in
    let low : c.args.index < length c.args.pairs.now = search rules in
    let of_writer : pair.w ≡ c.args.w = search rules in
    let of_reader : pair.r ≡ c.args.r = search rules in
    (kept c.args.index pair (slice_get_read c.args.pairs.now (length c.args.pairs.now) c.args.index pair refl low c.index-pairs-index.is), of_writer, of_reader)
