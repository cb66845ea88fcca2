use Rattle.std.proofs.Common.{◌<◌, length, refl, rules}
use Rattle.std.proofs.lemmas.Option.{slice_get_read}
use Rattle.avro_compare.proofs.pairs.union_at.Goals as goal

pub returns : goal.returns
returns c =
    let unions = c.args.unions.now in
    let low : c.args.r.0 < length unions = search rules in
    slice_get_read unions (length unions) c.args.r.0 c.index-unions-at.result refl low c.index-unions-at.is
