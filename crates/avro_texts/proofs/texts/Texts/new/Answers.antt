use Rattle.std.proofs.Common.{length, arith, ap}
use Rattle.avro_texts.proofs.Keys.{Keys, all_of, distinct_of}
use Rattle.avro_texts.proofs.texts.Texts.new.Goals as goal

pub invariant_of-result : goal.invariant_of-result
invariant_of-result c =
    let none = ap (λ (ks : Keys). length (all_of ks)) c.with_hasher.ensures.empty in
    (omega (arith, none), distinct_of c.with_hasher.result.keys c.with_hasher.ensures.unique)
