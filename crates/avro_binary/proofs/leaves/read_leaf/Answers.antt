use Rattle.std.proofs.Common.{◌≡◌, true, subst, sym}
use Rattle.std.proofs.lemmas.Result.{err_from_is_err_and}
use Rattle.avro_schema.specs.Fits.{fits}
use Rattle.avro_schema.specs.Seen.{node_of}
use Rattle.avro_schema.specs.Value.{Value}
use Rattle.avro_binary.proofs.leaves.read_leaf.Goals as goal

pub returns-in_err-read-clause-reads : goal.returns-in_err-read-clause-reads
returns-in_err-read-clause-reads g c = λ nodes leaf.
    let p = err_from_is_err_and c.from_residual.result c.from_residual.ensures.1 in
    rw (p.1, p.2) (record { found = tt; refused = (c.in_err-read.ensures nodes leaf).refused })

pub returns-clause-reads : goal.returns-clause-reads
returns-clause-reads g c = λ nodes leaf.
    let n = node_of c.args.node.now in
    let found = (c.in_ok-read.ensures nodes leaf).found in
    let fit = subst (λ (v : Value). fits nodes n v ≡ true) (sym found.2) found.1.encoded.fitting in
    record {
      found = (found.0, found.1, (c.in_ok-leaf.ensures.kept, subst (λ (v : Value). g.M.Make.stands_for c.leaf.new.self nodes n c.args.at c.in_ok-leaf.field-0 v) found.2 (c.in_ok-leaf.ensures.stands nodes n fit)));
      refused = tt;
    }
