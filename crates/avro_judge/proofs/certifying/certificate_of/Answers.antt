use Rattle.std.proofs.Common.{ap, ◌∙◌}
use Rattle.avro_schema.specs.SeenSchema.{schema_nodes}
use Rattle.indexmap.specs.IndexSet.{keys}
use Rattle.avro_certificate.specs.SeenPair.{pairs_of}
use Rattle.avro_judge.proofs.CertifiedTables.{no_entry, certified_dead, certified_live, evidence_as, closed_as}
use Rattle.avro_judge.proofs.certifying.certificate_of.Goals as goal

pub of-requires-clause-rising : goal.of-requires-clause-rising
of-requires-clause-rising c =
    let gone = no_entry c.entry.result _ c.is_none.result c.entry.ensures c.is_none.ensures ∙ c.if-is_none.true in
    let own = certified_dead (schema_nodes c.args.writer.now) (schema_nodes c.args.reader.now) c.args.table.now (keys c.args.reached.now.known)
    c.count-2.ensures.formed c.count.ensures.formed c.requires.one_each c.requires.calm c.count-2.result c.in_ok-dead.dead.items (pairs_of c.new.result.items)
    c.count-2.ensures.count c.in_ok-dead.ensures (ap pairs_of c.new.ensures.items) gone in
    own.rising

pub of-requires-clause-small : goal.of-requires-clause-small
of-requires-clause-small c =
    let gone = no_entry c.entry.result _ c.is_none.result c.entry.ensures c.is_none.ensures ∙ c.if-is_none.true in
    let own = certified_dead (schema_nodes c.args.writer.now) (schema_nodes c.args.reader.now) c.args.table.now (keys c.args.reached.now.known)
    c.count-2.ensures.formed c.count.ensures.formed c.requires.one_each c.requires.calm c.count-2.result c.in_ok-dead.dead.items (pairs_of c.new.result.items)
    c.count-2.ensures.count c.in_ok-dead.ensures (ap pairs_of c.new.ensures.items) gone in
    own.small

pub returns-then-is_none : goal.returns-then-is_none
returns-then-is_none c =
    let gone = no_entry c.entry.result _ c.is_none.result c.entry.ensures c.is_none.ensures ∙ c.if-is_none.true in
    let own = certified_dead (schema_nodes c.args.writer.now) (schema_nodes c.args.reader.now) c.args.table.now (keys c.args.reached.now.known)
    c.count-2.ensures.formed c.count.ensures.formed c.requires.one_each c.requires.calm c.count-2.result c.in_ok-dead.dead.items (pairs_of c.new.result.items)
    c.count-2.ensures.count c.in_ok-dead.ensures (ap pairs_of c.new.ensures.items) gone in
    record { evidence = evidence_as _ _ _ _ _ _ c.of.ensures.dead c.of.ensures.pairs own.evidence; closed = closed_as _ _ _ _ _ _ c.of.ensures.dead c.of.ensures.pairs own.closed }

pub of-requires-2-clause-rising : goal.of-requires-2-clause-rising
of-requires-2-clause-rising c =
    let here = no_entry c.entry.result _ c.is_none.result c.entry.ensures c.is_none.ensures ∙ c.if-is_none.false in
    let own = certified_live (schema_nodes c.args.writer.now) (schema_nodes c.args.reader.now) c.args.table.now (keys c.args.reached.now.known)
    c.count-2.ensures.formed c.count.ensures.formed c.requires.one_each c.requires.calm c.count-2.result c.in_ok-dead.dead.items (pairs_of c.in_ok-pairs.pairs.items)
    c.count-2.ensures.count c.in_ok-dead.ensures c.in_ok-pairs.ensures c.requires.stepped here in
    own.rising

pub of-requires-2-clause-rising_pairs : goal.of-requires-2-clause-rising_pairs
of-requires-2-clause-rising_pairs c =
    let here = no_entry c.entry.result _ c.is_none.result c.entry.ensures c.is_none.ensures ∙ c.if-is_none.false in
    let own = certified_live (schema_nodes c.args.writer.now) (schema_nodes c.args.reader.now) c.args.table.now (keys c.args.reached.now.known)
    c.count-2.ensures.formed c.count.ensures.formed c.requires.one_each c.requires.calm c.count-2.result c.in_ok-dead.dead.items (pairs_of c.in_ok-pairs.pairs.items)
    c.count-2.ensures.count c.in_ok-dead.ensures c.in_ok-pairs.ensures c.requires.stepped here in
    own.rising_pairs

pub of-requires-2-clause-small : goal.of-requires-2-clause-small
of-requires-2-clause-small c =
    let here = no_entry c.entry.result _ c.is_none.result c.entry.ensures c.is_none.ensures ∙ c.if-is_none.false in
    let own = certified_live (schema_nodes c.args.writer.now) (schema_nodes c.args.reader.now) c.args.table.now (keys c.args.reached.now.known)
    c.count-2.ensures.formed c.count.ensures.formed c.requires.one_each c.requires.calm c.count-2.result c.in_ok-dead.dead.items (pairs_of c.in_ok-pairs.pairs.items)
    c.count-2.ensures.count c.in_ok-dead.ensures c.in_ok-pairs.ensures c.requires.stepped here in
    own.small

pub returns : goal.returns
returns c =
    let here = no_entry c.entry.result _ c.is_none.result c.entry.ensures c.is_none.ensures ∙ c.if-is_none.false in
    let own = certified_live (schema_nodes c.args.writer.now) (schema_nodes c.args.reader.now) c.args.table.now (keys c.args.reached.now.known)
    c.count-2.ensures.formed c.count.ensures.formed c.requires.one_each c.requires.calm c.count-2.result c.in_ok-dead.dead.items (pairs_of c.in_ok-pairs.pairs.items)
    c.count-2.ensures.count c.in_ok-dead.ensures c.in_ok-pairs.ensures c.requires.stepped here in
    record { evidence = evidence_as _ _ _ _ _ _ c.of-2.ensures.dead c.of-2.ensures.pairs own.evidence; closed = closed_as _ _ _ _ _ _ c.of-2.ensures.dead c.of-2.ensures.pairs own.closed }
