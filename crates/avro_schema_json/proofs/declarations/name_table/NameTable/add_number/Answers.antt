use Rattle.avro_schema_json.proofs.KnownFound.{insertion_follows, known_kept}
use Rattle.avro_schema_json.proofs.declarations.name_table.NameTable.add_number.Goals as goal

pub returns-in-Ok-clause-known : goal.returns-in-Ok-clause-known
returns-in-Ok-clause-known c =
    let table = c.args.self.now in
    known_kept table.numbers.keys c.insert_full.new.self.keys (insertion_follows c.insert_full.result _ _ c.in_ok-key.key c.insert_full.ensures.keys c.insert_full.ensures.err) table.ids.entries table.agree.within

pub returns-in-Err-clause-known : goal.returns-in-Err-clause-known
returns-in-Err-clause-known c =
    let table = c.args.self.now in
    known_kept table.numbers.keys c.insert_full.new.self.keys (insertion_follows c.insert_full.result _ _ c.in_ok-key.key c.insert_full.ensures.keys c.insert_full.ensures.err) table.ids.entries table.agree.within
