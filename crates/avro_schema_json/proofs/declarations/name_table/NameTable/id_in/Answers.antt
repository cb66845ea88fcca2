use Rattle.avro_schema_json.proofs.Words.{rules, ◌≡◌, ◌∙◌, ◌&&◌, ◌==◌, bytes_eq, string_bytes, lookup, Key}
use Rattle.avro_schema_json.proofs.KnownFound.{found_key}
use Rattle.avro_schema_json.proofs.declarations.name_table.NameTable.id_in.Goals as goal

pub returns : goal.returns
returns c =
    let table = c.args.self.now in
    let is : c.copied.result ≡ lookup (λ (key : Key). c.args.number == key.0 && bytes_eq c.args.simple.now (string_bytes key.1)) table.ids.entries = search rules in
    λ namespace h. is ∙ found_key table.numbers.keys table.agree.distinct namespace c.args.simple.now c.args.number table.ids.entries h table.agree.within
