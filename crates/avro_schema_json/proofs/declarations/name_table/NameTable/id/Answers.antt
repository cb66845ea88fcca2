use Rattle.avro_schema_json.proofs.Words.{rules, sym, ap, ◌≡◌, ◌∙◌, Some, id_of, known_in, number_of}
use Rattle.avro_schema_json.proofs.KnownFound.{no_names}
use Rattle.avro_schema_json.proofs.declarations.name_table.NameTable.id.Goals as goal

pub returns-in-Ok : goal.returns-in-Ok
returns-in-Ok c =
    let table = c.args.self.now in
    let name = c.args.name.now in
    let numbered : number_of table.numbers name.namespace ≡ Some c.in-Ok.number = search rules in
    c.id_in.ensures name.namespace numbered ∙ ap (λ t. id_of (record { namespace = name.namespace; simple = t }) (known_in table.numbers.keys table.ids.entries)) c.simple.ensures.part

pub returns-in-None : goal.returns-in-None
returns-in-None c =
    let table = c.args.self.now in
    let name = c.args.name.now in
    sym (no_names table.numbers.keys table.agree.distinct name table.ids.entries (ap (number_of table.numbers) (sym c.space.ensures) ∙ sym c.in-None.ensures.index) table.agree.within)
