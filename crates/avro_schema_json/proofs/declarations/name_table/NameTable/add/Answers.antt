use Rattle.avro_schema_json.proofs.Words.{sym, ap, ◌∙◌, Key, number_of, known_in}
use Rattle.avro_schema_json.proofs.KnownFound.{are_after, goes_last, known_more, there}
use Rattle.avro_schema_json.proofs.declarations.name_table.NameTable.add.Goals as goal

pub invariant_of-self : goal.invariant_of-self
invariant_of-self c =
    let table = c.args.self.now in
    record {
      agree = are_after table.numbers table.ids c.insert.new.self table.agree c.insert.result c.args.name.now (c.args.space.now.number, c.in_ok-text.text) c.args.id
          (ap (number_of table.numbers) (sym c.requires.1) ∙ c.requires.0) (c.in_ok-text.ensures.ok ∙ c.simple.ensures.part) c.requires.2 c.insert.ensures.entries c.insert.ensures.err;
    }

pub returns-clause-added : goal.returns-clause-added
returns-clause-added c =
    let table = c.args.self.now in
    let name = c.args.name.now in
    let key : Key = (c.args.space.now.number, c.in_ok-text.text) in
    let numbered = ap (number_of table.numbers) (sym c.requires.1) ∙ c.requires.0 in
    let spelled = c.in_ok-text.ensures.ok ∙ c.simple.ensures.part in
    ap (known_in table.numbers.keys) (goes_last table.numbers table.ids c.insert.new.self table.agree name key c.args.id numbered spelled c.requires.2 c.in_ok-insert.ensures.entries)
    ∙ known_more table.numbers.keys table.ids.entries key c.args.id name (there name.namespace table.numbers.keys c.args.space.now.number numbered) spelled
