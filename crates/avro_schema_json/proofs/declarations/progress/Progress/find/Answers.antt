use Rattle.avro_schema_json.proofs.Words.{arith, sym, ◌∙◌, inr, name_of, state_of, SchemaError}
use Rattle.avro_schema_json.proofs.PartsRead.{reference-read, reference-unknown, ok-or_memory, some-from_ok_or}
use Rattle.avro_schema_json.proofs.declarations.progress.Progress.find.Goals as goal

pub id_of_word-requires : goal.id_of_word-requires
id_of_word-requires c = grind (arith, ok-or_memory, some-from_ok_or)

pub returns-in-Some-clause-found : goal.returns-in-Some-clause-found
returns-in-Some-clause-found c =
    let name = c.in_ok-name.name in
    let s = state_of c.args.self.now in
    let named = some-from_ok_or (name_of c.args.word.now c.args.enclosing.now.namespace) name SchemaError.InvalidName (ok-or_memory name _ c.in_ok-name.ensures) in
    reference-read c.args.word.now c.args.enclosing.now.namespace s name c.in-Some.id named
    (sym c.in_ok-id.ensures ∙ c.in-Some.is)

pub returns-clause-refused : goal.returns-clause-refused
returns-clause-refused c =
    let name = c.in_ok-name.name in
    let s = state_of c.args.self.now in
    let named = some-from_ok_or (name_of c.args.word.now c.args.enclosing.now.namespace) name SchemaError.InvalidName (ok-or_memory name _ c.in_ok-name.ensures) in
    inr (reference-unknown c.args.word.now c.args.enclosing.now.namespace s name named
    (sym c.in_ok-id.ensures ∙ c.in-None.is))
