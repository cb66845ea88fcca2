use Rattle.avro_schema_json.proofs.Words.{err_from_is_err_and, members_view, texts_of, state_of}
use Rattle.avro_schema_json.proofs.DefinitionsRead.{enum-definition, nothing-read, unbegun, misnamed, misformed, definition-read}
use Rattle.avro_schema_json.proofs.declarations.progress.Progress.read_enum.Goals as goal

pub returns-in_err-id-clause-refused : goal.returns-in_err-id-clause-refused
returns-in_err-id-clause-refused c =
    let p = err_from_is_err_and c.from_residual.result c.from_residual.ensures.1 in
    rw (p.1, p.2) (unbegun (enum-definition (members_view c.args.members.now.entries)) c.args.enclosing.now.namespace (state_of c.args.self.now) _ c.in_err-id.ensures.refused)

pub returns-in_err-aliases-clause-refused : goal.returns-in_err-aliases-clause-refused
returns-in_err-aliases-clause-refused c =
    let p = err_from_is_err_and c.from_residual-in_err-aliases.result c.from_residual-in_err-aliases.ensures.1 in
    rw (p.1, p.2) (misnamed (enum-definition _) _ _ c.in_ok-id.ensures.begun c.in_ok-id.ensures.namespace _ c.in_err-aliases.ensures.refused)

pub returns-in_err-symbols-clause-refused : goal.returns-in_err-symbols-clause-refused
returns-in_err-symbols-clause-refused c =
    let p = err_from_is_err_and c.from_residual-in_err-symbols.result c.from_residual-in_err-symbols.ensures.1 in
    rw (p.1, p.2) (misformed (enum-definition _) _ _ c.in_ok-id.ensures.begun c.in_ok-id.ensures.namespace _ c.in_err-symbols.ensures.refused)

pub returns-clause-read : goal.returns-clause-read
returns-clause-read c =
    definition-read (enum-definition _) _ _ c.in_ok-id.ensures.begun c.in_ok-id.ensures.namespace (state_of c.begin.new.self) (state_of c.put.new.self) _
    (texts_of c.in_ok-symbols.symbols.items, c.in_ok-symbols.default) _
    c.in_ok-aliases.ensures.found c.in_ok-symbols.ensures.found (nothing-read c.in_ok-id.field-0.space.namespace (state_of c.begin.new.self)) c.put.ensures.nodes c.put.ensures.names

pub returns-clause-kept : goal.returns-clause-kept
returns-clause-kept c = λ namespace number h.
    c.put.ensures.kept namespace number (c.begin.ensures.kept namespace number h)
