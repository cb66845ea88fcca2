use Rattle.avro_schema_json.proofs.Words.{err_from_is_err_and, members_view, state_of}
use Rattle.avro_schema_json.proofs.DefinitionsRead.{fixed-definition, nothing-read, unbegun, misnamed, misformed, definition-read}
use Rattle.avro_schema_json.proofs.declarations.progress.Progress.read_fixed.Goals as goal

pub returns-in_err-id-clause-refused : goal.returns-in_err-id-clause-refused
returns-in_err-id-clause-refused c =
    let p = err_from_is_err_and c.from_residual.result c.from_residual.ensures.1 in
    rw (p.1, p.2) (unbegun (fixed-definition (members_view c.args.members.now.entries)) c.args.enclosing.now.namespace (state_of c.args.self.now) _ c.in_err-id.ensures.refused)

pub returns-in_err-aliases-clause-refused : goal.returns-in_err-aliases-clause-refused
returns-in_err-aliases-clause-refused c =
    let p = err_from_is_err_and c.from_residual-in_err-aliases.result c.from_residual-in_err-aliases.ensures.1 in
    rw (p.1, p.2) (misnamed (fixed-definition _) _ _ c.in_ok-id.ensures.begun c.in_ok-id.ensures.namespace _ c.in_err-aliases.ensures.refused)

pub returns-in_err-size-clause-refused : goal.returns-in_err-size-clause-refused
returns-in_err-size-clause-refused c =
    let p = err_from_is_err_and c.from_residual-in_err-size.result c.from_residual-in_err-size.ensures.1 in
    rw (p.1, p.2) (misformed (fixed-definition _) _ _ c.in_ok-id.ensures.begun c.in_ok-id.ensures.namespace _ c.in_err-size.ensures.refused)

pub returns-clause-read : goal.returns-clause-read
returns-clause-read c =
    definition-read (fixed-definition _) _ _ c.in_ok-id.ensures.begun c.in_ok-id.ensures.namespace (state_of c.begin.new.self) (state_of c.put.new.self) _ c.in_ok-size.size _
    c.in_ok-aliases.ensures.found c.in_ok-size.ensures.found (nothing-read c.in_ok-id.field-0.space.namespace (state_of c.begin.new.self)) c.put.ensures.nodes c.put.ensures.names
