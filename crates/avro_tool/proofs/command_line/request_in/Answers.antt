use Rattle.std.proofs.Common.{Some, None}
use Rattle.clap.specs.Matches.{found_of}
use Rattle.avro_tool.proofs.FoundLemmas.{by_command, entered_named}
use Rattle.avro_tool.proofs.command_line.request_in.Goals as goal

pub returns-in-Some : goal.returns-in-Some
returns-in-Some c = λ plain entered apart.
    let here = entered_named plain c.args.matches.now (Some (c.in-Some.name, c.in-Some.given)) c.in-Some.ensures.name c.in-Some.ensures.rows entered in
    by_command c.request_named.result c.in-Some.name.now (found_of c.in-Some.given.now) c.request_named.ensures.judge c.request_named.ensures.explain c.request_named.ensures.confirm c.request_named.ensures.check c.request_named.ensures.show c.request_named.ensures.header c.request_named.ensures.read c.request_named.ensures.copy plain apart here.0 here.1

pub returns-in-None : goal.returns-in-None
returns-in-None c = λ plain entered apart. absurd (entered_named plain c.args.matches.now None c.in-None.ensures.name c.in-None.ensures.rows entered)
