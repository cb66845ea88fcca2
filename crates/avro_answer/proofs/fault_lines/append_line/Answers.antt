use Rattle.std.specs.Option.{IfSome}
use Rattle.std.specs.Prelude.{Option}
use Rattle.std.proofs.Common.{subst}
use Rattle.avro_schema.specs.SeenSchema.{schema_nodes}
use Rattle.avro_answer.specs.declared.named_fault.NamedFault.{NamedFault}
use Rattle.avro_answer.specs.inside.NamedLine.{IsNamed, named_line}
use Rattle.avro_answer.proofs.FaultLines.{line_of_named}
use Rattle.avro_answer.proofs.fault_lines.append_line.Goals as goal

pub returns-in_ok-put_line-in-Some : goal.returns-in_ok-put_line-in-Some
returns-in_ok-put_line-in-Some c = λ _.
    let writer = schema_nodes c.args.writer.now in
    let reader = schema_nodes c.args.reader.now in
    let places = c.args.places.now in
    let fault = c.args.fault in
    let named = c.in-Some.named in record {
      line = named_line named;
      is = line_of_named writer reader places fault named
          (subst (λ (o : Option NamedFault). IfSome o (IsNamed writer reader places fault)) c.in-Some.is c.in_ok-name_fault.ensures.named);
      added = c.in_ok-put_line-in-Some.ensures;
    }
