use Rattle.std.specs.Option.{IfSome}
use Rattle.std.specs.Prelude.{Option}
use Rattle.std.proofs.Common.{◌∙◌, ◌++◌, List, ℕ, ap, append_assoc, string_bytes, subst}
use Rattle.serde_json.specs.Written.{comma_if, compact_text}
use Rattle.avro_schema.specs.SeenSchema.{schema_nodes}
use Rattle.avro_answer.specs.declared.named_fault.NamedFault.{NamedFault}
use Rattle.avro_answer.specs.inside.NamedLine.{IsNamed, named_tree}
use Rattle.avro_answer.proofs.FaultLines.{tree_of_named}
use Rattle.avro_answer.proofs.fault_lines.append_json.Goals as goal

pub returns-in_ok-push_str-in-Some : goal.returns-in_ok-push_str-in-Some
returns-in_ok-push_str-in-Some c = λ _.
    let writer = schema_nodes c.args.writer.now in
    let reader = schema_nodes c.args.reader.now in
    let places = c.args.places.now in
    let fault = c.args.fault in
    let named = c.in-Some.named in
    let text : List ℕ = compact_text (named_tree named) in record {
      tree = named_tree named;
      is = tree_of_named writer reader places fault named
          (subst (λ (o : Option NamedFault). IfSome o (IsNamed writer reader places fault)) c.in-Some.is c.in_ok-name_fault.ensures.named);
      added = c.in_ok-push_str-in-Some.ensures.bytes
          ∙ ap (λ (t : List ℕ). string_bytes c.append_comma.new.text ++ t) (c.deref.ensures ∙ c.in_ok-json-in-Some.ensures)
          ∙ ap (λ (t : List ℕ). t ++ text) c.in_ok-append_comma-in-Some.ensures
          ∙ append_assoc (string_bytes c.args.text.now) (comma_if c.args.later) text;
    }
