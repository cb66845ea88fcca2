use Rattle.std.proofs.Common.{◌≡◌, ◌∙◌, None, Some, rules}
use Rattle.avro_schema.specs.Seen.{node_of}
use Rattle.avro_schema.specs.SeenSchema.{schema_nodes}
use Rattle.avro_compare.specs.declared.comparison.Target.TheVariants.{To, Fault}
use Rattle.avro_compare.proofs.public.Targets.{targets_of, inside_of, plain_kept}
use Rattle.avro_least.proofs.AskedLed.{asked_led}
use Rattle.avro_least.proofs.pairs.asking.ask_nodes.Goals as goal

pub returns-in-Fault-clause-shown : goal.returns-in-Fault-clause-shown
returns-in-Fault-clause-shown c =
    let writer = schema_nodes c.args.writer.now in
    let reader = schema_nodes c.args.reader.now in
    let pair = c.args.pair.now in
    let targets = targets_of writer reader pair (node_of c.args.from.now) (node_of c.args.to.now) c.requires.pair c.requires.from c.requires.to in
    asked_led writer reader (node_of c.args.from.now) (node_of c.args.to.now) pair.r pair.target (Fault c.in-Fault.field-0) (plain_kept c.args.from.now c.in_default.not-Union) targets c.in-Fault.is

pub returns-in-To-Some-default-clause-shown : goal.returns-in-To-Some-default-clause-shown
returns-in-To-Some-default-clause-shown c =
    let writer = schema_nodes c.args.writer.now in
    let reader = schema_nodes c.args.reader.now in
    let pair = c.args.pair.now in
    let here = c.in-To-Some-default in
    let targets = targets_of writer reader pair (node_of c.args.from.now) (node_of c.args.to.now) c.requires.pair c.requires.from c.requires.to in
    let own : pair.target ≡ To (Some here.field-0-0) here.q = search rules in
    asked_led writer reader (node_of c.args.from.now) (node_of c.args.to.now) pair.r pair.target (To (Some here.field-0-0) here.q) (plain_kept c.args.from.now c.in_default.not-Union) targets own

pub ask_inside-requires : goal.ask_inside-requires
ask_inside-requires c =
    let pair = c.args.pair.now in
    let here = c.in-To-None-default in
    let own : pair.target ≡ To None here.field-1 = search rules in
    inside_of (schema_nodes c.args.writer.now) (schema_nodes c.args.reader.now) pair (node_of c.args.from.now) (node_of c.args.to.now) c.requires.pair c.requires.from c.requires.to here.field-1 own

pub returns-in-To-None-default-clause-shown : goal.returns-in-To-None-default-clause-shown
returns-in-To-None-default-clause-shown c =
    let writer = schema_nodes c.args.writer.now in
    let reader = schema_nodes c.args.reader.now in
    let pair = c.args.pair.now in
    let here = c.in-To-None-default in
    let targets = targets_of writer reader pair (node_of c.args.from.now) (node_of c.args.to.now) c.requires.pair c.requires.from c.requires.to in
    let own : pair.target ≡ To None here.field-1 = search rules in
    c.ask_inside.ensures.shown
    ∙ asked_led writer reader (node_of c.args.from.now) (node_of c.args.to.now) pair.r pair.target (To None here.field-1) (plain_kept c.args.from.now c.in_default.not-Union) targets own
