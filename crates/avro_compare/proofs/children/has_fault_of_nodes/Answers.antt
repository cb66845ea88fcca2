use Rattle.std.proofs.Common.{◌≡◌, ◌∙◌, None, Some, rules}
use Rattle.avro_schema.specs.Seen.{node_of}
use Rattle.avro_schema.specs.SeenSchema.{schema_nodes}
use Rattle.avro_compare.specs.declared.comparison.Target.TheVariants.{To}
use Rattle.avro_compare.proofs.public.Targets.{targets_of, inside_of, plain_kept}
use Rattle.avro_compare.proofs.FaultsLed.{led_fault}
use Rattle.avro_compare.proofs.children.has_fault_of_nodes.Goals as goal

pub returns-in-Fault : goal.returns-in-Fault
returns-in-Fault c =
    let writer = schema_nodes c.args.names.now.0 in
    let reader = schema_nodes c.args.names.now.1 in
    let pair = c.args.pair.now in
    let targets = targets_of writer reader pair (node_of c.args.n.now) (node_of c.args.q.now) c.requires.pair c.requires.from c.requires.to in
    led_fault writer reader (node_of c.args.n.now) pair.r (node_of c.args.q.now) pair.target _ (plain_kept c.args.n.now c.in_default.not-Union) targets c.in-Fault.is

pub returns-in-To-Some-default : goal.returns-in-To-Some-default
returns-in-To-Some-default c =
    let writer = schema_nodes c.args.names.now.0 in
    let reader = schema_nodes c.args.names.now.1 in
    let pair = c.args.pair.now in
    let here = c.in-To-Some-default in
    let targets = targets_of writer reader pair (node_of c.args.n.now) (node_of c.args.q.now) c.requires.pair c.requires.from c.requires.to in
    let own : pair.target ≡ To (Some here.field-0-0) here.field-1 = search rules in
    led_fault writer reader (node_of c.args.n.now) pair.r (node_of c.args.q.now) pair.target _ (plain_kept c.args.n.now c.in_default.not-Union) targets own

pub has_fault_inside-requires : goal.has_fault_inside-requires
has_fault_inside-requires c =
    let pair = c.args.pair.now in
    let here = c.in-To-None-default in
    let own : pair.target ≡ To None here.field-1 = search rules in
    inside_of (schema_nodes c.args.names.now.0) (schema_nodes c.args.names.now.1) pair (node_of c.args.n.now) (node_of c.args.q.now) c.requires.pair c.requires.from c.requires.to here.field-1 own

pub returns-in-To-None-default : goal.returns-in-To-None-default
returns-in-To-None-default c =
    let writer = schema_nodes c.args.names.now.0 in
    let reader = schema_nodes c.args.names.now.1 in
    let pair = c.args.pair.now in
    let here = c.in-To-None-default in
    let targets = targets_of writer reader pair (node_of c.args.n.now) (node_of c.args.q.now) c.requires.pair c.requires.from c.requires.to in
    let own : pair.target ≡ To None here.field-1 = search rules in
    c.has_fault_inside.ensures
    ∙ led_fault writer reader (node_of c.args.n.now) pair.r (node_of c.args.q.now) pair.target _ (plain_kept c.args.n.now c.in_default.not-Union) targets own
