use Rattle.std.proofs.Common.{◌≡◌, ◌∙◌, [], ◌∷◌, List, None, Some, IfOk, ap, subst, sym, rules}
use Rattle.avro_schema.specs.Seen.{node_of}
use Rattle.avro_schema.specs.SeenSchema.{schema_nodes}
use Rattle.avro_compare.specs.declared.comparison.Target.TheVariants.{To, Fault}
use Rattle.avro_explain.specs.declared.found.Detail.{Detail}
use Rattle.avro_explain.proofs.DetailsLed.{told}
use Rattle.avro_compare.proofs.public.Targets.{targets_of, inside_of, plain_kept}
use Rattle.avro_explain.proofs.failing.details_of_nodes.Goals as goal

pub returns-in-Fault : goal.returns-in-Fault
returns-in-Fault c =
    let writer = schema_nodes c.args.names.now.0 in
    let reader = schema_nodes c.args.names.now.1 in
    let n = node_of c.args.n.now in
    let q = node_of c.args.q.now in
    let pair = c.args.pair.now in
    let targets = targets_of writer reader pair n q c.requires.pair c.requires.from c.requires.to in
    let own : pair.target ≡ Fault c.in-Fault.kind = search rules in
    let is = sym (told writer reader n pair.r q (Fault c.in-Fault.kind) (plain_kept c.args.n.now c.in_default.not-Union) (sym targets ∙ own)
    ∙ ap (λ (d : Detail). d ∷ []) (sym c.detail_of.ensures)) in
    subst (λ (ds : List Detail). IfOk c.one_detail.result (λ found. found.items ≡ ds)) is c.one_detail.ensures

pub returns-in-To-Some-default : goal.returns-in-To-Some-default
returns-in-To-Some-default c =
    let writer = schema_nodes c.args.names.now.0 in
    let reader = schema_nodes c.args.names.now.1 in
    let n = node_of c.args.n.now in
    let q = node_of c.args.q.now in
    let here = c.in-To-Some-default in
    let pair = c.args.pair.now in
    let targets = targets_of writer reader pair n q c.requires.pair c.requires.from c.requires.to in
    let own : pair.target ≡ To (Some here.field-0-0) here.field-1 = search rules in
    c.new-in-To-Some-default.ensures.items
    ∙ sym (told writer reader n pair.r q (To (Some here.field-0-0) here.field-1) (plain_kept c.args.n.now c.in_default.not-Union) (sym targets ∙ own))

pub returns-in-To-None-default : goal.returns-in-To-None-default
returns-in-To-None-default c =
    let writer = schema_nodes c.args.names.now.0 in
    let reader = schema_nodes c.args.names.now.1 in
    let n = node_of c.args.n.now in
    let q = node_of c.args.q.now in
    let here = c.in-To-None-default in
    let pair = c.args.pair.now in
    let targets = targets_of writer reader pair n q c.requires.pair c.requires.from c.requires.to in
    let own : pair.target ≡ To None here.field-1 = search rules in
    let is = sym (told writer reader n pair.r q (To None here.field-1) (plain_kept c.args.n.now c.in_default.not-Union) (sym targets ∙ own)) in
    subst (λ (ds : List Detail). IfOk c.details_inside.result (λ found. found.items ≡ ds)) is c.details_inside.ensures

pub details_inside-requires-clause-inside : goal.details_inside-requires-clause-inside
details_inside-requires-clause-inside c =
    let here = c.in-To-None-default in
    let own : c.args.pair.now.target ≡ To None here.field-1 = search rules in
    inside_of (schema_nodes c.args.names.now.0) (schema_nodes c.args.names.now.1) c.args.pair.now (node_of c.args.n.now) (node_of c.args.q.now) c.requires.pair c.requires.from c.requires.to here.field-1 own
