use Rattle.std.proofs.Common.{◌≡◌, ◌++◌, List, ap, subst}
use Rattle.std.specs.Prelude.{OnOk}
use Rattle.avro_schema.specs.Seen.{node_of, ids_of}
use Rattle.avro_schema.specs.SeenSchema.{schema_nodes}
use Rattle.avro_compare.specs.declared.comparison.Lead.{Lead}
use Rattle.avro_compare.proofs.public.Targets.{targets_of, plain_kept}
use Rattle.avro_compare.proofs.FaultsLed.{led_leads}
use Rattle.avro_compare.proofs.children.add_of_nodes.Goals as goal

pub returns-in-Union-q : goal.returns-in-Union-q
returns-in-Union-q c =
    let writer = schema_nodes c.args.names.now.0 in
    let reader = schema_nodes c.args.names.now.1 in
    let pair = c.args.pair.now in
    let n = node_of c.args.n.now in
    let q = node_of c.args.q.now in
    let targets = targets_of writer reader pair n q c.requires.pair c.requires.from c.requires.to in
    let led = led_leads writer reader n pair.r pair.w.0 (ids_of c.in-Union-q.field-0.items) q pair.target (plain_kept c.args.n.now c.in_default.not-Union) (ap node_of c.in-Union-q.is) targets in
    subst (λ (ls : List Lead). OnOk c.add_choice.result (c.add_choice.new.found.items ≡ c.args.found.now.items ++ ls)) led c.add_choice.ensures
