use Rattle.std.proofs.Common.{◌≡◌, ◌∙◌, ◌++◌, ℕ, Bool, List, [], ap, cond, map, subst, sym, OnOk}
use Rattle.avro_schema.specs.Node.{node_at}
use Rattle.avro_schema.specs.SeenSchema.{schema_nodes}
use Rattle.avro_compare.specs.Children.{Pair, children_of}
use Rattle.avro_compare.specs.Leads.{lead_pair, leads_at}
use Rattle.avro_compare.specs.declared.comparison.Lead.{Lead}
use Rattle.avro_compare.proofs.public.LeadPairs.{lead_children}
use Rattle.avro_least.specs.Asked.{live_numbers, open_children}
use Rattle.avro_least.specs.SeenLeast.{table_of}
use Rattle.avro_least.proofs.pairs.reaching.steps.Goals as goal

pub returns : goal.returns
returns c =
    let writer = schema_nodes c.args.names.now.0 in
    let reader = schema_nodes c.args.names.now.1 in
    let w = c.args.pair.now.w.0 in
    let r = c.args.pair.now.r.0 in
    let is : map lead_pair c.deref.result.now ≡ open_children writer reader w r (node_at writer w) (node_at reader r) =
    ap (map lead_pair) (c.deref.ensures.value ∙ c.in_ok-add_leads.ensures ∙ ap (λ (ls : List Lead). ls ++ leads_at writer reader w r) c.clear-2.ensures.items) ∙ lead_children writer reader w r (node_at writer w) (node_at reader r)
    ∙ ap (λ (t : Bool). cond t [] (children_of writer reader w r (node_at writer w) (node_at reader r))) (sym c.if-has_fault.false ∙ c.has_fault.ensures) in
    subst (λ (ps : List Pair). OnOk c.add_numbers.result (c.add_numbers.new.numbers.items ≡ live_numbers c.args.count (table_of c.args.table.now) ps)) is
    (subst (λ (ns : List ℕ). OnOk c.add_numbers.result (c.add_numbers.new.numbers.items ≡ ns ++ live_numbers c.args.count (table_of c.args.table.now) (map lead_pair c.deref.result.now)))
    c.clear.ensures.items c.add_numbers.ensures)
