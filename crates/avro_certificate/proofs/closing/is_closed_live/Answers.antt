use Rattle.std.proofs.Common.{◌≡◌, ◌∙◌, ◌&&◌, false, List, Bool, ap, not, map, sym}
use Rattle.std.specs.List.{list_all}
use Rattle.avro_schema.specs.Node.{node_at}
use Rattle.avro_schema.specs.SeenSchema.{schema_nodes}
use Rattle.avro_compare.specs.Children.{children_of, has_local_fault}
use Rattle.avro_compare.specs.Leads.{lead_pair}
use Rattle.avro_compare.specs.declared.comparison.Lead.{Lead}
use Rattle.avro_compare.proofs.public.LeadPairs.{lead_children}
use Rattle.avro_certificate.specs.SeenCertificate.{dead_of, pairs_in}
use Rattle.avro_certificate.specs.inside.ClosedParts.{stands}
use Rattle.avro_certificate.proofs.closing.is_closed_live.Goals as goal

pub returns : goal.returns
returns c =
    let writer = schema_nodes c.args.names.now.0 in
    let reader = schema_nodes c.args.names.now.1 in
    let pair = c.args.pair.now in
    let n = node_at writer pair.w.0 in
    let q = node_at reader pair.r.0 in
    let test = stands (dead_of c.args.certificate.now) (pairs_in c.args.certificate.now) in
    let faultless : has_local_fault writer reader n q ≡ false = sym c.has_fault.ensures ∙ c.if-has_fault.false in
    c.all_stand.ensures
    ∙ ap (λ (ls : List Lead). list_all test (map lead_pair ls)) (c.deref.ensures.value ∙ c.in_ok-leads.ensures)
    ∙ ap (list_all test) (lead_children writer reader pair.w.0 pair.r.0 n q)
    ∙ ap (λ (b : Bool). not b && list_all test (children_of writer reader pair.w.0 pair.r.0 n q)) (sym faultless)
