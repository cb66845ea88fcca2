use Rattle.std.proofs.Common.{◌≡◌, drop, map}
use Rattle.std.specs.List.{list_all}
use Rattle.avro_compare.specs.Leads.{lead_pair}
use Rattle.avro_certificate.specs.SeenCertificate.{dead_of, pairs_in}
use Rattle.avro_certificate.specs.inside.ClosedParts.{stands}
use Rattle.avro_certificate.proofs.closing.all_stand.Given as goal

abbrev pub invariant-loop-lead : goal.invariant-loop-lead
invariant-loop-lead l =
    list_all (stands (dead_of l.certificate) (pairs_in l.certificate)) (map lead_pair (drop l.lead-index l.leads))
    ≡ list_all (stands (dead_of l.certificate) (pairs_in l.certificate)) (map lead_pair l.leads)
