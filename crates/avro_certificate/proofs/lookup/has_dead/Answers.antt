use Rattle.std.proofs.Common.{ℕ, List, ◌∙◌, subst}
use Rattle.std.specs.Ordering.{nat_cmp}
use Rattle.std.specs.List.Sorted.{IsBinarySearchResult}
use Rattle.avro_certificate.specs.SeenCertificate.{dead_of}
use Rattle.avro_certificate.proofs.Halving.{searched_among}
use Rattle.avro_certificate.proofs.lookup.has_dead.Goals as goal

pub returns : goal.returns
returns c = c.is_ok.ensures.value ∙ searched_among (dead_of c.args.certificate.now) c.args.number c.binary_search.result c.dead.ensures.rising
    (subst (λ (l : List ℕ). IsBinarySearchResult (λ y. nat_cmp y c.args.number) l c.binary_search.result) c.dead.ensures.numbers c.binary_search.ensures.position)
