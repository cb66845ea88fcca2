-- How contracts see a certificate: as a list of nodes and a list of pairs.
use Rattle.std.specs.Prelude.{ℕ, List}
use Rattle.avro_compare.specs.Children.{Pair}
use Rattle.avro_certificate.specs.declared.kept.Certificate.{Certificate}
use Rattle.avro_certificate.specs.SeenPair.{pairs_of}

-- the nodes of a certificate
abbrev pub dead_of : Certificate → List ℕ
dead_of c = c.dead.items

-- the pairs of a certificate
abbrev pub pairs_in : Certificate → List Pair
pairs_in c = pairs_of c.pairs.items
