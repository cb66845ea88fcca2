-- How contracts see a history: as the sets of its certificates.
use Rattle.std.specs.Prelude.{List, map}
use Rattle.avro_certificate.specs.SeenCertificate.{dead_of, pairs_in}
use Rattle.avro_certificate.specs.declared.kept.Certificate.{Certificate}
use Rattle.avro_history.specs.HistoryText.{Sets}
use Rattle.avro_history.specs.declared.history.HistoryCert.{HistoryCert}

-- a certificate, as its two lists
abbrev pub set_of : Certificate → Sets
set_of c = record { dead = dead_of c; pairs = pairs_in c }

-- a history, as a list of those
abbrev pub sets_of : HistoryCert → List Sets
sets_of h = map set_of h.certificates.items
