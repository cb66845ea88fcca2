-- The text of a history: the texts of several certificates, one after the other, between two lines of its own.
use Rattle.std.specs.Prelude.{◌≡◌, ℕ, Bool, true, ◌&&◌, nat_lt, List, ◌++◌, flat_map, codes}
use Rattle.std.specs.List.{list_all}
use Rattle.avro_compare.specs.Children.{Pair}
use Rattle.avro_certificate.specs.CertificateText.{certificate_text, is_rising, is_before, are_small}

-- what a certificate has: a set of nodes and a set of pairs of nodes, each as a list
pub record Sets : Type 0 where
  pub dead : List ℕ
  pub pairs : List Pair

-- the text of one certificate
abbrev pub sets_text : Sets → List ℕ
sets_text s = certificate_text s.dead s.pairs

-- the lines of a history: `history 1`, the text of each certificate, `end`
abbrev pub history_text : List Sets → List ℕ
history_text sets = codes "history 1\n" ++ flat_map sets_text sets ++ codes "end\n"

-- both lists of a certificate are strictly increasing
abbrev pub do_rise : Sets → Bool
do_rise s = is_rising nat_lt s.dead && is_rising is_before s.pairs

-- A text that is the lines of these certificates, in this order, whatever their numbers; there may be none of them.
pub record HistoryText (sets : List Sets) (text : List ℕ) : Type 0 where
  pub rising : list_all do_rise sets ≡ true
  pub written : text ≡ history_text sets

-- no number of a certificate is over 4,095
abbrev pub has_small : Sets → Bool
has_small s = are_small s.dead s.pairs

-- no number is over 4,095
abbrev pub all_small : List Sets → Bool
all_small sets = list_all has_small sets
