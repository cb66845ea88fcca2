-- The certificates of a history, without its first line.
use Rattle.std.specs.Prelude.{◌≡◌, ℕ, ◌<◌, ◌⊎◌, true, false, List, ◌++◌, length, flat_map, codes}
use Rattle.std.specs.List.{list_all}
use Rattle.avro_certificate.specs.declared.error.CertError.{CertError}
use Rattle.avro_history.specs.HistoryText.{Sets, sets_text, do_rise, all_small}

abbrev pub lines_of : List Sets → List ℕ
lines_of sets = flat_map sets_text sets ++ codes "end\n"

-- they are those of sets that rise
pub record AreLines (sets : List Sets) (text : List ℕ) : Type 0 where
  pub rising : list_all do_rise sets ≡ true
  pub written : text ≡ lines_of sets

pub record HasGreatLines (text : List ℕ) : Type 0 where
  pub sets : List Sets
  pub written : text ≡ lines_of sets
  pub great : all_small sets ≡ false

abbrev pub RefusesLines : CertError → List ℕ → Type 0
RefusesLines CertError.Malformed text = (268435456 < length text) ⊎ ((sets : List Sets) → AreLines sets text → ⊥)
RefusesLines CertError.NumberTooLarge text = HasGreatLines text
RefusesLines CertError.OutOfMemory text = Unit {0}
