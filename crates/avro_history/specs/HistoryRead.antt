-- What a refusal of a history's text says of it.
use Rattle.std.specs.Prelude.{◌≡◌, ℕ, ◌<◌, ◌⊎◌, false, List, length, Ok, Err}
use Rattle.std.specs.declared.result.Result.{Result}
use Rattle.avro_certificate.specs.declared.error.CertError.{CertError}
use Rattle.avro_history.specs.HistoryText.{Sets, HistoryText, history_text, all_small}

-- the text is not that of a history, or longer than any that is read
abbrev pub IsMalformed : List ℕ → Type 0
IsMalformed text = (268435456 < length text) ⊎ ((sets : List Sets) → HistoryText sets text → ⊥)

-- the text has the lines of a history, and some number is over 4,095
pub record HasGreatNumber (text : List ℕ) : Type 0 where
  pub sets : List Sets
  pub written : text ≡ history_text sets
  pub great : all_small sets ≡ false

-- what an error says of a text: it is malformed, or has too great a number; nothing if memory ran out
abbrev pub Refuses : CertError → List ℕ → Type 0
Refuses CertError.Malformed text = IsMalformed text
Refuses CertError.NumberTooLarge text = HasGreatNumber text
Refuses CertError.OutOfMemory text = Unit {0}

-- a claim on what was read, made only if memory did not run out
abbrev pub UnlessOutOfMemory : {A : Type 0} → Result A CertError → (A → Type 0) → Type 0
UnlessOutOfMemory (Ok a) P = P a
UnlessOutOfMemory (Err CertError.OutOfMemory) P = Unit {0}
UnlessOutOfMemory (Err e) P = ⊥
