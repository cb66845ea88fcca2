-- An answer whose text is cut where the room for it ends.
use Rattle.std.specs.Prelude.{◌≡◌, ℕ, List, length, take}
use Rattle.avro_answer.specs.declared.answer.CutAnswer.{CutAnswer}

-- the front of a text that there is room for, and the length of the whole text
pub record IsCut (capacity : ℕ) (text : List ℕ) (a : CutAnswer) : Type 0 where
  pub front : a.answer.text.items ≡ take capacity text
  pub whole : a.length ≡ length text
