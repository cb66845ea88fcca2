-- The text of a type, one level after another.
use Rattle.std.proofs.Common.{◌≡◌, ◌∙◌, ℕ, suc, ◌+◌, ◌-◌, ◌<◌, List, ◌++◌, Option, Some, sym, ap, append_assoc, arith}
use Rattle.std.specs.Prelude.{slice_get}
use Rattle.avro_schema.specs.Node.{Node}
use Rattle.avro_answer.specs.PlaceText.{type_front, type_held, if_held, type_text}

pub level_more : (nodes : List Node) (level id held : ℕ) (before after start : List ℕ) → level < 256 → before ++ type_text (256 - level) nodes id ≡ start
    → after ≡ before ++ type_front (slice_get nodes id) → Some held ≡ type_held (slice_get nodes id)
    → after ++ type_text (256 - (level + 1)) nodes held ≡ start
level_more nodes level id held before after start within now added next =
    ap (λ (ts : List ℕ). ts ++ type_text (256 - (level + 1)) nodes held) added
    ∙ append_assoc before (type_front (slice_get nodes id)) (type_text (256 - (level + 1)) nodes held)
    ∙ ap (λ (o : Option ℕ). before ++ (type_front (slice_get nodes id) ++ if_held o (λ inner. type_text (256 - (level + 1)) nodes inner))) next
    ∙ ap (λ (n : ℕ). before ++ type_text n nodes id) (sym one_level)
    ∙ now
  where
    one_level : 256 - level ≡ suc (256 - (level + 1))
    one_level = omega (arith, within)
