-- The first fault of a text, found from its start. It is tied to the definitions of names in the proofs.
use Rattle.std.specs.Prelude.{ℕ, Bool, true, false, List, [], ◌∷◌, Option, Some, None, ◌==◌, if◌then◌else◌}
use Rattle.avro_name.specs.Name.{is_name_start, is_name_character}
use Rattle.avro_name.specs.declared.error.NameError.{NameError}
use Rattle.avro_name.specs.declared.error.NameError.TheVariants.{EmptyPart, BadCharacter}

-- the first fault of what is left of a text, where `begins` says that a part begins there
abbrev pub first_fault : Bool → List ℕ → Option NameError
first_fault true [] = Some EmptyPart
first_fault false [] = None
first_fault true (c ∷ cs) = if c == 46 then Some EmptyPart else (if is_name_start c then first_fault false cs else Some BadCharacter)
first_fault false (c ∷ cs) = if c == 46 then first_fault true cs else (if is_name_character c then first_fault false cs else Some BadCharacter)
