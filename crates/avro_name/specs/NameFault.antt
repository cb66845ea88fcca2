-- Which faults a text has that is to be a namespace or a name.
use Rattle.std.specs.Prelude.{◌≡◌, ℕ, true, List, ⊤, codes}
use Rattle.avro_name.specs.Name.{split_name, has_empty_part, has_bad_character, is_primitive_word}
use Rattle.avro_name.specs.declared.error.NameError.{NameError}
use Rattle.avro_name.specs.declared.error.NameError.TheVariants.{EmptyPart, BadCharacter, PrimitiveName, OutOfMemory}

-- the text has this fault as a namespace: an empty part or a bad character; memory may be short of any text
abbrev pub IsNamespaceFault : List ℕ → NameError → Type 0
IsNamespaceFault text EmptyPart = has_empty_part text ≡ true
IsNamespaceFault text BadCharacter = has_bad_character text ≡ true
IsNamespaceFault text PrimitiveName = ⊥
IsNamespaceFault text OutOfMemory = ⊤

-- the text has this fault as a name in the enclosing namespace: an empty part, a bad character or a primitive word
abbrev pub IsNameFault : List ℕ → List ℕ → NameError → Type 0
IsNameFault text enclosing EmptyPart = has_empty_part text ≡ true
IsNameFault text enclosing BadCharacter = has_bad_character text ≡ true
IsNameFault text enclosing PrimitiveName = is_primitive_word (split_name text enclosing).simple ≡ true
IsNameFault text enclosing OutOfMemory = ⊤

-- the code of an error, N1 to N4
abbrev pub name_code : NameError → List ℕ
name_code EmptyPart = codes "N1"
name_code BadCharacter = codes "N2"
name_code PrimitiveName = codes "N3"
name_code OutOfMemory = codes "N4"
