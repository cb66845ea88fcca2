-- The fields that a reader's fields take their values from: computed.
use Rattle.std.proofs.Common.{◌≡◌, refl, List, [], ◌∷◌, Some, None, codes, pos}
use Rattle.avro_schema.specs.Value.{Value}
use Rattle.avro_schema.specs.Node.{FieldNode}
use Rattle.avro_schema.proofs.public.RowsSchemas.{plain_field, aliased_field, default_field}
use Rattle.avro_compare.specs.Source.{source_of, reader_field, missing_field}

-- a writer's three fields
abbrev written : List FieldNode
written = plain_field (codes "a") 1 ∷ plain_field (codes "b") 2 ∷ aliased_field (codes "c") (codes "d" ∷ []) 3 ∷ []

by_name : source_of written (plain_field (codes "b") 7) ≡ Some 1
by_name = refl

by_name_before_alias : source_of written (aliased_field (codes "b") (codes "a" ∷ []) 7) ≡ Some 1
by_name_before_alias = refl

by_alias : source_of written (aliased_field (codes "z") (codes "y" ∷ codes "c" ∷ []) 7) ≡ Some 2
by_alias = refl

-- of two aliases the reader's first, and not the writer's first field
by_first_alias : source_of written (aliased_field (codes "z") (codes "c" ∷ codes "a" ∷ []) 7) ≡ Some 2
by_first_alias = refl

-- the writer's aliases do not matter
by_writers_alias : source_of written (plain_field (codes "d") 7) ≡ None
by_writers_alias = refl

by_other_case : source_of written (plain_field (codes "B") 7) ≡ None
by_other_case = refl

-- the reader's field that a writer's field goes to
field_of_second : reader_field written (plain_field (codes "a") 7 ∷ aliased_field (codes "z") (codes "b" ∷ []) 8 ∷ []) 1
    ≡ Some (aliased_field (codes "z") (codes "b" ∷ []) 8)
field_of_second = refl

field_of_third : reader_field written (plain_field (codes "a") 7 ∷ aliased_field (codes "z") (codes "b" ∷ []) 8 ∷ []) 2 ≡ None
field_of_third = refl

-- the first reader's field with neither source nor default
none_missing : missing_field written (plain_field (codes "c") 7 ∷ default_field (codes "y") 8 (Value.int (pos 1)) ∷ []) ≡ None
none_missing = refl

second_missing : missing_field written (plain_field (codes "c") 7 ∷ plain_field (codes "y") 8 ∷ plain_field (codes "z") 9 ∷ []) ≡ Some 1
second_missing = refl
