-- Names, namespaces and faults, computed.
use Rattle.std.proofs.Common.{◌≡◌, true, false, [], Some, None, refl}
use Rattle.std.specs.Prelude.{codes}
use Rattle.avro_name.specs.Name.{is_namespace, is_simple_name, is_primitive_word, split_name, name_of, same_name, has_empty_part, has_bad_character}

-- B in the namespace a is a.B
enclosed_row : name_of (codes "B") (codes "a") ≡ Some (record { namespace = codes "a"; simple = codes "B" })
enclosed_row = refl

-- B in the null namespace is B
null_row : name_of (codes "B") [] ≡ Some (record { namespace = []; simple = codes "B" })
null_row = refl

-- a.b.C in the namespace d is a.b.C
dotted_row : name_of (codes "a.b.C") (codes "d") ≡ Some (record { namespace = codes "a.b"; simple = codes "C" })
dotted_row = refl

-- a..b has an empty part
empty_middle_row : has_empty_part (codes "a..b") ≡ true
empty_middle_row = refl

empty_middle_name_row : name_of (codes "a..b") [] ≡ None
empty_middle_name_row = refl

-- .B has an empty part
empty_first_row : has_empty_part (codes ".B") ≡ true
empty_first_row = refl

empty_first_name_row : name_of (codes ".B") [] ≡ None
empty_first_name_row = refl

-- no text at all has one, as a name
empty_text_row : has_empty_part [] ≡ true
empty_text_row = refl

empty_text_name_row : name_of [] (codes "a") ≡ None
empty_text_name_row = refl

-- a.b-c has a bad character, and no empty part
dash_row : has_bad_character (codes "a.b-c") ≡ true
dash_row = refl

dash_not_empty_row : has_empty_part (codes "a.b-c") ≡ false
dash_not_empty_row = refl

dash_name_row : name_of (codes "a.b-c") [] ≡ None
dash_name_row = refl

-- a digit may not stand first, and may stand later
digit_first_row : has_bad_character (codes "a.9b") ≡ true
digit_first_row = refl

digit_later_row : is_simple_name (codes "_b9") ≡ true
digit_later_row = refl

-- a.int has a primitive type's name as its simple part, and no other fault
primitive_row : is_primitive_word (split_name (codes "a.int") []).simple ≡ true
primitive_row = refl

primitive_not_empty_row : has_empty_part (codes "a.int") ≡ false
primitive_not_empty_row = refl

primitive_not_bad_row : has_bad_character (codes "a.int") ≡ false
primitive_not_bad_row = refl

primitive_name_row : name_of (codes "a.int") [] ≡ None
primitive_name_row = refl

-- and so has int alone
primitive_alone_row : is_primitive_word (split_name (codes "int") (codes "a")).simple ≡ true
primitive_alone_row = refl

primitive_alone_name_row : name_of (codes "int") (codes "a") ≡ None
primitive_alone_name_row = refl

-- int.A is a name: a namespace may have any word
primitive_space_row : name_of (codes "int.A") [] ≡ Some (record { namespace = codes "int"; simple = codes "A" })
primitive_space_row = refl

-- names are compared by case
other_case_row : same_name (record { namespace = codes "a"; simple = codes "B" }) (record { namespace = codes "a"; simple = codes "b" }) ≡ false
other_case_row = refl

-- and by both parts
other_space_row : same_name (record { namespace = codes "a"; simple = codes "B" }) (record { namespace = codes "c"; simple = codes "B" }) ≡ false
other_space_row = refl

-- the empty text is the null namespace
null_namespace_row : is_namespace [] ≡ true
null_namespace_row = refl

-- a.b is a namespace
namespace_row : is_namespace (codes "a.b") ≡ true
namespace_row = refl

-- a. is none, since a part is empty
namespace_end_row : is_namespace (codes "a.") ≡ false
namespace_end_row = refl

namespace_end_empty_row : has_empty_part (codes "a.") ≡ true
namespace_end_empty_row = refl
