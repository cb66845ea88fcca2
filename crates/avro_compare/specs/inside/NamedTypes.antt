-- Records, enums and fixeds by what they are matched by.
use Rattle.std.specs.Prelude.{◌≡◌, ℕ, ◌+◌, Bool, false, ◌&&◌, List, [], Option, Some, None, ◌==◌}
use Rattle.std.specs.Option.{IfSome}
use Rattle.avro_name.specs.Name.{Name}
use Rattle.avro_schema.specs.Node.{Node}
use Rattle.avro_compare.specs.Match.{are_alike}

-- a record, an enum or a fixed by what it is matched by: its kind, its name and its aliases. A kind is that of records, of
-- enums, or of fixeds of one length.
pub record NamedType : Type 0 where
  pub kind : ℕ
  pub name : Name
  pub aliases : List Name

abbrev pub named_type : Node → Option NamedType
named_type (Node.record_of name aliases fields) = Some (record { kind = 0; name = name; aliases = aliases })
named_type (Node.enum name aliases symbols default) = Some (record { kind = 1; name = name; aliases = aliases })
named_type (Node.fixed name aliases count) = Some (record { kind = count + 2; name = name; aliases = aliases })
named_type _ = None

abbrev pub aliases_of : Option NamedType → List Name
aliases_of None = []
aliases_of (Some t) = t.aliases

-- whether two nodes are types that are named alike
abbrev pub types_alike : Option NamedType → Option NamedType → Bool
types_alike None r = false
types_alike (Some t) None = false
types_alike (Some t) (Some u) = are_alike t.name u.name u.aliases

-- the same, if it is known
abbrev pub TellsAlike : Node → Node → Option Bool → Type 0
TellsAlike w r known = IfSome known (λ answer. answer ≡ types_alike (named_type w) (named_type r))

-- whether a type is of the kind of another and is named alike
abbrev pub type_matches : NamedType → Option NamedType → Bool
type_matches t None = false
type_matches t (Some u) = u.kind == t.kind && are_alike t.name u.name u.aliases
