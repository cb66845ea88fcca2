-- What fails at pairs of nodes, and where they lead: computed.
use Rattle.std.proofs.Common.{◌≡◌, ℕ, List, [], ◌∷◌, Option, Some, None, refl, codes, pos}
use Rattle.avro_schema.specs.Node.{Node}
use Rattle.avro_schema.specs.Value.{Value}
use Rattle.avro_schema.proofs.public.RowsSchemas.{simply, plain_field, aliased_field, default_field}
use Rattle.avro_explain.specs.Details.{details_of}
use Rattle.avro_compare.specs.Leads.{lead_by, leads_of}
use Rattle.avro_explain.specs.Places.{findings_from}
use Rattle.avro_explain.specs.Ways.{IsWay}
use Rattle.avro_explain.specs.declared.found.Detail.TheVariants.{NoMatch, NoBranch, NotUtf8, NoSymbol, MissingField}
use Rattle.avro_explain.specs.declared.found.PathStep.TheVariants.{Items, Values, Branch}
use Rattle.avro_compare.specs.declared.comparison.Step.{Step}

-- two enums of E, of which the reader's has a symbol of the writer's three, with a default or without
abbrev three : Node
three = Node.enum (simply (codes "E")) [] (codes "A" ∷ codes "B" ∷ codes "C" ∷ []) None

abbrev one : Option ℕ → Node
one default = Node.enum (simply (codes "E")) [] (codes "B" ∷ []) default

each_symbol : details_of (three ∷ []) (one None ∷ []) three (one None) ≡ NoSymbol 0 ∷ NoSymbol 2 ∷ []
each_symbol = refl

no_symbol_of_a_default : details_of (three ∷ []) (one (Some 0) ∷ []) three (one (Some 0)) ≡ []
no_symbol_of_a_default = refl

-- a record of an int, and one of a text, of that int by an alias, of an int with a default, and of an int
abbrev ours : Node
ours = Node.record_of (simply (codes "R")) [] (plain_field (codes "a") 1 ∷ [])

abbrev theirs : Node
theirs = Node.record_of (simply (codes "R")) []
    (plain_field (codes "t") 1 ∷ aliased_field (codes "b") (codes "a" ∷ []) 2 ∷ default_field (codes "d") 3 (Value.int (pos 0)) ∷ plain_field (codes "e") 4 ∷ [])

abbrev writer : List Node
writer = ours ∷ Node.int ∷ []

abbrev reader : List Node
reader = theirs ∷ Node.string ∷ Node.string ∷ Node.int ∷ Node.int ∷ []

each_field : details_of writer reader ours theirs ≡ MissingField 0 ∷ MissingField 3 ∷ []
each_field = refl

-- below a record with a missing field the others are reached
below_a_missing_field : leads_of writer reader 0 0 ours theirs ≡ lead_by (Step.Field 0 1) 1 2 ∷ []
below_a_missing_field = refl

of_both_places : findings_from writer reader 0 (record { w = record { 0 = 0 }; r = record { 0 = 0 }; from = None }
    ∷ record { w = record { 0 = 1 }; r = record { 0 = 2 }; from = Some (0, Step.Field 0 1) } ∷ [])
    ≡ record { place = 0; detail = MissingField 0 } ∷ record { place = 0; detail = MissingField 3 } ∷ record { place = 1; detail = NoMatch } ∷ []
of_both_places = refl

-- other nodes
text_of_bytes : details_of (Node.bytes ∷ []) (Node.string ∷ []) Node.bytes Node.string ≡ NotUtf8 ∷ []
text_of_bytes = refl

no_branch : details_of (Node.int ∷ []) (Node.union (1 ∷ []) ∷ Node.string ∷ []) Node.int (Node.union (1 ∷ [])) ≡ NoBranch ∷ []
no_branch = refl

a_branch : leads_of (Node.int ∷ []) (Node.union (1 ∷ 2 ∷ []) ∷ Node.string ∷ Node.long ∷ []) 0 0 Node.int (Node.union (1 ∷ 2 ∷ [])) ≡ lead_by (Step.Choice 1) 0 2 ∷ []
a_branch = refl

no_fault_of_a_writers_union : details_of (Node.union (1 ∷ []) ∷ Node.int ∷ []) (Node.string ∷ []) (Node.union (1 ∷ [])) Node.string ≡ []
no_fault_of_a_writers_union = refl

-- items that do not match, and the arrays around them
of_arrays : details_of (Node.array 1 ∷ Node.int ∷ []) (Node.array 1 ∷ Node.string ∷ []) (Node.array 1) (Node.array 1) ≡ NoMatch ∷ []
of_arrays = refl

items_of_arrays : leads_of (Node.array 1 ∷ Node.int ∷ []) (Node.array 1 ∷ Node.string ∷ []) 0 0 (Node.array 1) (Node.array 1) ≡ lead_by Step.Items 1 1 ∷ []
items_of_arrays = refl

-- a way through an array of maps of a union
a_way : IsWay (Node.array 1 ∷ Node.map_of 2 ∷ Node.union (3 ∷ 4 ∷ []) ∷ Node.null ∷ Node.int ∷ []) (Items ∷ Values ∷ Branch 1 ∷ []) 4
a_way = refl
