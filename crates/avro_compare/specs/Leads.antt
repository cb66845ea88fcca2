-- Where a pair of nodes leads, and by which steps.
use Rattle.std.specs.Prelude.{ℕ, suc, List, [], ◌∷◌, ◌++◌, Option, Some, None, slice_get, unwrap_or}
use Rattle.avro_schema.specs.Node.{Node, FieldNode, node_at, field_ids}
use Rattle.avro_compare.specs.Match.{first_match}
use Rattle.avro_compare.specs.Children.{Pair}
use Rattle.avro_compare.specs.Source.{source_of}
use Rattle.avro_compare.specs.declared.comparison.Lead.{Lead}
use Rattle.avro_compare.specs.declared.comparison.Step.{Step}
use Rattle.avro_compare.specs.declared.comparison.Step.TheVariants.{Branch, Choice, Items, Values, Field}

-- a step to a pair of nodes
abbrev pub lead_by : Step → ℕ → ℕ → Lead
lead_by step w r = record { step = step; w = record { 0 = w }; r = record { 0 = r } }

-- each branch of a writer's union, from an index on, with the same reader's node
abbrev pub branch_leads : ℕ → ℕ → List ℕ → List Lead
branch_leads index r [] = []
branch_leads index r (id ∷ ids) = lead_by (Branch index) id r ∷ branch_leads (suc index) r ids

-- the same writer's node with the first branch of a reader's union that matches
abbrev pub choice_leads : ℕ → List ℕ → Option ℕ → List Lead
choice_leads w ids None = []
choice_leads w ids (Some k) = lead_by (Choice k) w (unwrap_or (slice_get ids k) 0) ∷ []

-- the reader's fields, from an index on, each with its source
abbrev pub field_lead : ℕ → List FieldNode → FieldNode → Option ℕ → List Lead
field_lead index fields f None = []
field_lead index fields f (Some source) = lead_by (Field source index) (unwrap_or (slice_get (field_ids fields) source) 0) f.node ∷ []

-- the same of each of the reader's fields, in order
abbrev pub field_leads : ℕ → List FieldNode → List FieldNode → List Lead
field_leads index fields [] = []
field_leads index fields (f ∷ theirs) = field_lead index fields f (source_of fields f) ++ field_leads (suc index) fields theirs

-- the parts of two nodes that are no unions, also where the nodes do not match
abbrev pub leads_inside : Node → Node → List Lead
leads_inside (Node.record_of a xs fields) (Node.record_of b ys theirs) = field_leads 0 fields theirs
leads_inside (Node.array a) (Node.array b) = lead_by Items a b ∷ []
leads_inside (Node.map_of a) (Node.map_of b) = lead_by Values a b ∷ []
leads_inside n q = []

-- the pairs that a pair of nodes leads to, each with its step: a branch of either union, items, values, or a field and
-- its source
abbrev pub leads_of : List Node → List Node → ℕ → ℕ → Node → Node → List Lead
leads_of writer reader w r (Node.union ids) q = branch_leads 0 r ids
leads_of writer reader w r n (Node.union ids) = choice_leads w ids (first_match writer reader n ids)
leads_of writer reader w r n q = leads_inside n q

-- the same of the nodes of two ids
abbrev pub leads_at : List Node → List Node → ℕ → ℕ → List Lead
leads_at writer reader w r = leads_of writer reader w r (node_at writer w) (node_at reader r)

-- the pair of a lead
abbrev pub lead_pair : Lead → Pair
lead_pair lead = record { w = lead.w.0; r = lead.r.0 }
