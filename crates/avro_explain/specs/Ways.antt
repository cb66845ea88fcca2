-- The way from the root of a schema to a node, and the two ways to a pair of nodes.
use Rattle.std.specs.Prelude.{◌≡◌, ◌<◌, ℕ, List, [], ◌∷◌, ◌++◌, Option, Some, None, slice_get, option_and_then}
use Rattle.avro_schema.specs.Node.{Node, node_at, field_ids, items_node, values_node, branches_of, fields_of}
use Rattle.avro_compare.specs.declared.comparison.Step.{Step}
use Rattle.avro_explain.specs.declared.found.PathStep.{PathStep}
use Rattle.avro_explain.specs.declared.found.Place.{Place}

-- the node that a step leads to from a node
abbrev pub step_from : Node → PathStep → Option ℕ
step_from n (PathStep.Field k) = option_and_then (λ fields. slice_get (field_ids fields) k) (fields_of n)
step_from n PathStep.Items = items_node n
step_from n PathStep.Values = values_node n
step_from n (PathStep.Branch k) = option_and_then (λ ids. slice_get ids k) (branches_of n)

-- the node that some steps lead to, in order, from the node of an id
abbrev pub follow : List Node → ℕ → List PathStep → Option ℕ
follow nodes id [] = Some id
follow nodes id (s ∷ ss) = option_and_then (λ next. follow nodes next ss) (step_from (node_at nodes id) s)

-- they are a way from the root to a node
abbrev pub IsWay : List Node → List PathStep → ℕ → Type 0
IsWay nodes steps id = follow nodes 0 steps ≡ Some id

-- the steps that a step from pair to pair is in the writer's schema, and in the reader's
abbrev pub writer_steps : Step → List PathStep
writer_steps (Step.Branch k) = PathStep.Branch k ∷ []
writer_steps (Step.Choice k) = []
writer_steps Step.Items = PathStep.Items ∷ []
writer_steps Step.Values = PathStep.Values ∷ []
writer_steps (Step.Field source field) = PathStep.Field source ∷ []

-- the steps that a step from pair to pair is in the reader's schema
abbrev pub reader_steps : Step → List PathStep
reader_steps (Step.Branch k) = []
reader_steps (Step.Choice k) = PathStep.Branch k ∷ []
reader_steps Step.Items = PathStep.Items ∷ []
reader_steps Step.Values = PathStep.Values ∷ []
reader_steps (Step.Field source field) = PathStep.Field field ∷ []

-- The two ways to the place at an index: none to that of the roots, else those to the place before it, and then the step
-- from there.
pub data IsWayTo (places : List Place) : ℕ → List PathStep → List PathStep → Type 0 where
  starts : (k : ℕ) (p : Place) → slice_get places k ≡ Some p → p.from ≡ None → IsWayTo places k [] []
  steps : (k : ℕ) (p : Place) (from : ℕ × Step) (ws rs writer_way reader_way : List PathStep) → slice_get places k ≡ Some p → p.from ≡ Some from → from.0 < k
      → IsWayTo places from.0 ws rs → writer_way ≡ ws ++ writer_steps from.1 → reader_way ≡ rs ++ reader_steps from.1 → IsWayTo places k writer_way reader_way
