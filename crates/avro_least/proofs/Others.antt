-- The parts of pairs, as the code finds them.
use Rattle.std.proofs.Common.{◌≡◌, ℕ, zero, suc, ◌+◌, ◌<◌, List, [], ◌∷◌, ◌++◌, drop, Option, Some, None, length, get_or, refl, sym, ◌∙◌, ap, arith, slice_get, unwrap_or, option_map, map}
use Rattle.std.proofs.lemmas.List.{drop_more, drop-map, length-map}
use Rattle.std.proofs.lemmas.Option.{slice_get-map}
use Rattle.std.specs.Global.{Vec}
use Rattle.avro_schema.specs.Node.{Node, node_at, field_ids}
use Rattle.avro_schema.specs.Seen.{ids_of, field_of, seen_fields}
use Rattle.avro_schema.specs.declared.schema.NodeId.{NodeId}
use Rattle.avro_schema.specs.declared.schema.Field.{Field}
use Rattle.avro_compare.specs.Children.{Pair}
use Rattle.avro_least.specs.Tables.{Least, LeastTable, ErringTable, together, all_of, no_parts}
use Rattle.avro_least.specs.Asked.{Row, Asked, asked}
use Rattle.avro_least.specs.declared.kept.Least.{Least as KeptLeast}
use Rattle.avro_least.specs.inside.Parts.{least_of_others, nodes_of, parts_of, part_at, row_items, AreOthersOf, AreOthers}
use Rattle.avro_least.proofs.AskedKinds.{asks}
use Rattle.avro_least.proofs.AskedValue.{row_nodes}
use Rattle.avro_least.proofs.RowTotals.{after_nothing, get_each, nothing_alone, together_around}

-- the branch at an index
abbrev pub against : ℕ → ℕ → Option Pair
against r p = Some (record { w = p; r = r })

pub branch_here : (ids : List NodeId) (r k : ℕ) (id : NodeId) → slice_get ids k ≡ Some id → unwrap_or (slice_get (map (against r) (ids_of ids)) k) None ≡ against r id.0
branch_here ids r k id here =
    ap (λ (x : Option (Option Pair)). unwrap_or x None)
    (slice_get-map (against r) (ids_of ids) k ∙ ap (option_map (against r)) (slice_get-map (λ id. id.0) ids k ∙ ap (option_map (λ id. id.0)) here))

-- past the last part there is none
pub part_within : (w r : ℕ) (a : Asked) (k : ℕ) (c : Pair) → part_at w r a k ≡ Some c → k < length (parts_of w r a)
part_within w r a k c is = by_parts (parts_of w r a) k is
  where
    by_parts : (ps : List (Option Pair)) (k : ℕ) → unwrap_or (slice_get ps k) None ≡ Some c → k < length ps
    by_parts [] k e = absurd cc
    by_parts (p ∷ ps) zero e = omega arith
    by_parts (p ∷ ps) (suc k) e = omega (arith, by_parts ps k e)

-- the nodes of the rows that records ask for are those of the writer's fields
pub rows_nodes : (limit : ℕ) (table : LeastTable) (erring : ErringTable) (writer reader : List Node) (n q : Node) (rows : List Row) → Asked.fields rows ≡ asked writer reader n q
    → map (λ row. row.node) rows ≡ nodes_of n
rows_nodes limit table erring writer reader n q rows e =
    let own = asks writer reader n q (Asked.fields rows) e in
    ap (map (λ row. row.node)) own.rows_is ∙ row_nodes limit table erring own.fields own.theirs 0 (field_ids own.fields) ∙ ap nodes_of (sym own.from_is)

-- the ids of the fields from one on
pub field_rest : (fields : List Field) (i : ℕ) (d : Field) → i < length fields
    → drop i (field_ids (seen_fields fields)) ≡ (get_or fields i d).node.0 ∷ drop (i + 1) (field_ids (seen_fields fields))
field_rest fields i d h = ids_drop i ∙ ap (λ (xs : List Field). field_ids (seen_fields xs)) (drop_more fields i d h)
    ∙ ap (λ (ids : List ℕ). (get_or fields i d).node.0 ∷ ids) (sym (ids_drop (i + 1)))
  where
    ids_drop : (n : ℕ) → drop n (field_ids (seen_fields fields)) ≡ field_ids (seen_fields (drop n fields))
    ids_drop n = drop-map (λ f. f.node) n (seen_fields fields) ∙ ap field_ids (drop-map field_of n fields)

pub fields_length : (fields : List Field) → length (field_ids (seen_fields fields)) ≡ length fields
fields_length fields = length-map (seen_fields fields) (λ f. f.node) ∙ length-map fields field_of

-- the least data of all but one: of those before it, and of those behind
module _ (limit : ℕ) (table : LeastTable) where
  pub others_at_first : (ps : List ℕ) → (k : ℕ) → k < length ps → least_of_others limit table ps k ≡ together limit (Some no_parts) (least_of_others limit table ps k)
  others_at_first [] k h = absurd (omega (arith, h))
  others_at_first (p ∷ ps) zero h = sym (all_alone ps)
    where
      all_alone : (qs : List ℕ) → together limit (Some no_parts) (all_of limit table qs) ≡ all_of limit table qs
      all_alone [] = nothing_alone limit
      all_alone (q ∷ qs) = after_nothing limit (table q) (all_of limit table qs)
  others_at_first (p ∷ ps) (suc k) h = sym (after_nothing limit (table p) (least_of_others limit table ps k))

  -- one more before
  pub others_more : (ps : List ℕ) (p : ℕ) (rest : List ℕ) (k : ℕ) (a whole : Option Least) → ps ≡ p ∷ rest → whole ≡ together limit a (least_of_others limit table ps (suc k))
      → whole ≡ together limit (together limit a (table p)) (least_of_others limit table rest k)
  others_more ps p rest k a whole e is = is ∙ ap (λ (xs : List ℕ). together limit a (least_of_others limit table xs (suc k))) e
      ∙ together_around limit a (table p) (least_of_others limit table rest k)

  pub others_here : (ps : List ℕ) (p : ℕ) (rest : List ℕ) (a whole : Option Least) → ps ≡ p ∷ rest → whole ≡ together limit a (least_of_others limit table ps 0)
      → whole ≡ together limit a (all_of limit table rest)
  others_here ps p rest a whole e is = is ∙ ap (λ (xs : List ℕ). together limit a (least_of_others limit table xs 0)) e

-- the entries of all but each, for one node more
pub others_more_nodes : (writer : List Node) (limit : ℕ) (table : LeastTable) (old new : List (Vec (Option KeptLeast))) (row : Vec (Option KeptLeast)) (i : ℕ) → new ≡ old ++ row ∷ [] → length old ≡ i
    → AreOthersOf limit table (nodes_of (node_at writer i)) row.items → AreOthers writer limit table i old → AreOthers writer limit table (i + 1) new
others_more_nodes writer limit table old new row i is count own all p below =
    get_each (λ n o. AreOthersOf limit table (nodes_of (node_at writer n)) (row_items o)) old new row i is count (λ j less. all j less) own p below
