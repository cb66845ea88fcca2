-- Runs of fields whose data take no bytes.
use Rattle.std.proofs.Common.{◌≡◌, ℕ, zero, suc, ◌+◌, ◌≤◌, ◌<◌, max, Option, true, ◌&&◌, List, [], ◌∷◌, ◌++◌, Some, ap, sym, subst, ◌∙◌, arith}
use Rattle.std.proofs.Math.ListN.{get_or}
use Rattle.std.proofs.lemmas.List.{drop-map, drop_more}
use Rattle.std.proofs.lemmas.Option.{slice_get-map, slice_get-get_or}
use Rattle.std.specs.Global.{Vec}
use Rattle.std.specs.Prelude.{length, nat_le, slice_get, take, drop, option_map, unwrap_or}
use Rattle.std.proofs.lemmas.Bool.{and_parts}
use Rattle.std.proofs.lemmas.Bool.Decides.{nat_tests}
use Rattle.avro_schema.specs.Empties.{empty_datum, empty_parts, has_measure, have_measure}
use Rattle.avro_schema.specs.Node.{Node, node_at, field_ids}
use Rattle.avro_schema.specs.Runs.{AreAllRuns, AreRuns, StartWithEmpties, ids_at, is_run}
use Rattle.avro_schema.specs.Seen.{field_of, node_of, nodes_of, seen_fields}
use Rattle.avro_schema.specs.declared.schema.Field.{Field}
use Rattle.avro_schema.specs.declared.schema.Node.{Node as KeptNode}
use Rattle.avro_schema.specs.declared.runs.EmptyFields.{EmptyFields}
use Rattle.avro_schema.proofs.EmptyData.{all_measured, one_more, parts_shown}

low : (a b : ℕ) → nat_le a b ≡ true → a ≤ b
low a b h = grind (arith, nat_tests)

is_low : (a b : ℕ) → a ≤ b → nat_le a b ≡ true
is_low a b h = grind (arith, nat_tests)

-- one more field before a run
pub longer : (nodes : List Node) (id : ℕ) (ids : List ℕ) (count levels : ℕ) (others all : EmptyFields)
    → has_measure count levels (empty_datum levels nodes (node_at nodes id)) ≡ true → is_run nodes ids others ≡ true
    → all.fields ≡ suc others.fields → all.nodes ≡ count + others.nodes → all.depth ≡ max levels others.depth
    → is_run nodes (id ∷ ids) all ≡ true
longer nodes id ids count levels others all first run fields sums deeper =
    let parts = and_parts (nat_le others.fields (length ids)) (have_measure others.nodes others.depth (empty_parts (λ i. empty_datum others.depth nodes (node_at nodes i)) (take others.fields ids))) run in
    let more = one_more nodes id (take others.fields ids) count levels others.nodes others.depth all.nodes all.depth first parts.1 sums deeper in
    let few = is_low (suc others.fields) (suc (length ids)) (omega (arith, low others.fields (length ids) parts.0)) in
    subst (λ (f : ℕ). nat_le f (suc (length ids)) && have_measure all.nodes all.depth (empty_parts (λ i. empty_datum all.depth nodes (node_at nodes i)) (take f (id ∷ ids))) ≡ true)
    (sym fields) (rw (few) more)

-- what holds of each of a list's entries at its index, and of one more behind them
behind : {A : Type 0} (P : ℕ → A → Type 0) (xs : List A) (last : A) → ((k : ℕ) (x : A) → slice_get xs k ≡ Some x → P k x) → P (length xs) last
    → (k : ℕ) (x : A) → slice_get (xs ++ last ∷ []) k ≡ Some x → P k x
behind P [] last all is zero x at =
    let same : last ≡ x = cc in
    subst (P zero) same is
behind P [] last all is (suc k) x at = cc
behind P (y ∷ ys) last all is zero x at = all zero x at
behind P (y ∷ ys) last all is (suc k) x at = behind (λ i z. P (suc i) z) ys last (λ i z h. all (suc i) z h) is k x at

-- what a run says of its fields
pub run_shown : (nodes : List Node) (ids : List ℕ) (run : EmptyFields) → is_run nodes ids run ≡ true → StartWithEmpties nodes ids run
run_shown nodes ids run h =
    let parts = and_parts (nat_le run.fields (length ids)) (have_measure run.nodes run.depth (empty_parts (λ i. empty_datum run.depth nodes (node_at nodes i)) (take run.fields ids))) h in
    let all = all_measured run.nodes run.depth (empty_parts (λ i. empty_datum run.depth nodes (node_at nodes i)) (take run.fields ids)) parts.1 in
    let fit = parts_shown run.depth nodes (take run.fields ids) all.data_are all.found in
    record { few = low run.fields (length ids) parts.0; data_are = all.data_are; fitting = fit.0; empty = fit.1; counted = all.many; deep = all.deep }

-- the ids of the fields from one on
pub ids_from : (fields : List Field) (i : ℕ) (d : Field) → i < length fields
    → drop i (field_ids (seen_fields fields)) ≡ (get_or fields i d).node.0 ∷ drop (i + 1) (field_ids (seen_fields fields))
ids_from fields i d h = ids_drop i ∙ ap (λ (xs : List Field). field_ids (seen_fields xs)) (drop_more fields i d h)
    ∙ ap (λ (ids : List ℕ). (get_or fields i d).node.0 ∷ ids) (sym (ids_drop (i + 1)))
  where
    ids_drop : (n : ℕ) → drop n (field_ids (seen_fields fields)) ≡ field_ids (seen_fields (drop n fields))
    ids_drop n = drop-map (λ f. f.node) n (seen_fields fields) ∙ ap field_ids (drop-map field_of n fields)

-- the node at an index
pub node_here : (ns : List KeptNode) (i : ℕ) (d : KeptNode) → i < length ns → node_of (get_or ns i d) ≡ node_at (nodes_of ns) i
node_here ns i d h =
    sym (ap (λ (o : Option Node). unwrap_or o Node.null) (slice_get-map node_of ns i ∙ ap (option_map node_of) (slice_get-get_or ns i d h)))

-- one more list, for the next node
pub list_behind : (nodes : List Node) (lists : List (Vec EmptyFields)) (runs : Vec EmptyFields) → AreAllRuns nodes lists
    → AreRuns nodes (ids_at (node_at nodes (length lists))) runs.items → AreAllRuns nodes (lists ++ runs ∷ [])
list_behind nodes lists runs are last = behind (λ i found. AreRuns nodes (ids_at (node_at nodes i)) found.items) lists runs are last
