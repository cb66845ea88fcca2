-- Fields without bytes next to one another: where they are within the limits they are passed at once, and elsewhere the first that is not passes one.
use Rattle.std.proofs.Common.{◌≡◌, inl, inr, ◌⊎◌, ℕ, suc, ◌+◌, ◌-◌, ◌^◌, ◌<◌, ◌≤◌, true, nat_lt, List, [], ◌∷◌, ◌++◌, length, take, drop, Some, refl, sym, ap, ◌∙◌, subst, append-nil, append_assoc, arith}
use Rattle.std.specs.List.{concat, list_all}
use Rattle.std.proofs.Math.Seq.{take-add}
use Rattle.std.proofs.lemmas.Bool.{and_parts, and_from}
use Rattle.std.proofs.lemmas.List.{take-append-drop, length-take-le}
use Rattle.std.proofs.lemmas.List.Folds.{concat-append}
use Rattle.avro_schema.specs.Empty.{is_empty, are_empty}
use Rattle.avro_schema.specs.Fits.{fits, fields_fit}
use Rattle.avro_schema.specs.Node.{Node, node_at}
use Rattle.avro_schema.specs.Runs.{StartWithEmpties}
use Rattle.avro_schema.specs.Seen.{values_from}
use Rattle.avro_schema.specs.Value.{Value, Values, no_values, value, size, depth, values_size, values_depth}
use Rattle.avro_schema.specs.WellFormed.{is_schema}
use Rattle.avro_schema.specs.declared.runs.EmptyFields.{EmptyFields}
use Rattle.avro_schema.proofs.public.Choices.{HasFewChoices-from_is_schema}
use Rattle.avro_cursor.specs.Encoding.{Encodes}
use Rattle.avro_cursor.specs.Breaks.{FieldsBreak}
use Rattle.avro_cursor.specs.Fault.{limit_exceeded}
use Rattle.avro_cursor.specs.Seen.{read_fault}
use Rattle.avro_binary.specs.CursorReads.{ReportsFault, limits_at, child_breaks}
use Rattle.avro_cursor.specs.CursorValue.{CursorValue}
use Rattle.avro_cursor.specs.declared.error.ReadError.{ReadError}
use Rattle.avro_cursor.specs.CountsAgain.{CountsAgain}
use Rattle.avro_binary.specs.inside.PassesRun.{FindsEmpties, RefusesEmpties}
use Rattle.avro_binary.proofs.NoFrontItems.{IsSmall}
use Rattle.avro_binary.proofs.NodeSteps.{FieldsDone, field_breaks}
use Rattle.avro_binary.proofs.PartOrFault.{below_or}
use Rattle.avro_binary.proofs.Plain.{Encodes-plain, FieldsSpelled-plain, plain_items, concat-plain_items}
use Rattle.avro_binary.proofs.Repeated.{limit_passed}
use Rattle.avro_binary.proofs.RunLaws.{EachSpelled-append, values_size-append, values_depth-append, values_blob-append}
use Rattle.avro_binary.proofs.RunSteps.{moves-same}
use Rattle.avro_binary.proofs.public.EmptyData.{plain-empty, plain_values-empty, values_longest_blob-empty}

-- ---- Values as a list

abbrev list_of : Values → List Value
list_of no_values = []
list_of (value v vs) = v ∷ list_of vs

from-list_of : (vs : Values) → values_from (list_of vs) ≡ vs
from-list_of no_values = refl
from-list_of (value v vs) = ap (λ ws. value v ws) (from-list_of vs)

fit-length : (nodes : List Node) (ids : List ℕ) (vs : Values) → fields_fit nodes ids vs ≡ true → length (list_of vs) ≡ length ids
fit-length nodes [] no_values h = refl
fit-length nodes [] (value v vs) h = absurd cc
fit-length nodes (id ∷ ids) no_values h = absurd cc
fit-length nodes (id ∷ ids) (value v vs) h = ap suc (fit-length nodes ids vs (and_parts (fits nodes (node_at nodes id) v) (fields_fit nodes ids vs) h).1)

fields_fit-append : (nodes : List Node) (ids more : List ℕ) (vs ws : List Value) → fields_fit nodes ids (values_from vs) ≡ true → fields_fit nodes more (values_from ws) ≡ true
    → fields_fit nodes (ids ++ more) (values_from (vs ++ ws)) ≡ true
fields_fit-append nodes [] more [] ws h k = k
fields_fit-append nodes [] more (v ∷ vs) ws h k = absurd cc
fields_fit-append nodes (p ∷ ids) more [] ws h k = absurd cc
fields_fit-append nodes (p ∷ ids) more (v ∷ vs) ws h k =
    let parts = and_parts (fits nodes (node_at nodes p) v) (fields_fit nodes ids (values_from vs)) h in
    and_from (fits nodes (node_at nodes p) v) (fields_fit nodes (ids ++ more) (values_from (vs ++ ws))) parts.0 (fields_fit-append nodes ids more vs ws parts.1 k)

-- ---- None, and more

pub empties_none : (nodes : List Node) (at : CursorValue) → FindsEmpties nodes [] at at []
empties_none nodes at = record {
  fitting = refl;
  empty = refl;
  deep = omega arith;
  counted = record { nodes = omega arith; depth = refl; bytes = refl; offset = refl; blob = refl };
}

-- fields without bytes after others
pub empties_join : (nodes : List Node) (ids more : List ℕ) (start now after : CursorValue) (vs ws : List Value) → is_schema nodes ≡ true → FieldsDone nodes ids start now vs
    → FindsEmpties nodes more now after ws → FieldsDone nodes (ids ++ more) start after (vs ++ ws)
empties_join nodes ids more start now after vs ws formed done found =
    let items = plain_items (values_from ws) in
    let none : concat items ≡ [] = concat-plain_items (values_from ws) ∙ plain_values-empty (values_from ws) found.empty in
    let counts = found.counted in
    let d = done.moves.depth in
    let b = done.moves.blob in record {
      items = done.items ++ items;
      fitting = fields_fit-append nodes ids more vs ws done.fitting found.fitting;
      spelled = EachSpelled-append vs ws done.items items done.spelled (FieldsSpelled-plain nodes (HasFewChoices-from_is_schema nodes formed) more (values_from ws) found.fitting);
      deep = values_depth-append vs ws start.depth done.deep (let h = found.deep in omega arith);
      many = let m = done.many in let k = counts.nodes in omega (arith, values_size-append vs ws);
      long = values_blob-append vs ws start.blob done.long (let h = values_longest_blob-empty (values_from ws) found.empty in omega arith);
      moves = moves-same start after (concat done.items) (concat (done.items ++ items)) (sym (concat-append done.items items ∙ ap (λ (q : List ℕ). concat done.items ++ q) none ∙ append-nil (concat done.items))) (record {
        split = done.moves.split ∙ ap (λ (r : List ℕ). concat done.items ++ r) (sym counts.bytes);
        offset = counts.offset ∙ done.moves.offset;
        depth = counts.depth ∙ d;
        blob = counts.blob ∙ b;
      });
    }

-- ---- All of a run

pub run_found : (nodes : List Node) (ids : List ℕ) (run : EmptyFields) (before after : CursorValue) (starts : StartWithEmpties nodes ids run) → run.depth ≤ before.depth → CountsAgain before run.nodes after
    → (ws : List Value) × (length ws ≡ run.fields) × FindsEmpties nodes (take run.fields ids) before after ws
run_found nodes ids run before after starts deep counts =
    let vs = starts.data_are in
    let same = from-list_of vs in (
      list_of vs,
      fit-length nodes (take run.fields ids) vs starts.fitting ∙ length-take-le run.fields ids starts.few,
      record {
        fitting = ap (λ (us : Values). fields_fit nodes (take run.fields ids) us) same ∙ starts.fitting;
        empty = ap are_empty same ∙ starts.empty;
        deep = let d = starts.deep in omega (arith, ap values_depth same, d);
        counted = subst (λ (n : ℕ). CountsAgain before n after) (sym (ap values_size same ∙ starts.counted)) counts;
      },
    )

-- ---- The first that is not within the limits

over-limit : (now : CursorValue) (v : Value) → (now.nodes < size v) ⊎ (now.depth < depth v) → IsSmall now.depth now.nodes now.blob v → ⊥
over-limit now v (inl few) small = let fits_in = small.1 in absurd (omega arith)
over-limit now v (inr shallow) small = let fits_in = small.0 in absurd (omega arith)

-- it is this one
first_refused : (nodes : List Node) (id : ℕ) (ids : List ℕ) (v : Value) (now : CursorValue) (e : ReadError) → is_schema nodes ≡ true → list_all (λ b. nat_lt b 256) now.bytes ≡ true
    → now.nodes < 2 ^ 32 → now.blob < 2 ^ 32 → read_fault e ≡ Some limit_exceeded → fits nodes (node_at nodes id) v ≡ true → is_empty v ≡ true
    → (now.nodes < size v) ⊎ (now.depth < depth v) → RefusesEmpties nodes (id ∷ ids) now e
first_refused nodes id ids v now e formed are few small fault fitting empty over =
    let encodes : Encodes nodes (node_at nodes id) v [] = subst (λ (bytes : List ℕ). Encodes nodes (node_at nodes id) v bytes) (plain-empty v empty) (Encodes-plain nodes id v formed fitting) in record {
      passed = [];
      field = id;
      after = ids;
      ids_are = refl;
      vs = [];
      then_at = now;
      found = empties_none nodes now;
      reported = rw fault (limit_exceeded, limit_passed nodes (limits_at now) id v now.bytes formed are few (omega (arith, small)) encodes (over-limit now v over), refl);
    }

-- a cursor that has passed a datum without bytes
abbrev less : CursorValue → ℕ → CursorValue
less now n = record now { nodes = now.nodes - n }

-- it is a later one
later_refused : (nodes : List Node) (id : ℕ) (ids : List ℕ) (v : Value) (now : CursorValue) (e : ReadError) → fits nodes (node_at nodes id) v ≡ true → is_empty v ≡ true
    → size v ≤ now.nodes → depth v ≤ now.depth → RefusesEmpties nodes ids (less now (size v)) e → RefusesEmpties nodes (id ∷ ids) now e
later_refused nodes id ids v now e fitting empty many deep later =
    let found = later.found in
    let counts = found.counted in record {
      passed = id ∷ later.passed;
      field = later.field;
      after = later.after;
      ids_are = ap (λ (ps : List ℕ). id ∷ ps) later.ids_are;
      vs = v ∷ later.vs;
      then_at = later.then_at;
      found = record {
        fitting = and_from (fits nodes (node_at nodes id) v) (fields_fit nodes later.passed (values_from later.vs)) fitting found.fitting;
        empty = and_from (is_empty v) (are_empty (values_from later.vs)) empty found.empty;
        deep = let d = found.deep in omega arith;
        counted = record {
          nodes = let n = counts.nodes in omega arith;
          depth = counts.depth;
          bytes = counts.bytes;
          offset = counts.offset;
          blob = counts.blob;
        };
      };
      reported = later.reported;
    }

over-later : (v : Value) (vs : Values) (nodes_left depth_left : ℕ) → (nodes_left < size v + values_size vs) ⊎ (depth_left < values_depth (value v vs)) → size v ≤ nodes_left → depth v ≤ depth_left
    → (nodes_left - size v < values_size vs) ⊎ (depth_left < values_depth vs)
over-later v vs nodes_left depth_left (inl few) many deep = inl (omega arith)
over-later v vs nodes_left depth_left (inr shallow) many deep = inr (omega arith)

all_refused : (nodes : List Node) (ids : List ℕ) (vs : Values) (now : CursorValue) (e : ReadError) → is_schema nodes ≡ true → list_all (λ b. nat_lt b 256) now.bytes ≡ true
    → now.nodes < 2 ^ 32 → now.blob < 2 ^ 32 → read_fault e ≡ Some limit_exceeded → fields_fit nodes ids vs ≡ true → are_empty vs ≡ true
    → (now.nodes < values_size vs) ⊎ (now.depth < values_depth vs) → RefusesEmpties nodes ids now e
all_refused nodes ids no_values now e formed are few small fault fitting empty (inl over) = absurd (omega arith)
all_refused nodes ids no_values now e formed are few small fault fitting empty (inr over) = absurd (omega arith)
all_refused nodes [] (value v vs) now e formed are few small fault fitting empty over = absurd cc
all_refused nodes (id ∷ ids) (value v vs) now e formed are few small fault fitting empty over =
    let fit = and_parts (fits nodes (node_at nodes id) v) (fields_fit nodes ids vs) fitting in
    let none = and_parts (is_empty v) (are_empty vs) empty in
    elim (below_or now.nodes (size v)) as (λ _. RefusesEmpties nodes (id ∷ ids) now e) [
      | inl below ↦ first_refused nodes id ids v now e formed are few small fault fit.0 none.0 (inl below)
      | inr many ↦
          elim (below_or now.depth (depth v)) as (λ _. RefusesEmpties nodes (id ∷ ids) now e) [
            | inl shallow ↦ first_refused nodes id ids v now e formed are few small fault fit.0 none.0 (inr shallow)
            | inr deep ↦
                later_refused nodes id ids v now e fit.0 none.0 many deep
                (all_refused nodes ids vs (less now (size v)) e formed are (omega (arith, few)) small fault fit.1 none.1 (over-later v vs now.nodes now.depth over many deep))
          ]
    ]

-- a run that is not within what is left
pub run_refused : (nodes : List Node) (ids : List ℕ) (run : EmptyFields) (before : CursorValue) (e : ReadError) → is_schema nodes ≡ true → StartWithEmpties nodes ids run
    → list_all (λ b. nat_lt b 256) before.bytes ≡ true → before.nodes < 2 ^ 32 → before.blob < 2 ^ 32
    → (read_fault e ≡ Some limit_exceeded) × ((before.nodes < run.nodes) ⊎ (before.depth < run.depth)) → RefusesEmpties nodes ids before e
run_refused nodes ids run before e formed starts are few small refused =
    let over = subst (λ (d : ℕ). (before.nodes < values_size starts.data_are) ⊎ (before.depth < d)) (sym starts.deep) (subst (λ (n : ℕ). (before.nodes < n) ⊎ (before.depth < run.depth)) (sym starts.counted) refused.1) in
    let all = all_refused nodes (take run.fields ids) starts.data_are before e formed are few small refused.0 starts.fitting starts.empty over in record {
      passed = all.passed;
      field = all.field;
      after = all.after ++ drop run.fields ids;
      ids_are = sym (take-append-drop run.fields ids) ∙ ap (λ (ps : List ℕ). ps ++ drop run.fields ids) all.ids_are ∙ append_assoc all.passed (all.field ∷ all.after) (drop run.fields ids);
      vs = all.vs;
      then_at = all.then_at;
      found = all.found;
      reported = all.reported;
    }

-- ---- Behind the fields before

-- the fields before an index, and a run from there
pub run_passed : (nodes : List Node) (ids : List ℕ) (i count : ℕ) (start now after : CursorValue) (vs ws : List Value) → is_schema nodes ≡ true → FieldsDone nodes (take i ids) start now vs → length vs ≡ i
    → FindsEmpties nodes (take count (drop (length vs) ids)) now after ws → FieldsDone nodes (take (i + count) ids) start after (vs ++ ws)
run_passed nodes ids i count start now after vs ws formed done counted found =
    subst (λ (ps : List ℕ). FieldsDone nodes ps start after (vs ++ ws)) (ap (λ (k : ℕ). take i ids ++ take count (drop k ids)) counted ∙ sym (take-add i count ids))
    (empties_join nodes (take i ids) (take count (drop (length vs) ids)) start now after vs ws formed done found)

-- the same where the run is empty
pub none_passed : (nodes : List Node) (ids : List ℕ) (i count : ℕ) (start now after : CursorValue) (vs ws : List Value) → is_schema nodes ≡ true → FieldsDone nodes (take i ids) start now vs → length vs ≡ i
    → FindsEmpties nodes (take count (drop (length vs) ids)) now after ws → count ≡ 0 → FieldsDone nodes (take i ids) start after (vs ++ ws)
none_passed nodes ids i count start now after vs ws formed done counted found none =
    let same : i + count ≡ i = omega (arith, none) in
    subst (λ (k : ℕ). FieldsDone nodes (take k ids) start after (vs ++ ws)) same (run_passed nodes ids i count start now after vs ws formed done counted found)

-- or one of the run breaks
pub run_breaks_off : (nodes : List Node) (ids : List ℕ) (i : ℕ) (start now : CursorValue) (vs : List Value) (e : ReadError) → is_schema nodes ≡ true → FieldsDone nodes (take i ids) start now vs
    → RefusesEmpties nodes (drop i ids) now e → ReportsFault (FieldsBreak nodes (limits_at start) (child_breaks nodes (limits_at start)) ids) start e
run_breaks_off nodes ids i start now vs e formed done refused =
    let are = sym (take-append-drop i ids) ∙ ap (λ (ps : List ℕ). take i ids ++ ps) refused.ids_are ∙ sym (append_assoc (take i ids) refused.passed (refused.field ∷ refused.after)) in
    field_breaks nodes (take i ids ++ refused.passed) start refused.then_at (vs ++ refused.vs) (empties_join nodes (take i ids) refused.passed start now refused.then_at vs refused.vs formed done refused.found)
    ids refused.after refused.field are e refused.reported
