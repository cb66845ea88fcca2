-- What is built of each thing that a pair may ask for.
use Rattle.std.proofs.Common.{◌≡◌, ℕ, suc, ◌+◌, ◌≤◌, ◌<◌, Bool, true, false, List, [], ◌∷◌, ◌++◌, Option, Some, None, inl, inr, length, drop, refl, sym, ◌∙◌, ap, subst, arith, slice_get, is_some, max, option_map, map, ◌==◌}
use Rattle.std.proofs.lemmas.Bool.{and_from, false≢true, true≢false, eq-eqb, ne_eqb}
use Rattle.std.proofs.lemmas.Option.{slice_get_within}
use Rattle.avro_schema.specs.Value.{Value, value, size, depth, values_size, values_depth}
use Rattle.avro_schema.specs.Seen.{values_from}
use Rattle.avro_schema.specs.Node.{Node, FieldNode, node_at, branches_of, field_ids}
use Rattle.avro_schema.specs.Fits.{fits, fields_fit}
use Rattle.avro_schema.proofs.public.Choices.{HasFewChoices-from_is_schema}
use Rattle.avro_compare.specs.Source.{reader_field}
use Rattle.avro_compare.specs.Resolve.{resolve, resolve_sources}
use Rattle.avro_compare.specs.Children.{Pair}
use Rattle.avro_least.specs.Tables.{Least, LeastTable, ErringTable, IsWithin, count_of, around, together, best_of, all_of, no_parts, one}
use Rattle.avro_least.specs.Asked.{Row, Asked, rows_from, asked, err_of_row, err_of_rows, asked_value}
use Rattle.avro_least.specs.inside.Built.{Builds}
use Rattle.avro_least.specs.BuiltErrors.{BuildsLone, part_value, IsErringOf, AreExact, BuildsError, BuildsAsked, BuildsRow, BuildsRows, part_of_row, total_from}
use Rattle.avro_certificate.proofs.public.Shapes.{plain_branch}
use Rattle.avro_least.proofs.public.ShownData.{lesser_either}
use Rattle.avro_certificate.proofs.public.Resolving.{slice_get_of_drop, drop_more}
use Rattle.avro_least.proofs.Building.{around_is, together_is}
use Rattle.avro_least.proofs.Built.{few_branches}
use Rattle.avro_least.proofs.BuiltErrors.{built_errs, into_errs, part_errs}
use Rattle.avro_least.proofs.RowTotals.{past}
use Rattle.avro_least.proofs.public.Keys.{some_same}
use Rattle.avro_least.proofs.AskedKinds.{IsRecords, asks}
use Rattle.avro_least.specs.inside.Parts.{PartsPass, RowsPass, row_part}
use Rattle.avro_least.proofs.AtMostParts.{branch_part}
use Rattle.avro_certificate.proofs.public.FaultyResults.{IsFault, the_fault, is_fault, fault_inside, fault_later, field_faults, record_faults}

-- an entry within the limit
the_entry : (limit : ℕ) (o : Option Least) → IsWithin limit o → (e : Least) × (o ≡ Some e) × (e.nodes ≤ limit)
the_entry limit None h = absurd h
the_entry limit (Some e) h = (e, refl, h)

-- a node around
around_numbers : (e b : Least) (s d : ℕ) → Some (record { nodes = s; depth = d }) ≡ Some b → e.nodes ≡ suc b.nodes → e.depth ≡ suc b.depth
    → e ≡ record { nodes = suc s; depth = suc d }
around_numbers e b s d same n l =
    let is : record { nodes = s; depth = d } ≡ b = some_same (record { nodes = s; depth = d }) b same in
    λ i. record { nodes = (n ∙ ap (λ (x : Least). suc x.nodes) (sym is)) i; depth = (l ∙ ap (λ (x : Least). suc x.depth) (sym is)) i }

numbers_of : (e : Least) (s d : ℕ) → s ≡ e.nodes → d ≡ e.depth → e ≡ record { nodes = s; depth = d }
numbers_of e s d n l = λ i. record { nodes = sym n i; depth = sym l i }

module _ (writer reader : List Node) (limit : ℕ) (table : LeastTable) (erring : ErringTable) where
  -- what the pair asks for comes to its entry
  step_of : (known : Pair → Bool) → AreExact writer reader limit table erring known → (w r : ℕ) (a : Asked) → a ≡ asked writer reader (node_at writer w) (node_at reader r)
      → known (record { w = w; r = r }) ≡ true → IsWithin limit (erring w r) → asked_value limit table erring w r a ≡ erring w r
  step_of known ex w r a is kn within = subst (λ (x : Asked). asked_value limit table erring w r x ≡ erring w r) (sym is) (ex.exact w r kn within)

  closed_of : (known : Pair → Bool) → AreExact writer reader limit table erring known → (w r : ℕ) (a : Asked) → a ≡ asked writer reader (node_at writer w) (node_at reader r)
      → known (record { w = w; r = r }) ≡ true → IsWithin limit (erring w r) → PartsPass known w r a
  closed_of known ex w r a is kn within = subst (λ (x : Asked). PartsPass known w r x) (sym is) (ex.closed w r kn within)

  pub whole_builds : (left w r : ℕ) (v : Value) → Builds writer table left w v → BuildsAsked writer reader limit table erring left w r Asked.whole v
  whole_builds left w r v b ns is known ex kn within few =
      let step : table w ≡ erring w r = step_of known ex w r Asked.whole is kn within in
      let least = b limit ex.formed ex.low ex.shown (subst (λ (o : Option Least). IsWithin limit o) (sym step) within)
      (subst (λ (o : Option Least). count_of o ≤ left) (sym step) few) in
      record {
        fitting = least.fitting;
        faulty = the_fault (resolve writer reader (node_at writer w) (node_at reader r) v) (asks writer reader (node_at writer w) (node_at reader r) Asked.whole is v least.fitting);
        numbers = sym step ∙ least.numbers;
      }

  pub lone_builds : (left w r : ℕ) (v : Value) → BuildsLone writer reader w r v → BuildsAsked writer reader limit table erring left w r Asked.lone v
  lone_builds left w r v own ns is known ex kn within few =
      let step : Some one ≡ erring w r = step_of known ex w r Asked.lone is kn within in
      let errs = built_errs writer reader (node_at writer w) (node_at reader r) v (HasFewChoices-from_is_schema writer ex.formed w) is (own is) in
      record {
        fitting = errs.fitting;
        faulty = the_fault (resolve writer reader (node_at writer w) (node_at reader r) v) errs.faulty;
        numbers = sym step ∙ ap Some (numbers_of one (size v) (depth v) errs.nodes_is errs.depth_is);
      }

  pub part_builds : (left less w r a b : ℕ) (v : Value) → left ≤ suc less → BuildsError writer reader limit table erring less a b v
      → BuildsAsked writer reader limit table erring left w r (Asked.part a b) (part_value (node_at writer w) v)
  part_builds left less w r a b v more h ns is known ex kn within few =
      let step : around limit (erring a b) ≡ erring w r = step_of known ex w r (Asked.part a b) is kn within in
      let found = the_entry limit (erring w r) within in
      let inner = around_is limit (erring a b) found.0 (step ∙ found.1) found.2 in
      let child = closed_of known ex w r (Asked.part a b) is kn within 0 (record { w = a; r = b }) refl in
      let all : found.0.nodes ≤ left = subst (λ (o : Option Least). count_of o ≤ left) found.1 few in
      let part = h known ex child (subst (λ (o : Option Least). IsWithin limit o) (sym inner.is) (omega (arith, found.2, inner.nodes)))
      (subst (λ (o : Option Least). count_of o ≤ less) (sym inner.is) (omega (arith, all, more, inner.nodes))) in
      let errs = part_errs writer reader (node_at writer w) (node_at reader r) a b v is part.fitting
      (is_fault (resolve writer reader (node_at writer a) (node_at reader b) v) part.faulty.0 part.faulty.1) in
      record {
        fitting = errs.fitting;
        faulty = the_fault (resolve writer reader (node_at writer w) (node_at reader r) (part_value (node_at writer w) v)) errs.faulty;
        numbers = found.1 ∙ ap Some (around_numbers found.0 inner.inner (size v) (depth v) (sym part.numbers ∙ inner.is) inner.nodes inner.depth
            ∙ (λ i. record { nodes = sym errs.nodes_is i; depth = sym errs.depth_is i }));
      }

  -- a writer's union
  branch_errs : (n q : Node) (ids : List ℕ) (k p : ℕ) (v : Value) → n ≡ Node.union ids → slice_get ids k ≡ Some p → fits writer (node_at writer p) v ≡ true
      → IsFault (resolve writer reader (node_at writer p) q v) → (fits writer n (Value.union k v) ≡ true) × IsFault (resolve writer reader n q (Value.union k v))
  branch_errs n q ids k p v is here fit f = subst (λ (m : Node). (fits writer m (Value.union k v) ≡ true) × IsFault (resolve writer reader m q (Value.union k v))) (sym is)
      (rw here fit, rw here (fault_inside 0 (resolve writer reader (node_at writer p) q v) f))

  pub branches_builds : (left less w r : ℕ) (ids : List ℕ) (k : ℕ) (v whole : Value) → left ≤ suc less → (k < 4294967296 → whole ≡ Value.union k v)
      → (is_some (best_of (λ p. erring p r) ids) ≡ true
      → (p : ℕ) × (slice_get ids k ≡ Some p) × (erring p r ≡ best_of (λ p. erring p r) ids) × BuildsError writer reader limit table erring less p r v)
      → BuildsAsked writer reader limit table erring left w r (Asked.branches ids) whole
  branches_builds left less w r ids k v whole more made found ns is known ex kn within few =
      let step : around limit (best_of (λ p. erring p r) ids) ≡ erring w r = step_of known ex w r (Asked.branches ids) is kn within in
      let entry = the_entry limit (erring w r) within in
      let inner = around_is limit (best_of (λ p. erring p r) ids) entry.0 (step ∙ entry.1) entry.2 in
      let best = found (subst (λ (o : Option Least). is_some o ≡ true) (sym inner.is) refl) in
      let same : erring best.0 r ≡ Some inner.inner = best.2 ∙ inner.is in
      let all : entry.0.nodes ≤ left = subst (λ (o : Option Least). count_of o ≤ left) entry.1 few in
      let child = closed_of known ex w r (Asked.branches ids) is kn within k (record { w = best.0; r = r }) (branch_part w r ids k best.0 best.1) in
      let part = best.3 known ex child (subst (λ (o : Option Least). IsWithin limit o) (sym same) (omega (arith, entry.2, inner.nodes)))
      (subst (λ (o : Option Least). count_of o ≤ less) (sym same) (omega (arith, all, more, inner.nodes))) in
      let node : node_at writer w ≡ Node.union ids = asks writer reader (node_at writer w) (node_at reader r) (Asked.branches ids) is in
      let small = few_branches writer ex.formed w ids node in
      let whole_is : whole ≡ Value.union k v = made (omega (arith, slice_get_within ids k best.0 best.1, small)) in
      let errs = branch_errs (node_at writer w) (node_at reader r) ids k best.0 v node best.1 part.fitting
      (is_fault (resolve writer reader (node_at writer best.0) (node_at reader r) v) part.faulty.0 part.faulty.1) in
      subst (λ (x : Value). IsErringOf writer reader erring w r x) (sym whole_is) (record {
        fitting = errs.0;
        faulty = the_fault (resolve writer reader (node_at writer w) (node_at reader r) (Value.union k v)) errs.1;
        numbers = entry.1 ∙ ap Some (around_numbers entry.0 inner.inner (size v) (depth v) (sym part.numbers ∙ same) inner.nodes inner.depth);
      })

  pub same_builds : (left w r q : ℕ) (v : Value) → Asked.same q ≡ asked writer reader (node_at writer w) (node_at reader r)
      → BuildsError writer reader limit table erring left w q v → BuildsError writer reader limit table erring left w r v
  same_builds left w r q v is h known ex kn within few =
      let step : erring w q ≡ erring w r = step_of known ex w r (Asked.same q) is kn within in
      let into = asks writer reader (node_at writer w) (node_at reader r) (Asked.same q) is in
      let plain : branches_of (node_at reader q) ≡ None = plain_branch reader r into.ids into.branch q ex.theirs into.is into.here in
      let child = closed_of known ex w r (Asked.same q) is kn within 0 (record { w = w; r = q }) refl in
      let part = h known ex child (subst (λ (o : Option Least). IsWithin limit o) (sym step) within) (subst (λ (o : Option Least). count_of o ≤ left) (sym step) few) in
      record {
        fitting = part.fitting;
        faulty = the_fault (resolve writer reader (node_at writer w) (node_at reader r) v)
            (into_errs writer reader (node_at writer w) (node_at reader r) into.ids into.branch q v into.plain into.is into.first into.here plain part.fitting
            (is_fault (resolve writer reader (node_at writer w) (node_at reader q) v) part.faulty.0 part.faulty.1));
        numbers = sym step ∙ part.numbers;
      }

  -- some field's total is the best
  pub some_total : (i : ℕ) (rows : List Row) (e : Least) → err_of_rows limit table erring rows ≡ Some e → e.nodes ≤ limit
      → (k : ℕ) × (k < length rows) × (total_from limit table erring (i + k) i rows ≡ Some e)
  some_total i [] e is few = absurd (grind arith)
  some_total i (row ∷ rows) e is few =
      elim (lesser_either (together limit (err_of_row erring row) (all_of limit table (map (λ r. r.node) rows)))
      (together limit (table row.node) (err_of_rows limit table erring rows)) (subst (λ (o : Option Least). is_some o ≡ true) (sym is) refl)) [
        | inl first ↦
            let at : (i == i + 0) ≡ true = eq-eqb i (i + 0) (omega arith) in
            (0, omega arith, rw (at, past limit table erring (i + 0) (suc i) rows (omega arith)) (sym first.1 ∙ is))
        | inr later ↦
            let both = together_is limit (table row.node) (err_of_rows limit table erring rows) e (sym later.1 ∙ is) few in
            let rest = some_total (suc i) rows both.second both.second_is (omega (arith, few, both.nodes)) in
            let at : (i == i + suc rest.0) ≡ false = ne_eqb i (i + suc rest.0) (λ h. omega (arith, h)) in
            let moved : total_from limit table erring (i + suc rest.0) (suc i) rows ≡ err_of_rows limit table erring rows =
            subst (λ (n : ℕ). total_from limit table erring n (suc i) rows ≡ err_of_rows limit table erring rows) (omega arith) (rest.2 ∙ sym both.second_is) in
            (suc rest.0, omega (arith, rest.1), rw (at, moved) (sym later.1 ∙ is))
      ]

  -- the fields, of which the chosen one errs
  record RowsErr (fields theirs : List FieldNode) (index k : ℕ) (ps : List ℕ) (vs : List Value) (e : Least) : Type 0 where
    fitting : fields_fit writer ps (values_from vs) ≡ true
    nodes_is : values_size (values_from vs) ≡ e.nodes
    depth_is : values_depth (values_from vs) ≡ e.depth
    faulty : index ≤ k → k < index + length ps → IsFault (resolve_sources writer reader fields theirs index (values_from vs))

  -- one field
  record RowIs (fields theirs : List FieldNode) (index : ℕ) (chosen : Bool) (p : ℕ) (v : Value) (e : Least) : Type 0 where
    fitting : fits writer (node_at writer p) v ≡ true
    numbers : record { nodes = size v; depth = depth v } ≡ e
    faulty : chosen ≡ true → (f : FieldNode) × (reader_field fields theirs index ≡ Some f) × IsFault (resolve writer reader (node_at writer p) (node_at reader f.node) v)

  module _ (known : Pair → Bool) (ex : AreExact writer reader limit table erring known) (less : ℕ) where
    row_is : (fields theirs : List FieldNode) (index : ℕ) (chosen : Bool) (p : ℕ) (v : Value) (e : Least) → (o : Option FieldNode) → reader_field fields theirs index ≡ o
        → BuildsRow writer reader limit table erring less chosen (record { node = p; theirs = option_map (λ f. f.node) o }) v
        → ((c : Pair) → row_part (record { node = p; theirs = option_map (λ f. f.node) o }) ≡ Some c → known c ≡ true)
        → part_of_row table erring chosen (record { node = p; theirs = option_map (λ f. f.node) o }) ≡ Some e → e.nodes ≤ limit → e.nodes ≤ less
        → RowIs fields theirs index chosen p v e
    row_is fields theirs index true p v e None found b kn is few small = absurd (grind arith)
    row_is fields theirs index true p v e (Some f) found b kn is few small =
        let own = b.errs refl f.node refl known ex (kn (record { w = p; r = f.node }) refl)
        (subst (λ (o : Option Least). IsWithin limit o) (sym is) few) (subst (λ (o : Option Least). count_of o ≤ less) (sym is) small) in
        record {
          fitting = own.fitting;
          numbers = some_same (record { nodes = size v; depth = depth v }) e (sym own.numbers ∙ is);
          faulty = λ t. (f, found, is_fault (resolve writer reader (node_at writer p) (node_at reader f.node) v) own.faulty.0 own.faulty.1);
        }
    row_is fields theirs index false p v e o found b kn is few small =
        let own = b.fits_in refl limit ex.formed ex.low ex.shown (subst (λ (o : Option Least). IsWithin limit o) (sym is) few) (subst (λ (o : Option Least). count_of o ≤ less) (sym is) small) in
        record {
          fitting = own.fitting;
          numbers = some_same (record { nodes = size v; depth = depth v }) e (sym own.numbers ∙ is);
          faulty = λ t. absurd (false≢true t);
        }

    rows_err : (fields theirs : List FieldNode) (index k : ℕ) (ps : List ℕ) (vs : List Value) → drop index (field_ids fields) ≡ ps
        → BuildsRows writer reader limit table erring less k index (rows_from fields theirs index ps) vs
        → RowsPass known (rows_from fields theirs index ps)
        → (e : Least) → total_from limit table erring k index (rows_from fields theirs index ps) ≡ Some e → e.nodes ≤ limit → e.nodes ≤ less
        → RowsErr fields theirs index k ps vs e
    rows_err fields theirs index k [] [] at b kn e is few small =
        let same : no_parts ≡ e = some_same no_parts e is in
        record { fitting = refl; nodes_is = ap (λ (l : Least). l.nodes) same; depth_is = ap (λ (l : Least). l.depth) same; faulty = λ from to. absurd (omega (arith, from, to)) }
    rows_err fields theirs index k [] (v ∷ vs) at b kn e is few small = absurd b
    rows_err fields theirs index k (p ∷ ps) [] at b kn e is few small = absurd b
    rows_err fields theirs index k (p ∷ ps) (v ∷ vs) at b kn e is few small =
        let both = together_is limit (part_of_row table erring (index == k) (record { node = p; theirs = option_map (λ f. f.node) (reader_field fields theirs index) }))
        (total_from limit table erring k (suc index) (rows_from fields theirs (suc index) ps)) e is few in
        let own = row_is fields theirs index (index == k) p v both.first (reader_field fields theirs index) refl b.0
        (λ c made. kn 0 c made) both.first_is (omega (arith, few, both.nodes)) (omega (arith, small, both.nodes)) in
        let rest = rows_err fields theirs (suc index) k ps vs (drop_more (field_ids fields) ps index p at) b.1
        (λ j c made. kn (suc j) c made) both.second both.second_is (omega (arith, few, both.nodes)) (omega (arith, small, both.nodes)) in
        let count : size v ≡ both.first.nodes = ap (λ (l : Least). l.nodes) own.numbers in
        let level : depth v ≡ both.first.depth = ap (λ (l : Least). l.depth) own.numbers in
        record {
          fitting = and_from (fits writer (node_at writer p) v) (fields_fit writer ps (values_from vs)) own.fitting rest.fitting;
          nodes_is = omega (arith, count, rest.nodes_is, both.nodes);
          depth_is = ap (λ (n : ℕ). max n (values_depth (values_from vs))) level ∙ ap (max both.first.depth) rest.depth_is ∙ sym both.depth;
          faulty = λ from to. chosen (index == k) refl own.faulty rest.faulty from to;
        }
      where
        chosen : (t : Bool) → (index == k) ≡ t
            → (t ≡ true → (f : FieldNode) × (reader_field fields theirs index ≡ Some f) × IsFault (resolve writer reader (node_at writer p) (node_at reader f.node) v))
            → (suc index ≤ k → k < suc index + length ps → IsFault (resolve_sources writer reader fields theirs (suc index) (values_from vs)))
            → index ≤ k → k < index + length (p ∷ ps) → IsFault (resolve_sources writer reader fields theirs index (value v (values_from vs)))
        chosen true m here later from to =
            let found = here refl in
            field_faults writer reader fields theirs index p found.0 v (values_from vs) found.1 (slice_get_of_drop (field_ids fields) ps index p at) found.2
        chosen false m here later from to =
            let apart : index ≡ k → ⊥ = λ e. true≢false (sym (eq-eqb index k e) ∙ m) in
            fault_later (reader_field fields theirs index) index _ (resolve_sources writer reader fields theirs (suc index) (values_from vs))
            (later (omega (arith, from, apart)) (omega (arith, to)))

  rows_count : (fields theirs : List FieldNode) (index : ℕ) (ps : List ℕ) → length (rows_from fields theirs index ps) ≡ length ps
  rows_count fields theirs index [] = refl
  rows_count fields theirs index (p ∷ ps) = ap suc (rows_count fields theirs (suc index) ps)

  -- the finished record
  record_errs : (n q : Node) (rows : List Row) (k : ℕ) (vs : List Value) (e : Least) (is : IsRecords n q rows) → k < length rows → RowsErr is.fields is.theirs 0 k (field_ids is.fields) vs e
      → (fits writer n (Value.record_of (values_from vs)) ≡ true) × IsFault (resolve writer reader n q (Value.record_of (values_from vs)))
  record_errs n q rows k vs e is within errs = (
    subst (λ (m : Node). fits writer m (Value.record_of (values_from vs)) ≡ true) (sym is.from_is) errs.fitting,
    subst (λ (m : Node). IsFault (resolve writer reader m q (Value.record_of (values_from vs)))) (sym is.from_is)
        (subst (λ (m : Node). IsFault (resolve writer reader (Node.record_of is.name is.aliases is.fields) m (Value.record_of (values_from vs)))) (sym is.to_is)
        (record_faults writer reader is.name is.other is.aliases is.others is.fields is.theirs (values_from vs) (errs.faulty (omega arith) count))),
  )
    where
      count : k < 0 + length (field_ids is.fields)
      count = omega (arith, within, ap length is.rows_is ∙ rows_count is.fields is.theirs 0 (field_ids is.fields))

  pub fields_builds : (left less w r : ℕ) (rows : List Row) (k : ℕ) (vs : List Value) → left ≤ suc less → BuildsRows writer reader limit table erring less k 0 rows vs
      → ((j : ℕ) → j < length rows → total_from limit table erring j 0 rows ≡ err_of_rows limit table erring rows
      → (k < length rows) × (total_from limit table erring k 0 rows ≡ err_of_rows limit table erring rows))
      → BuildsAsked writer reader limit table erring left w r (Asked.fields rows) (Value.record_of (values_from vs))
  fields_builds left less w r rows k vs more built choice ns is known ex kn within few =
      let step : around limit (err_of_rows limit table erring rows) ≡ erring w r = step_of known ex w r (Asked.fields rows) is kn within in
      let entry = the_entry limit (erring w r) within in
      let inner = around_is limit (err_of_rows limit table erring rows) entry.0 (step ∙ entry.1) entry.2 in
      let all : entry.0.nodes ≤ left = subst (λ (o : Option Least). count_of o ≤ left) entry.1 few in
      let exists = some_total 0 rows inner.inner inner.is (omega (arith, entry.2, inner.nodes)) in
      let index : 0 + exists.0 ≡ exists.0 = omega arith in
      let chosen = choice exists.0 exists.1 (subst (λ (j : ℕ). total_from limit table erring j 0 rows ≡ err_of_rows limit table erring rows) index (exists.2 ∙ sym inner.is)) in
      let own = asks writer reader (node_at writer w) (node_at reader r) (Asked.fields rows) is in
      let errs : RowsErr own.fields own.theirs 0 k (field_ids own.fields) vs inner.inner =
      rows_err known ex less own.fields own.theirs 0 k (field_ids own.fields) vs refl
      (subst (λ (rs : List Row). BuildsRows writer reader limit table erring less k 0 rs vs) own.rows_is built)
      (subst (λ (rs : List Row). RowsPass known rs) own.rows_is (closed_of known ex w r (Asked.fields rows) is kn within))
      inner.inner (subst (λ (rs : List Row). total_from limit table erring k 0 rs ≡ Some inner.inner) own.rows_is (chosen.1 ∙ inner.is))
      (omega (arith, entry.2, inner.nodes)) (omega (arith, all, more, inner.nodes)) in
      let whole = record_errs (node_at writer w) (node_at reader r) rows k vs inner.inner own chosen.0 errs in
      record {
        fitting = whole.0;
        faulty = the_fault (resolve writer reader (node_at writer w) (node_at reader r) (Value.record_of (values_from vs))) whole.1;
        numbers = entry.1 ∙ ap Some (around_numbers entry.0 inner.inner (values_size (values_from vs)) (values_depth (values_from vs))
            (ap Some (λ i. record { nodes = errs.nodes_is i; depth = errs.depth_is i })) inner.nodes inner.depth);
      }

  pub rows_more : (less k i : ℕ) (rows : List Row) (vs : List Value) (row : Row) (v : Value) → BuildsRows writer reader limit table erring less k i rows vs
      → BuildsRow writer reader limit table erring less (i + length rows == k) row v → BuildsRows writer reader limit table erring less k i (rows ++ row ∷ []) (vs ++ v ∷ [])
  rows_more less k i [] [] row v h own = (subst (λ (n : ℕ). BuildsRow writer reader limit table erring less (n == k) row v) (omega arith) own, tt)
  rows_more less k i [] (x ∷ vs) row v h own = absurd h
  rows_more less k i (y ∷ rows) [] row v h own = absurd h
  rows_more less k i (y ∷ rows) (x ∷ vs) row v h own =
      (h.0, rows_more less k (suc i) rows vs row v h.1 (subst (λ (n : ℕ). BuildsRow writer reader limit table erring less (n == k) row v) (omega arith) own))
