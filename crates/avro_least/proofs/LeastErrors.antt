-- No datum of a node that errs is below the pair's entry.
use Rattle.std.proofs.Common.{◌≡◌, ℕ, suc, Bool, true, false, cond, List, [], ◌∷◌, drop, length, Option, Some, None, Result, Ok, Err, refl, sym, subst, arith, slice_get, unwrap_or, option_and_then, nat_lt, is_some}
use Rattle.std.proofs.lemmas.Bool.{false≢true}
use Rattle.avro_schema.specs.Value.{Value, Values, Entries, no_values, value, no_entries, entry, size, depth, values_size, values_depth, entries_size, entries_depth, values_count}
use Rattle.avro_schema.specs.Node.{Node, FieldNode, node_at, branches_of, items_node, values_node, fields_of, symbols_of, field_ids}
use Rattle.avro_schema.specs.Fits.{fits, each_fits, entries_fit, fields_fit, is_some_and, is_count, are_bytes, is_bytes_node}
use Rattle.avro_schema.specs.WellFormed.{is_schema}
use Rattle.avro_compare.specs.Fault.{ResolutionFault, fault_here, no_match}
use Rattle.avro_compare.specs.Match.{Matches, arrays, enums, maps, reader_union, records, is_match, first_match}
use Rattle.avro_compare.specs.Source.{reader_field, missing_field}
use Rattle.avro_compare.specs.Resolve.{Resolved, inside, result_map, matched, into_branch, through, int_as, bytes_as, string_as, enum_as, part_at, symbol_at, fields_at, branch_node, record_or_missing, resolve, resolve_items, resolve_entries, resolve_sources}
use Rattle.avro_least.specs.Tables.{Least, LeastTable, ErringTable, AtMost, AreLow, err_of, err_inside, err_of_fields, err_of_field, best_of, all_of, around, together, one}
use Rattle.avro_compare.specs.Children.{lacks_symbol}
use Rattle.avro_certificate.proofs.public.Tests.{and_left, and_right}
use Rattle.avro_compare.proofs.public.MatchTest.{match_within-sound}
use Rattle.avro_compare.proofs.public.NodeKinds.{is_plain_value, plain_node, union_of_branches}
use Rattle.avro_certificate.proofs.public.Shapes.{plain_branch, first_match_within}
use Rattle.avro_certificate.proofs.public.Successes.{Succeeds, succeeds_enum, succeeds_int, succeeds_string}
use Rattle.avro_certificate.proofs.public.Resolving.{slice_get_of_drop, drop_more}
use Rattle.avro_least.proofs.LeastOrder.{under_around, under_together, under_best, under_lesser_left, under_lesser_right, under_more_left, under_more_right}
use Rattle.avro_least.proofs.LeastData.{at_most_data, at_most_fields}
use Rattle.avro_least.proofs.public.Faults.{OnErr, blames_both, blames_good, blames_map, on_err, on_inside, on_mono, on_sourced}
use Rattle.avro_certificate.proofs.public.FaultyResults.{through_is_matched}

-- what two plain nodes that match make of a datum errs only with so many nodes and so deep
abbrev pub Inner : List Node → List Node → ℕ → LeastTable → ErringTable → ℕ → Node → (Node → Resolved) → ℕ → ℕ → Type 0
Inner writer reader limit table erring w n f s d = (q : Node) → branches_of q ≡ None → is_match writer reader n q ≡ true
    → OnErr (f q) (AtMost (err_inside limit table erring w n q) s d)

-- the step of two plain nodes
pub err_of_plain : (writer reader : List Node) (limit : ℕ) (table : LeastTable) (erring : ErringTable) (w r : ℕ) (n q : Node) → branches_of n ≡ None → branches_of q ≡ None
    → err_of writer reader limit table erring w r n q ≡ cond (is_match writer reader n q) (err_inside limit table erring w n q) (table w)
err_of_plain writer reader limit table erring w r (Node.union ps) _ h k = absurd (grind arith)
err_of_plain writer reader limit table erring w r _ (Node.union ps) h k = absurd (grind arith)
err_of_plain writer reader limit table erring w r Node.null Node.null h k = refl
err_of_plain writer reader limit table erring w r _ _ h k = refl

-- that of a plain node and a union
pub err_of_none : (writer reader : List Node) (limit : ℕ) (table : LeastTable) (erring : ErringTable) (w r : ℕ) (n : Node) (ids : List ℕ) → branches_of n ≡ None
    → first_match writer reader n ids ≡ None → err_of writer reader limit table erring w r n (Node.union ids) ≡ table w
err_of_none writer reader limit table erring w r (Node.union ps) ids plain h = absurd (grind arith)
err_of_none writer reader limit table erring w r _ ids plain h = rw h refl

pub err_of_some : (writer reader : List Node) (limit : ℕ) (table : LeastTable) (erring : ErringTable) (w r : ℕ) (n : Node) (ids : List ℕ) (k : ℕ) → branches_of n ≡ None
    → first_match writer reader n ids ≡ Some k
    → err_of writer reader limit table erring w r n (Node.union ids) ≡ erring w (unwrap_or (slice_get ids k) 0)
err_of_some writer reader limit table erring w r (Node.union ps) ids k plain h = absurd (grind arith)
err_of_some writer reader limit table erring w r _ ids k plain h = rw h refl

module _ (writer reader : List Node) (limit : ℕ) (table : LeastTable) (erring : ErringTable) (low : AreLow writer reader limit table erring) (formed : is_schema reader ≡ true) where
  -- a step is lowered by none
  pub lower : (w r : ℕ) (s d : ℕ) {A : Type 0} (x : Result A ResolutionFault) → AtMost (table w) s d
      → OnErr x (AtMost (err_of writer reader limit table erring w r (node_at writer w) (node_at reader r)) s d) → OnErr x (AtMost (erring w r) s d)
  lower w r s d x own h = on_mono x _ (AtMost (erring w r) s d) (low.for_errors w r s d own) h

  -- two plain nodes
  matched_step : (w r : ℕ) (n : Node) (f : Node → Resolved) (s d : ℕ) → branches_of n ≡ None → branches_of (node_at reader r) ≡ None
      → AtMost (table w) s d → Inner writer reader limit table erring w n f s d
      → OnErr (matched writer reader n (node_at reader r) f) (AtMost (err_of writer reader limit table erring w r n (node_at reader r)) s d)
  matched_step w r n f s d plain their_plain own inner = chosen (is_match writer reader n (node_at reader r)) refl
    where
      step : (t : Bool) → is_match writer reader n (node_at reader r) ≡ t → AtMost (cond t (err_inside limit table erring w n (node_at reader r)) (table w)) s d
          → AtMost (err_of writer reader limit table erring w r n (node_at reader r)) s d
      step t e h =
          subst (λ (x : Option Least). AtMost x s d) (sym (err_of_plain writer reader limit table erring w r n (node_at reader r) plain their_plain))
          (subst (λ (b : Bool). AtMost (cond b (err_inside limit table erring w n (node_at reader r)) (table w)) s d) (sym e) h)

      chosen : (t : Bool) → is_match writer reader n (node_at reader r) ≡ t
          → OnErr (cond t (f (node_at reader r)) (Err (fault_here no_match))) (AtMost (err_of writer reader limit table erring w r n (node_at reader r)) s d)
      chosen true e = on_mono (f (node_at reader r)) _ (AtMost (err_of writer reader limit table erring w r n (node_at reader r)) s d) (step true e) (inner (node_at reader r) their_plain e)
      chosen false e = step false e own

  -- a plain node and any
  through_step : (w r : ℕ) (n : Node) (f : Node → Resolved) (s d : ℕ) → node_at writer w ≡ n → branches_of n ≡ None
      → AtMost (table w) s d → Inner writer reader limit table erring w n f s d
      → OnErr (through writer reader n (node_at reader r) f) (AtMost (err_of writer reader limit table erring w r n (node_at reader r)) s d)
  through_step w r n f s d here plain own inner = by_branches (branches_of (node_at reader r)) refl
    where
      branch_low : (ids : List ℕ) → node_at reader r ≡ Node.union ids → (o : Option ℕ) → first_match writer reader n ids ≡ o
          → OnErr (into_branch writer reader n ids o f) (AtMost (err_of writer reader limit table erring w r n (Node.union ids)) s d)
      branch_low ids there None e = subst (λ (x : Option Least). AtMost x s d) (sym (err_of_none writer reader limit table erring w r n ids plain e)) own
      branch_low ids there (Some k) e =
          let found = first_match_within writer reader n ids k e in
          let their_plain = subst (λ (o : Option ℕ). branches_of (node_at reader (unwrap_or o 0)) ≡ None) (sym found.1)
          (plain_branch reader r ids k found.0 formed there found.1) in
          blames_map _ (Value.union k) (matched writer reader n (branch_node reader ids k) f)
          (subst (λ (x : Option Least). OnErr (matched writer reader n (branch_node reader ids k) f) (AtMost x s d))
          (sym (err_of_some writer reader limit table erring w r n ids k plain e))
          (lower w (unwrap_or (slice_get ids k) 0) s d (matched writer reader n (branch_node reader ids k) f) own
          (subst (λ (m : Node). OnErr (matched writer reader n (branch_node reader ids k) f)
          (AtMost (err_of writer reader limit table erring w (unwrap_or (slice_get ids k) 0) m (branch_node reader ids k)) s d)) (sym here)
          (matched_step w (unwrap_or (slice_get ids k) 0) n f s d plain their_plain own inner))))

      by_branches : (o : Option (List ℕ)) → branches_of (node_at reader r) ≡ o
          → OnErr (through writer reader n (node_at reader r) f) (AtMost (err_of writer reader limit table erring w r n (node_at reader r)) s d)
      by_branches None e = subst (λ (x : Resolved). OnErr x (AtMost (err_of writer reader limit table erring w r n (node_at reader r)) s d))
          (sym (through_is_matched writer reader n (node_at reader r) f e)) (matched_step w r n f s d plain e own inner)
      by_branches (Some ids) e =
          let there : node_at reader r ≡ Node.union ids = union_of_branches (node_at reader r) ids e in
          subst (λ (q : Node). OnErr (through writer reader n q f) (AtMost (err_of writer reader limit table erring w r n q) s d)) (sym there)
          (branch_low ids there (first_match writer reader n ids) refl)

  -- bytes
  inner_bytes : (w : ℕ) (n : Node) (b : List ℕ) → is_bytes_node n ≡ true → Inner writer reader limit table erring w n (bytes_as b) 1 1
  inner_bytes w Node.bytes b h Node.string plain m = on_err (bytes_as b Node.string) _ (record { fewer = omega arith; shallower = λ k. omega arith })
  inner_bytes w Node.bytes b h _ plain m = tt
  inner_bytes w _ b h q plain m = absurd (false≢true h)

  -- a symbol
  inner_enum : (w : ℕ) (n : Node) (k : ℕ) → is_some_and (λ symbols. nat_lt k (length symbols)) (symbols_of n) ≡ true
      → Inner writer reader limit table erring w n (enum_as (symbol_at n k)) 1 1
  inner_enum w n k h q plain m = into n q h plain (match_within-sound (length writer) writer reader n q m)
    where
      lacked : (n q : Node) (t : Bool) → (t ≡ false → Succeeds (enum_as (symbol_at n k) q))
          → OnErr (enum_as (symbol_at n k) q) (AtMost (cond t (Some one) None) 1 1)
      lacked n q true f = on_err (enum_as (symbol_at n k) q) _ (record { fewer = omega arith; shallower = λ k. omega arith })
      lacked n q false f = blames_good (λ e. ⊥) (enum_as (symbol_at n k) q) (f refl)

      into : (n q : Node) → is_some_and (λ symbols. nat_lt k (length symbols)) (symbols_of n) ≡ true
          → branches_of q ≡ None → Matches writer reader n q
          → OnErr (enum_as (symbol_at n k) q) (AtMost (err_inside limit table erring w n q) 1 1)
      into (Node.enum a xs symbols x) _ h plain reader_union = absurd (grind arith)
      into (Node.enum a xs symbols x) _ h plain (enums {b = b} {b_aliases = ys} {ys = theirs} {y = y} m) =
          lacked (Node.enum a xs symbols x) (Node.enum b ys theirs y) (lacks_symbol symbols theirs y) (λ e. succeeds_enum symbols theirs k y h e)
      into _ q h plain m = absurd (false≢true h)

  -- an array's items
  inner_array : (w : ℕ) (n : Node) (vs : Values) → is_some_and (λ id. each_fits writer (node_at writer id) vs) (items_node n) ≡ true
      → ((a b : ℕ) → each_fits writer (node_at writer a) vs ≡ true
      → OnErr (resolve_items writer reader (node_at writer a) (node_at reader b) 0 vs) (AtMost (erring a b) (values_size vs) (values_depth vs)))
      → Inner writer reader limit table erring w n
      (λ q. result_map Value.array (resolve_items writer reader (part_at writer (items_node n)) (part_at reader (items_node q)) 0 vs))
      (suc (values_size vs)) (suc (values_depth vs))
  inner_array w n vs h each q plain m = into n q h plain (match_within-sound (length writer) writer reader n q m)
    where
      parts : (a b : ℕ) → each_fits writer (node_at writer a) vs ≡ true
          → OnErr (result_map Value.array (resolve_items writer reader (node_at writer a) (node_at reader b) 0 vs))
          (AtMost (around limit (erring a b)) (suc (values_size vs)) (suc (values_depth vs)))
      parts a b f = blames_map _ Value.array (resolve_items writer reader (node_at writer a) (node_at reader b) 0 vs)
          (on_mono (resolve_items writer reader (node_at writer a) (node_at reader b) 0 vs) _ _ (under_around limit (erring a b) (values_size vs) (values_depth vs)) (each a b f))

      into : (n q : Node) → is_some_and (λ id. each_fits writer (node_at writer id) vs) (items_node n) ≡ true → branches_of q ≡ None → Matches writer reader n q
          → OnErr (result_map Value.array (resolve_items writer reader (part_at writer (items_node n)) (part_at reader (items_node q)) 0 vs))
          (AtMost (err_inside limit table erring w n q) (suc (values_size vs)) (suc (values_depth vs)))
      into (Node.array a) _ h plain reader_union = absurd (grind arith)
      into (Node.array a) _ h plain (arrays {b = b} m) = parts a b h
      into _ q h plain m = absurd (false≢true h)

  -- a map's entries
  inner_map : (w : ℕ) (n : Node) (es : Entries) → is_some_and (λ id. entries_fit writer (node_at writer id) es) (values_node n) ≡ true
      → ((a b : ℕ) → entries_fit writer (node_at writer a) es ≡ true
      → OnErr (resolve_entries writer reader (node_at writer a) (node_at reader b) 0 es) (AtMost (erring a b) (entries_size es) (entries_depth es)))
      → Inner writer reader limit table erring w n
      (λ q. result_map Value.map_of (resolve_entries writer reader (part_at writer (values_node n)) (part_at reader (values_node q)) 0 es))
      (suc (entries_size es)) (suc (entries_depth es))
  inner_map w n es h each q plain m = into n q h plain (match_within-sound (length writer) writer reader n q m)
    where
      parts : (a b : ℕ) → entries_fit writer (node_at writer a) es ≡ true
          → OnErr (result_map Value.map_of (resolve_entries writer reader (node_at writer a) (node_at reader b) 0 es))
          (AtMost (around limit (erring a b)) (suc (entries_size es)) (suc (entries_depth es)))
      parts a b f = blames_map _ Value.map_of (resolve_entries writer reader (node_at writer a) (node_at reader b) 0 es)
          (on_mono (resolve_entries writer reader (node_at writer a) (node_at reader b) 0 es) _ _ (under_around limit (erring a b) (entries_size es) (entries_depth es)) (each a b f))

      into : (n q : Node) → is_some_and (λ id. entries_fit writer (node_at writer id) es) (values_node n) ≡ true
          → branches_of q ≡ None → Matches writer reader n q
          → OnErr (result_map Value.map_of (resolve_entries writer reader (part_at writer (values_node n)) (part_at reader (values_node q)) 0 es))
          (AtMost (err_inside limit table erring w n q) (suc (entries_size es)) (suc (entries_depth es)))
      into (Node.map_of a) _ h plain reader_union = absurd (grind arith)
      into (Node.map_of a) _ h plain (maps {b = b} m) = parts a b h
      into _ q h plain m = absurd (false≢true h)

  -- a record's fields
  inner_record : (w : ℕ) (n : Node) (vs : Values) → is_some_and (λ fields. fields_fit writer (field_ids fields) vs) (fields_of n) ≡ true
      → AtMost (table w) (suc (values_size vs)) (suc (values_depth vs))
      → ((fields theirs : List FieldNode) → fields_fit writer (field_ids fields) vs ≡ true
      → OnErr (resolve_sources writer reader fields theirs 0 vs)
      (AtMost (err_of_fields limit table erring fields theirs 0 (field_ids fields)) (values_size vs) (values_depth vs)))
      → Inner writer reader limit table erring w n
      (λ q. record_or_missing (fields_at n) (fields_at q) (missing_field (fields_at n) (fields_at q))
      (resolve_sources writer reader (fields_at n) (fields_at q) 0 vs))
      (suc (values_size vs)) (suc (values_depth vs))
  inner_record w n vs h own each q plain m = into n q h plain (match_within-sound (length writer) writer reader n q m)
    where
      parts : (fields theirs : List FieldNode) (o : Option ℕ) → fields_fit writer (field_ids fields) vs ≡ true
          → OnErr (record_or_missing fields theirs o (resolve_sources writer reader fields theirs 0 vs))
          (AtMost (cond (is_some o) (table w) (around limit (err_of_fields limit table erring fields theirs 0 (field_ids fields)))) (suc (values_size vs)) (suc (values_depth vs)))
      parts fields theirs None f = blames_map _ _ (resolve_sources writer reader fields theirs 0 vs)
          (on_mono (resolve_sources writer reader fields theirs 0 vs) _ _
          (under_around limit (err_of_fields limit table erring fields theirs 0 (field_ids fields)) (values_size vs) (values_depth vs)) (each fields theirs f))
      parts fields theirs (Some index) f = own

      into : (n q : Node) → is_some_and (λ fields. fields_fit writer (field_ids fields) vs) (fields_of n) ≡ true
          → branches_of q ≡ None → Matches writer reader n q
          → OnErr (record_or_missing (fields_at n) (fields_at q) (missing_field (fields_at n) (fields_at q)) (resolve_sources writer reader (fields_at n) (fields_at q) 0 vs))
          (AtMost (err_inside limit table erring w n q) (suc (values_size vs)) (suc (values_depth vs)))
      into (Node.record_of a xs fields) _ h plain reader_union = absurd (grind arith)
      into (Node.record_of a xs fields) _ h plain (records {gs = theirs} m) = parts fields theirs (missing_field fields theirs) h
      into _ q h plain m = absurd (false≢true h)

  -- a union's branch
  union_step : (v : Value) (k w r : ℕ) (n : Node)
      → is_some_and (λ id. fits writer (node_at writer id) v) (option_and_then (λ ids. slice_get ids k) (branches_of n)) ≡ true
      → ((p : ℕ) → fits writer (node_at writer p) v ≡ true
      → OnErr (resolve writer reader (node_at writer p) (node_at reader r) v) (AtMost (erring p r) (size v) (depth v)))
      → OnErr (inside 0 (resolve writer reader (branch_node writer (unwrap_or (branches_of n) []) k) (node_at reader r) v))
      (AtMost (err_of writer reader limit table erring w r n (node_at reader r)) (suc (size v)) (suc (depth v)))
  union_step v k w r (Node.union ids) h each = taken (slice_get ids k) refl h
    where
      taken : (o : Option ℕ) → slice_get ids k ≡ o → is_some_and (λ id. fits writer (node_at writer id) v) o ≡ true
          → OnErr (inside 0 (resolve writer reader (branch_node writer ids k) (node_at reader r) v))
          (AtMost (around limit (best_of (λ p. erring p r) ids)) (suc (size v)) (suc (depth v)))
      taken None there passes = absurd (false≢true passes)
      taken (Some p) there passes = rw there (on_inside 0 (resolve writer reader (node_at writer p) (node_at reader r) v) _
          (on_mono (resolve writer reader (node_at writer p) (node_at reader r) v) (AtMost (erring p r) (size v) (depth v)) _
          (λ x. under_around limit _ (size v) (depth v) (under_best (λ q. erring q r) ids k p (size v) (depth v) there x)) (each p passes)))
  union_step v k w r _ h each = absurd (false≢true h)

  -- a datum that is no union's
  plain_step : (v : Value) (w r : ℕ) (f : Node → Resolved) → is_plain_value v ≡ true → fits writer (node_at writer w) v ≡ true
      → Inner writer reader limit table erring w (node_at writer w) f (size v) (depth v)
      → OnErr (through writer reader (node_at writer w) (node_at reader r) f)
      (AtMost (err_of writer reader limit table erring w r (node_at writer w) (node_at reader r)) (size v) (depth v))
  plain_step v w r f plain h inner = through_step w r (node_at writer w) f (size v) (depth v) refl (plain_node writer (node_at writer w) v plain h)
      (at_most_data writer limit table low.for_data v w h) inner

  -- a part's step
  lower_at : (v : Value) (w r : ℕ) → fits writer (node_at writer w) v ≡ true
      → OnErr (resolve writer reader (node_at writer w) (node_at reader r) v)
      (AtMost (err_of writer reader limit table erring w r (node_at writer w) (node_at reader r)) (size v) (depth v))
      → OnErr (resolve writer reader (node_at writer w) (node_at reader r) v) (AtMost (erring w r) (size v) (depth v))
  lower_at v w r h s = lower w r (size v) (depth v) (resolve writer reader (node_at writer w) (node_at reader r) v) (at_most_data writer limit table low.for_data v w h) s

  -- by induction on the datum
  mutual
    pub step_errors : (v : Value) (w r : ℕ) → fits writer (node_at writer w) v ≡ true
        → OnErr (resolve writer reader (node_at writer w) (node_at reader r) v)
        (AtMost (err_of writer reader limit table erring w r (node_at writer w) (node_at reader r)) (size v) (depth v))
    step_errors Value.null w r h = plain_step Value.null w r (λ q. Ok Value.null) refl h (λ q plain m. tt)
    step_errors (Value.boolean b) w r h = plain_step (Value.boolean b) w r (λ q. Ok (Value.boolean b)) refl h (λ q plain m. tt)
    step_errors (Value.int i) w r h = plain_step (Value.int i) w r (int_as i) refl h (λ q plain m. blames_good (λ e. AtMost (err_inside limit table erring w (node_at writer w) q) 1 1) (int_as i q) (succeeds_int i q))
    step_errors (Value.long i) w r h = plain_step (Value.long i) w r (λ q. Ok (Value.long i)) refl h (λ q plain m. tt)
    step_errors (Value.bytes b) w r h = plain_step (Value.bytes b) w r (bytes_as b) refl h
        (inner_bytes w (node_at writer w) b (and_left (is_bytes_node (node_at writer w)) (are_bytes b) h))
    step_errors (Value.string t) w r h = plain_step (Value.string t) w r (string_as t) refl h (λ q plain m. blames_good (λ e. AtMost (err_inside limit table erring w (node_at writer w) q) 1 1) (string_as t q) (succeeds_string t q))
    step_errors (Value.array vs) w r h = plain_step (Value.array vs) w r _ refl h
        (inner_array w (node_at writer w) vs
        (and_right (is_count (values_count vs)) (is_some_and (λ id. each_fits writer (node_at writer id) vs) (items_node (node_at writer w))) h)
        (λ a b f. at_most_items vs a b 0 f))
    step_errors (Value.map_of es) w r h = plain_step (Value.map_of es) w r _ refl h
        (inner_map w (node_at writer w) es
        (and_right _ (is_some_and (λ id. entries_fit writer (node_at writer id) es) (values_node (node_at writer w))) h)
        (λ a b f. at_most_entries es a b 0 f))
    step_errors (Value.union k v) w r h = union_step v k w r (node_at writer w) h (λ p f. lower_at v p r f (step_errors v p r f))
    step_errors (Value.record_of vs) w r h = plain_step (Value.record_of vs) w r _ refl h
        (inner_record w (node_at writer w) vs h (at_most_data writer limit table low.for_data (Value.record_of vs) w h)
        (λ fields theirs f. at_most_sources vs fields theirs 0 (field_ids fields) refl f))
    step_errors (Value.enum k) w r h = plain_step (Value.enum k) w r (enum_as (symbol_at (node_at writer w) k)) refl h (inner_enum w (node_at writer w) k h)
    step_errors (Value.fixed b) w r h = plain_step (Value.fixed b) w r (λ q. Ok (Value.fixed b)) refl h (λ q plain m. tt)

    -- the items
    at_most_items : (vs : Values) (w r index : ℕ) → each_fits writer (node_at writer w) vs ≡ true
        → OnErr (resolve_items writer reader (node_at writer w) (node_at reader r) index vs) (AtMost (erring w r) (values_size vs) (values_depth vs))
    at_most_items no_values w r index h = tt
    at_most_items (value v vs) w r index h =
        blames_both _ value (inside index (resolve writer reader (node_at writer w) (node_at reader r) v))
        (resolve_items writer reader (node_at writer w) (node_at reader r) (suc index) vs)
        (on_inside index (resolve writer reader (node_at writer w) (node_at reader r) v) _
        (on_mono (resolve writer reader (node_at writer w) (node_at reader r) v) (AtMost (erring w r) (size v) (depth v)) _
        (under_more_left (erring w r) (size v) (depth v) (values_size vs) (values_depth vs))
        (lower_at v w r (and_left (fits writer (node_at writer w) v) (each_fits writer (node_at writer w) vs) h)
        (step_errors v w r (and_left (fits writer (node_at writer w) v) (each_fits writer (node_at writer w) vs) h)))))
        (on_mono (resolve_items writer reader (node_at writer w) (node_at reader r) (suc index) vs) (AtMost (erring w r) (values_size vs) (values_depth vs)) _
        (under_more_right (erring w r) (size v) (depth v) (values_size vs) (values_depth vs))
        (at_most_items vs w r (suc index) (and_right (fits writer (node_at writer w) v) (each_fits writer (node_at writer w) vs) h)))

    -- the entries
    at_most_entries : (es : Entries) (w r index : ℕ) → entries_fit writer (node_at writer w) es ≡ true
        → OnErr (resolve_entries writer reader (node_at writer w) (node_at reader r) index es) (AtMost (erring w r) (entries_size es) (entries_depth es))
    at_most_entries no_entries w r index h = tt
    at_most_entries (entry k v es) w r index h =
        blames_both _ (entry k) (inside index (resolve writer reader (node_at writer w) (node_at reader r) v))
        (resolve_entries writer reader (node_at writer w) (node_at reader r) (suc index) es)
        (on_inside index (resolve writer reader (node_at writer w) (node_at reader r) v) _
        (on_mono (resolve writer reader (node_at writer w) (node_at reader r) v) (AtMost (erring w r) (size v) (depth v)) _
        (under_more_left (erring w r) (size v) (depth v) (entries_size es) (entries_depth es))
        (lower_at v w r (and_left (fits writer (node_at writer w) v) (entries_fit writer (node_at writer w) es) h)
        (step_errors v w r (and_left (fits writer (node_at writer w) v) (entries_fit writer (node_at writer w) es) h)))))
        (on_mono (resolve_entries writer reader (node_at writer w) (node_at reader r) (suc index) es) (AtMost (erring w r) (entries_size es) (entries_depth es)) _
        (under_more_right (erring w r) (size v) (depth v) (entries_size es) (entries_depth es))
        (at_most_entries es w r (suc index) (and_right (fits writer (node_at writer w) v) (entries_fit writer (node_at writer w) es) h)))

    -- the writer's fields from an index on
    at_most_sources : (vs : Values) (fields theirs : List FieldNode) (index : ℕ) (ids : List ℕ) → drop index (field_ids fields) ≡ ids
        → fields_fit writer ids vs ≡ true
        → OnErr (resolve_sources writer reader fields theirs index vs)
        (AtMost (err_of_fields limit table erring fields theirs index ids) (values_size vs) (values_depth vs))
    at_most_sources no_values fields theirs index ids e h = tt
    at_most_sources (value v vs) fields theirs index [] e h = absurd (false≢true h)
    at_most_sources (value v vs) fields theirs index (p ∷ ps) e h =
        on_sourced (reader_field fields theirs index) index _ (resolve_sources writer reader fields theirs (suc index) vs) _
        (λ f here. rw (here, slice_get_of_drop (field_ids fields) ps index p e)
        (on_mono (resolve writer reader (node_at writer p) (node_at reader f.node) v) (AtMost (erring p f.node) (size v) (depth v)) _
        (λ x. under_lesser_left (together limit (erring p f.node) (all_of limit table ps)) (together limit (table p) (err_of_fields limit table erring fields theirs (suc index) ps)) _ _
        (under_together limit (erring p f.node) (all_of limit table ps) (size v) (depth v) (values_size vs) (values_depth vs) x
        (at_most_fields writer limit table low.for_data vs ps (and_right (fits writer (node_at writer p) v) (fields_fit writer ps vs) h))))
        (lower_at v p f.node (and_left (fits writer (node_at writer p) v) (fields_fit writer ps vs) h)
        (step_errors v p f.node (and_left (fits writer (node_at writer p) v) (fields_fit writer ps vs) h)))))
        (on_mono (resolve_sources writer reader fields theirs (suc index) vs)
        (AtMost (err_of_fields limit table erring fields theirs (suc index) ps) (values_size vs) (values_depth vs)) _
        (λ x. under_lesser_right (together limit (err_of_field erring p (reader_field fields theirs index)) (all_of limit table ps))
        (together limit (table p) (err_of_fields limit table erring fields theirs (suc index) ps)) _ _
        (under_together limit (table p) (err_of_fields limit table erring fields theirs (suc index) ps) (size v) (depth v) (values_size vs) (values_depth vs)
        (at_most_data writer limit table low.for_data v p (and_left (fits writer (node_at writer p) v) (fields_fit writer ps vs) h)) x))
        (at_most_sources vs fields theirs (suc index) ps (drop_more (field_ids fields) ps index p e)
        (and_right (fits writer (node_at writer p) v) (fields_fit writer ps vs) h)))

  -- no datum that errs is below the pair's entry
  pub at_most_errors : (v : Value) (w r : ℕ) → fits writer (node_at writer w) v ≡ true
      → OnErr (resolve writer reader (node_at writer w) (node_at reader r) v) (AtMost (erring w r) (size v) (depth v))
  at_most_errors v w r h = lower_at v w r h (step_errors v w r h)
