-- What it says of a node and of a pair that they have no entry.
use Rattle.std.proofs.Common.{◌≡◌, ℕ, suc, ◌+◌, ◌≤◌, ◌<◌, Bool, true, false, not, ◌||◌, cond, List, [], ◌∷◌, drop, Option, Some, None, inl, inr, length, refl, sym, ◌∙◌, ap, subst, arith, max, slice_get, unwrap_or, is_some, is_none, bytes_eq}
use Rattle.std.proofs.lemmas.Bool.{false≢true, and_from, cases_eq}
use Rattle.std.proofs.lemmas.List.Folds.{list_all-map}
use Rattle.std.specs.List.{list_all, list_any, flat_map}
use Rattle.avro_schema.specs.Value.{Value, Values, no_values, value, size, depth, values_count}
use Rattle.avro_schema.specs.Node.{Node, FieldNode, node_at, branches_of, field_ids}
use Rattle.avro_schema.specs.Fits.{fits, fields_fit, is_count, are_bytes}
use Rattle.avro_schema.specs.Distinct.{are_distinct}
use Rattle.avro_schema.specs.WellFormed.{is_schema, field_names, meets_its_rules, has_good_default}
use Rattle.avro_name.specs.Name.{is_simple_name}
use Rattle.std.proofs.lemmas.List.{length-map}
use Rattle.avro_compare.specs.Match.{is_match, first_match}
use Rattle.avro_compare.specs.Source.{source_of, reader_field, missing_field}
use Rattle.avro_compare.specs.Fields.{IsField, here, later}
use Rattle.avro_compare.proofs.public.Sources.{first_index-named, reader_field-source}
use Rattle.avro_compare.specs.Children.{Pair, children_of, field_children, has_local_fault, has_fault_of_kind, lacks_symbol}
use Rattle.avro_certificate.specs.Closed.{is_among, is_dead_node}
use Rattle.avro_least.specs.Tables.{Least, LeastTable, ErringTable, AtMost, IsLowForData, AreLow, AreDataShown, ShowsData, around, together, lesser, precedes, best_of, all_of, least_datum, err_of, err_inside, err_of_field, err_of_fields, one}
use Rattle.avro_certificate.proofs.public.Tests.{and_left, and_right, or_cases, or_from_left, or_from_right}
use Rattle.avro_compare.proofs.public.NodeKinds.{fault_of_union, fault_of_others, children_of_union}
use Rattle.avro_certificate.proofs.public.Shapes.{meets_rules_at}
use Rattle.avro_certificate.proofs.public.Resolving.{slice_get_of_drop, drop_more}
use Rattle.avro_least.proofs.LeastOrder.{under_more_left, under_more_right}
use Rattle.avro_least.proofs.LeastData.{at_most_data}
use Rattle.avro_least.proofs.LeastErrors.{err_of_plain, err_of_none, err_of_some}

-- an entry that nothing is above is none
none_above : (e : Option Least) → ((s d : ℕ) → AtMost e s d → ⊥) → e ≡ None
none_above None h = refl
none_above (Some e) h = absurd (h e.nodes e.depth (record { fewer = omega arith; shallower = λ k. omega arith }))

-- what is above something is an entry
pub some_below : (e : Option Least) (s d : ℕ) → AtMost e s d → is_some e ≡ true
some_below None s d h = absurd h
some_below (Some e) s d h = refl

-- none around
around_none : (limit : ℕ) (e : Option Least) → around limit e ≡ None → e ≡ None
around_none limit None h = refl
around_none limit (Some e) h = absurd (grind arith)

-- none beside an entry
right_none : (limit : ℕ) (a b : Option Least) → together limit a b ≡ None → is_some a ≡ true → b ≡ None
right_none limit None b h s = absurd (false≢true s)
right_none limit (Some a) None h s = refl
right_none limit (Some a) (Some b) h s = absurd (grind arith)

together_both : (limit : ℕ) (a b : Option Least) → is_some a ≡ true → is_some b ≡ true → is_some (together limit a b) ≡ true
together_both limit None b h k = h
together_both limit (Some a) None h k = k
together_both limit (Some a) (Some b) h k = refl

left_none : (limit : ℕ) (a b : Option Least) → together limit a b ≡ None → is_some b ≡ true → a ≡ None
left_none limit None b h s = refl
left_none limit (Some a) None h s = absurd (false≢true s)
left_none limit (Some a) (Some b) h s = absurd (grind arith)

-- the lesser of none
lesser_none : (a b : Option Least) → lesser a b ≡ None → (a ≡ None) × (b ≡ None)
lesser_none None b h = (refl, h)
lesser_none (Some a) None h = absurd (grind arith)
lesser_none (Some a) (Some b) h = chosen (precedes b a) h
  where
    chosen : (t : Bool) → cond t (Some b) (Some a) ≡ None → (Some a ≡ None) × (Some b ≡ None)
    chosen true e = absurd (grind arith)
    chosen false e = absurd (grind arith)

-- each branch has none
best_none : (table : LeastTable) (ps : List ℕ) → best_of table ps ≡ None → list_all (λ p. is_none (table p)) ps ≡ true
best_none table [] h = refl
best_none table (p ∷ ps) h =
    let both = lesser_none (table p) (best_of table ps) h in
    and_from (is_none (table p)) (list_all (λ p. is_none (table p)) ps) (ap is_none both.0) (best_none table ps both.1)

-- some field has none
all_none : (limit : ℕ) (table : LeastTable) (ps : List ℕ) → all_of limit table ps ≡ None → list_any (λ p. is_none (table p)) ps ≡ true
all_none limit table [] h = absurd (grind arith)
all_none limit table (p ∷ ps) h = first (table p) refl (all_none limit table ps)
  where
    first : (e : Option Least) → table p ≡ e → (all_of limit table ps ≡ None → list_any (λ p. is_none (table p)) ps ≡ true)
        → (is_none (table p) || list_any (λ p. is_none (table p)) ps) ≡ true
    first None e rest = or_from_left _ _ (ap is_none e)
    first (Some x) e rest = or_from_right _ _ (rest (right_none limit (table p) (all_of limit table ps) h (subst (λ (o : Option Least). is_some o ≡ true) (sym e) refl)))

-- all that pass one test pass another
all_pass : {A : Type 0} (test other : A → Bool) (xs : List A) → ((x : A) → test x ≡ true → other x ≡ true) → list_all test xs ≡ true → list_all other xs ≡ true
all_pass test other [] more h = refl
all_pass test other (x ∷ xs) more h =
    and_from (other x) (list_all other xs) (more x (and_left (test x) (list_all test xs) h)) (all_pass test other xs more (and_right (test x) (list_all test xs) h))

pub any_pass : {A : Type 0} (test other : A → Bool) (xs : List A) → ((x : A) → test x ≡ true → other x ≡ true) → list_any test xs ≡ true → list_any other xs ≡ true
any_pass test other [] more h = h
any_pass test other (x ∷ xs) more h = elim (or_cases (test x) (list_any test xs) h) [
  | inl first ↦ or_from_left (other x) (list_any other xs) (more x first)
  | inr rest ↦ or_from_right (other x) (list_any other xs) (any_pass test other xs more rest)
]

-- a node of which a step gives no entry is dead
pub dead_of_step : (limit : ℕ) (table : LeastTable) (dead : List ℕ) → ((p : ℕ) → is_none (table p) ≡ true → is_among dead p ≡ true) → (n : Node)
    → least_datum limit table n ≡ None → is_dead_node dead n ≡ true
dead_of_step limit table dead covers (Node.union ids) h =
    all_pass (λ p. is_none (table p)) (is_among dead) ids covers (best_none table ids (around_none limit (best_of table ids) h))
dead_of_step limit table dead covers (Node.record_of name aliases fields) h =
    any_pass (λ p. is_none (table p)) (is_among dead) (field_ids fields) covers
    (all_none limit table (field_ids fields) (around_none limit (all_of limit table (field_ids fields)) h))
dead_of_step limit table dead covers _ h = absurd (grind arith)

-- so is a node without an entry
pub dead_of_none : (writer : List Node) (limit : ℕ) (table : LeastTable) (dead : List ℕ) → IsLowForData writer limit table
    → ((p : ℕ) → is_none (table p) ≡ true → is_among dead p ≡ true) → (p : ℕ) → table p ≡ None → is_dead_node dead (node_at writer p) ≡ true
dead_of_none writer limit table dead low covers p none = dead_of_step limit table dead covers (node_at writer p)
    (none_above (least_datum limit table (node_at writer p)) (λ s d m. subst (λ (e : Option Least). AtMost e s d) none (low p s d m)))

module _ (writer reader : List Node) (limit : ℕ) (table : LeastTable) (erring : ErringTable) where
  -- no entry: the writer's node is dead, or no datum errs
  abbrev pub is_calm : Pair → Bool
  is_calm c = is_none (table c.w) || is_none (erring c.w c.r)

  -- a pair without a fault of its own, none of whose children has an entry
  pub record IsCalm (w r : ℕ) (n q : Node) : Type 0 where
    pub faultless : has_local_fault writer reader n q ≡ false
    pub children : list_all is_calm (children_of writer reader w r n q) ≡ true

module _ (writer reader : List Node) (limit : ℕ) (table : LeastTable) (erring : ErringTable)
    (alive : (v : Value) (p : ℕ) → fits writer (node_at writer p) v ≡ true → is_some (table p) ≡ true) where
  abbrev calm : Pair → Bool
  calm = is_calm writer reader limit table erring

  abbrev Calm : ℕ → ℕ → Node → Node → Type 0
  Calm = IsCalm writer reader limit table erring

  all_alive : (ps : List ℕ) (vs : Values) → fields_fit writer ps vs ≡ true → is_some (all_of limit table ps) ≡ true
  all_alive [] vs h = refl
  all_alive (p ∷ ps) no_values h = absurd (false≢true h)
  all_alive (p ∷ ps) (value v vs) h = together_both limit (table p) (all_of limit table ps) (alive v p (and_left _ _ h)) (all_alive ps vs (and_right (fits writer (node_at writer p) v) _ h))

  quiet_none : (w r : ℕ) → erring w r ≡ None → calm (record { w = w; r = r }) ≡ true
  quiet_none w r h = or_from_right (is_none (table w)) (is_none (erring w r)) (ap is_none h)

  -- the fields of a record of which each has data
  fields_quiet : (fields theirs : List FieldNode) (index : ℕ) (ps : List ℕ) (vs : Values) → drop index (field_ids fields) ≡ ps → fields_fit writer ps vs ≡ true
      → err_of_fields limit table erring fields theirs index ps ≡ None → (k : ℕ) (f : FieldNode) → index ≤ k → k < index + length ps
      → reader_field fields theirs k ≡ Some f → calm (record { w = unwrap_or (slice_get (field_ids fields) k) 0; r = f.node }) ≡ true
  fields_quiet fields theirs index [] vs e h none k f from to found = absurd (omega (arith, from, to))
  fields_quiet fields theirs index (p ∷ ps) no_values e h none k f from to found = absurd (false≢true h)
  fields_quiet fields theirs index (p ∷ ps) (value v vs) e h none k f from to found = elim (cases_eq index k) [
    | inl same ↦ first same
    | inr apart ↦ fields_quiet fields theirs (suc index) ps vs (drop_more (field_ids fields) ps index p e) later_fit
        (right_none limit (table p) (err_of_fields limit table erring fields theirs (suc index) ps) both.1 live) k f (omega (arith, from, apart)) (omega (arith, to)) found
  ]
    where
      first_fit : fits writer (node_at writer p) v ≡ true
      first_fit = and_left (fits writer (node_at writer p) v) (fields_fit writer ps vs) h

      later_fit : fields_fit writer ps vs ≡ true
      later_fit = and_right (fits writer (node_at writer p) v) (fields_fit writer ps vs) h

      live : is_some (table p) ≡ true
      live = alive v p first_fit

      others : is_some (all_of limit table ps) ≡ true
      others = all_alive ps vs later_fit

      both : (together limit (err_of_field erring p (reader_field fields theirs index)) (all_of limit table ps) ≡ None)
          × (together limit (table p) (err_of_fields limit table erring fields theirs (suc index) ps) ≡ None)
      both = lesser_none (together limit (err_of_field erring p (reader_field fields theirs index)) (all_of limit table ps))
          (together limit (table p) (err_of_fields limit table erring fields theirs (suc index) ps)) none

      first : index ≡ k → calm (record { w = unwrap_or (slice_get (field_ids fields) k) 0; r = f.node }) ≡ true
      first same =
          let there : reader_field fields theirs index ≡ Some f = subst (λ (j : ℕ). reader_field fields theirs j ≡ Some f) (sym same) found in
          let gone : erring p f.node ≡ None = left_none limit (erring p f.node) (all_of limit table ps)
          (subst (λ (o : Option FieldNode). together limit (err_of_field erring p o) (all_of limit table ps) ≡ None) there both.0) others in
          subst (λ (j : ℕ). calm (record { w = unwrap_or (slice_get (field_ids fields) j) 0; r = f.node }) ≡ true) same
          (subst (λ (o : Option ℕ). calm (record { w = unwrap_or o 0; r = f.node }) ≡ true) (sym (slice_get_of_drop (field_ids fields) ps index p e)) (quiet_none p f.node gone))

  -- the sources of a record's fields
  children_quiet : (fields theirs gs : List FieldNode) → are_distinct bytes_eq (flat_map field_names theirs) ≡ true
      → ((g : FieldNode) → IsField g gs → IsField g theirs)
      → ((k : ℕ) (f : FieldNode) → k < length fields → reader_field fields theirs k ≡ Some f
      → calm (record { w = unwrap_or (slice_get (field_ids fields) k) 0; r = f.node }) ≡ true)
      → list_all calm (field_children fields gs) ≡ true
  children_quiet fields theirs [] distinct all each = refl
  children_quiet fields theirs (g ∷ gs) distinct all each =
      of_source (source_of fields g) refl (children_quiet fields theirs gs distinct (λ f is. all f (later is)) each)
    where
      of_source : (o : Option ℕ) → source_of fields g ≡ o → list_all calm (field_children fields gs) ≡ true → list_all calm (field_children fields (g ∷ gs)) ≡ true
      of_source None e rest = rw e rest
      of_source (Some k) e rest =
          let reads = reader_field-source fields theirs k g (all g here) distinct e in
          let named = first_index-named fields g (field_names g) k e in
          rw e (and_from (calm (record { w = unwrap_or (slice_get (field_ids fields) k) 0; r = g.node })) (list_all calm (field_children fields gs))
          (subst (λ (r : ℕ). calm (record { w = unwrap_or (slice_get (field_ids fields) k) 0; r = r }) ≡ true) reads.2 (each k reads.0 named.0 reads.1)) rest)

  -- two plain nodes that match
  inside_quiet : (w r : ℕ) (n q : Node) (v : Value) → branches_of n ≡ None → branches_of q ≡ None → is_some (table w) ≡ true → fits writer n v ≡ true → meets_its_rules reader q ≡ true
      → err_inside limit table erring w n q ≡ None → (has_fault_of_kind n q ≡ false) × (list_all calm (children_of writer reader w r n q) ≡ true)
  inside_quiet w r Node.bytes Node.string v plain their_plain live h rules none = absurd (grind arith)
  inside_quiet w r (Node.enum a xs symbols x) (Node.enum b ys theirs y) v plain their_plain live h rules none = chosen (lacks_symbol symbols theirs y) refl none
    where
      chosen : (t : Bool) → lacks_symbol symbols theirs y ≡ t → cond t (Some one) None ≡ None → (lacks_symbol symbols theirs y ≡ false) × (true ≡ true)
      chosen true e m = absurd (grind arith)
      chosen false e m = (e, refl)
  inside_quiet w r (Node.record_of a xs fields) (Node.record_of b ys theirs) v plain their_plain live h rules none = chosen (is_some (missing_field fields theirs)) refl none
    where
      quiet_fields : (v : Value) → fits writer (Node.record_of a xs fields) v ≡ true → err_of_fields limit table erring fields theirs 0 (field_ids fields) ≡ None
          → (k : ℕ) (f : FieldNode) → k < length fields → reader_field fields theirs k ≡ Some f
          → calm (record { w = unwrap_or (slice_get (field_ids fields) k) 0; r = f.node }) ≡ true
      quiet_fields (Value.record_of vs) fit m k f within found =
          fields_quiet fields theirs 0 (field_ids fields) vs refl fit m k f (omega arith) (omega (arith, subst (λ (n : ℕ). k < n) (sym (length-map fields (λ g. g.node))) within)) found
      quiet_fields (Value.array vs) fit m k f within found = absurd (false≢true (and_right (is_count (values_count vs)) false fit))
      quiet_fields (Value.map_of es) fit m k f within found = absurd (false≢true (and_right _ false fit))
      quiet_fields (Value.fixed c) fit m k f within found = absurd (false≢true (and_right (are_bytes c) false fit))
      quiet_fields _ fit m k f within found = absurd (false≢true fit)

      chosen : (t : Bool) → is_some (missing_field fields theirs) ≡ t
          → cond t (table w) (around limit (err_of_fields limit table erring fields theirs 0 (field_ids fields))) ≡ None
          → (is_some (missing_field fields theirs) ≡ false) × (list_all calm (field_children fields theirs) ≡ true)
      chosen true e m = absurd (false≢true (subst (λ (o : Option Least). is_some o ≡ true) m live))
      chosen false e m = (
        e,
        children_quiet fields theirs theirs
            (and_right (list_all is_simple_name (flat_map field_names theirs)) (are_distinct bytes_eq (flat_map field_names theirs))
            (and_left _ (list_all (has_good_default reader) theirs) rules)) (λ g is. is)
            (quiet_fields v h (around_none limit (err_of_fields limit table erring fields theirs 0 (field_ids fields)) m)),
      )
  inside_quiet w r (Node.array a) (Node.array b) v plain their_plain live h rules none = (refl, and_from (calm (record { w = a; r = b })) true (quiet_none a b (around_none limit (erring a b) none)) refl)
  inside_quiet w r (Node.map_of a) (Node.map_of b) v plain their_plain live h rules none = (refl, and_from (calm (record { w = a; r = b })) true (quiet_none a b (around_none limit (erring a b) none)) refl)
  inside_quiet w r (Node.union ps) _ v plain their_plain live h rules none = absurd (grind arith)
  inside_quiet w r _ (Node.union ps) v plain their_plain live h rules none = absurd (grind arith)
  inside_quiet w r _ _ v plain their_plain live h rules none = (refl, refl)

  -- two plain nodes
  plain_quiet : (w r : ℕ) (n q : Node) (v : Value) → branches_of n ≡ None → branches_of q ≡ None → is_some (table w) ≡ true → fits writer n v ≡ true
      → meets_its_rules reader q ≡ true → err_of writer reader limit table erring w r n q ≡ None → Calm w r n q
  plain_quiet w r n q v plain their_plain live h rules none =
      chosen (is_match writer reader n q) refl (sym (err_of_plain writer reader limit table erring w r n q plain their_plain) ∙ none)
    where
      chosen : (t : Bool) → is_match writer reader n q ≡ t → cond t (err_inside limit table erring w n q) (table w) ≡ None → Calm w r n q
      chosen true e m =
          let found = inside_quiet w r n q v plain their_plain live h rules m in
          record {
            faultless = fault_of_others writer reader n q plain their_plain ∙ subst (λ (b : Bool). (not b || has_fault_of_kind n q) ≡ false) (sym e) found.0;
            children = found.1;
          }
      chosen false e m = absurd (false≢true (subst (λ (o : Option Least). is_some o ≡ true) m live))

  -- a plain node and a union
  into_quiet : (w r : ℕ) (n : Node) (ids : List ℕ) → branches_of n ≡ None → is_some (table w) ≡ true
      → err_of writer reader limit table erring w r n (Node.union ids) ≡ None → Calm w r n (Node.union ids)
  into_quiet w r n ids plain live none = chosen (first_match writer reader n ids) refl
    where
      chosen : (o : Option ℕ) → first_match writer reader n ids ≡ o → Calm w r n (Node.union ids)
      chosen None e = absurd (false≢true (subst (λ (o : Option Least). is_some o ≡ true)
          (sym (err_of_none writer reader limit table erring w r n ids plain e) ∙ none) live))
      chosen (Some k) e =
          let gone = sym (err_of_some writer reader limit table erring w r n ids k plain e) ∙ none in
          record {
            faultless = fault_of_union writer reader n ids plain ∙ ap is_none e;
            children = subst (λ (ps : List Pair). list_all calm ps ≡ true) (sym (children_of_union writer reader w r n ids k plain e))
                (and_from (calm (record { w = w; r = unwrap_or (slice_get ids k) 0 })) true (quiet_none w (unwrap_or (slice_get ids k) 0) gone) refl);
          }

  -- any two nodes
  pub any_calm : (w r : ℕ) (n q : Node) (v : Value) → is_some (table w) ≡ true → fits writer n v ≡ true → meets_its_rules reader q ≡ true
      → err_of writer reader limit table erring w r n q ≡ None → Calm w r n q
  any_calm w r (Node.union ids) q v live h rules none = record {
    faultless = refl;
    children = list_all-map calm (λ p. record { w = p; r = r }) ids
        ∙ all_pass (λ p. is_none (erring p r)) (λ p. calm (record { w = p; r = r })) ids (λ p m. or_from_right (is_none (table p)) (is_none (erring p r)) m)
        (best_none (λ p. erring p r) ids (around_none limit (best_of (λ p. erring p r) ids) none));
  }
  any_calm w r n q v live h rules none = by_reader n q refl v live h rules none
    where
      by_reader : (n q : Node) → branches_of n ≡ None → (v : Value) → is_some (table w) ≡ true → fits writer n v ≡ true → meets_its_rules reader q ≡ true
          → err_of writer reader limit table erring w r n q ≡ None → Calm w r n q
      by_reader n (Node.union ids) plain v live h rules none = into_quiet w r n ids plain live none
      by_reader n q plain v live h rules none = plain_quiet w r n q v plain refl live h rules none

module _ (writer reader : List Node) (limit : ℕ) (table : LeastTable) (erring : ErringTable) (low : AreLow writer reader limit table erring)
    (formed : is_schema reader ≡ true) where
  abbrev pub is_quiet : Pair → Bool
  is_quiet = is_calm writer reader limit table erring

  abbrev pub IsQuiet : ℕ → ℕ → Node → Node → Type 0
  IsQuiet = IsCalm writer reader limit table erring

  -- where the writer's node has data and the pair has no entry
  pub quiet : AreDataShown writer limit table → (w r : ℕ) → is_some (table w) ≡ true → erring w r ≡ None → IsQuiet w r (node_at writer w) (node_at reader r)
  quiet shown w r live none =
      let own = shown w live in
      any_calm writer reader limit table erring (λ v p fit. some_below (table p) (size v) (depth v) (at_most_data writer limit table low.for_data v p fit)) w r (node_at writer w) (node_at reader r) own.datum live own.fitting (meets_rules_at reader r formed)
      (none_above (err_of writer reader limit table erring w r (node_at writer w) (node_at reader r))
      (λ s d m. step own s d m))
    where
      step : ShowsData writer limit (node_at writer w) (table w) → (s d : ℕ)
          → AtMost (err_of writer reader limit table erring w r (node_at writer w) (node_at reader r)) s d → ⊥
      step own s d m =
          let t = s + size own.datum in
          let f = max d (depth own.datum) in
          subst (λ (e : Option Least). AtMost e (s + size own.datum) (max d (depth own.datum))) none
          (low.for_errors w r (s + size own.datum) (max d (depth own.datum))
          (under_more_right (table w) s d (size own.datum) (depth own.datum) (at_most_data writer limit table low.for_data own.datum w own.fitting))
          (under_more_left (err_of writer reader limit table erring w r (node_at writer w) (node_at reader r)) s d (size own.datum) (depth own.datum) m))
