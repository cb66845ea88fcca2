-- The first fault of each datum is at a pair that its path leads to.
use Rattle.std.proofs.Common.{◌≡◌, ℕ, zero, suc, ◌<◌, Bool, true, false, cond, ◌||◌, List, [], ◌∷◌, ◌++◌, Option, Some, None, Ok, Err, length, drop, refl, sym, ◌∙◌, ap, subst, arith, slice_get, unwrap_or, option_and_then, nat_lt, is_some, position, bytes_eq, ◌==◌}
use Rattle.std.proofs.lemmas.Bool.{false≢true, eq-eqb, eqb-true, ltb-true}
use Rattle.std.specs.List.{list_any}
use Rattle.std.specs.Str.{is_utf8}
use Rattle.avro_schema.specs.Value.{Value, Values, Entries, no_values, value, no_entries, entry, values_count}
use Rattle.avro_schema.specs.Node.{Node, FieldNode, node_at, branches_of, items_node, values_node, fields_of, symbols_of, field_ids}
use Rattle.avro_schema.specs.Fits.{fits, each_fits, entries_fit, fields_fit, is_some_and, is_count, are_bytes, is_bytes_node}
use Rattle.avro_schema.specs.WellFormed.{is_schema}
use Rattle.avro_compare.specs.Fault.{ResolutionFault, fault_here, fault_in, no_match, not_utf8}
use Rattle.avro_compare.specs.Match.{Matches, arrays, enums, maps, reader_union, records, is_match, first_match}
use Rattle.avro_compare.specs.Source.{source_of, is_index, reader_field, missing_field_from, missing_field}
use Rattle.avro_compare.specs.Resolve.{Resolved, inside, result_map, matched, through, into_branch, int_as, bytes_as, string_as, enum_as, enum_or_default, part_at, symbol_at, fields_at, field_values, branch_node, record_or_missing, resolve, resolve_items, resolve_entries, resolve_sources}
use Rattle.avro_compare.specs.Children.{Pair}
use Rattle.avro_certificate.specs.Closed.{is_among, is_among_pairs, is_dead}
use Rattle.avro_certificate.specs.Compatible.{ErrsWith}
use Rattle.avro_certificate.specs.Evidence.{IsReached, roots, child}
use Rattle.avro_certificate.proofs.public.DeadNodes.{no_dead_datum}
use Rattle.avro_compare.proofs.public.MatchTest.{match_within-sound}
use Rattle.avro_compare.proofs.public.NodeKinds.{is_plain_value, plain_node, union_of_branches}
use Rattle.avro_certificate.proofs.public.Resolving.{slice_get_of_drop, drop_more}
use Rattle.avro_certificate.proofs.public.Shapes.{first_match_within, plain_branch}
use Rattle.avro_certificate.proofs.public.Successes.{succeeds_int, succeeds_string}
use Rattle.avro_compare.proofs.public.Symbols.{some_position}
use Rattle.avro_certificate.proofs.public.Tests.{and_left, and_right}
use Rattle.avro_explain.specs.Blamed.{cause_for, goes_to, is_choice, IsPath, ends, chooses, goes, IsFaultFrom, IsAtOne}
use Rattle.avro_explain.specs.Details.{lacking_one, lacking_from, missing_from, unless_some, details_of_kind, details_of}
use Rattle.avro_compare.specs.Leads.{lead_by, branch_leads, choice_leads, field_lead, field_leads, leads_of, leads_at, lead_pair}
use Rattle.avro_explain.specs.declared.found.Detail.{Detail}
use Rattle.avro_compare.specs.declared.comparison.Lead.{Lead}
use Rattle.avro_compare.specs.declared.comparison.Step.{Step}
use Rattle.avro_compare.proofs.public.LeadPairs.{lead_children}
use Rattle.avro_explain.proofs.LeadPairs.{lead_among}
use Rattle.avro_least.proofs.public.Faults.{Blames, blames_both, blames_good, blames_inside, blames_map, blames_more, blames_sourced}
use Rattle.avro_least.proofs.public.Keys.{some_same}
use Rattle.avro_explain.proofs.LocalFaults.{details_of_union, details_of_others}
use Rattle.avro_certificate.proofs.public.FaultyResults.{through_is_matched}

-- where things stand among others

detail_shifted : (ds es : List Detail) (i : ℕ) (d : Detail) → slice_get es i ≡ Some d → (k : ℕ) × (slice_get (ds ++ es) k ≡ Some d)
detail_shifted [] es i d h = (i, h)
detail_shifted (x ∷ ds) es i d h = let own = detail_shifted ds es i d h in (suc own.0, own.1)

-- the missing field is among the missing ones
missing_there : (index : ℕ) (fields theirs : List FieldNode) (m : ℕ) → missing_field_from index fields theirs ≡ Some m
    → (i : ℕ) × (slice_get (missing_from index fields theirs) i ≡ Some (Detail.MissingField m))
missing_there index fields [] m h = absurd (grind arith)
missing_there index fields (f ∷ theirs) m h = chosen (is_some (source_of fields f) || is_some f.default) refl h (missing_there (suc index) fields theirs m)
  where
    chosen : (t : Bool) → (is_some (source_of fields f) || is_some f.default) ≡ t → cond t (missing_field_from (suc index) fields theirs) (Some index) ≡ Some m
        → (missing_field_from (suc index) fields theirs ≡ Some m → (i : ℕ) × (slice_get (missing_from (suc index) fields theirs) i ≡ Some (Detail.MissingField m)))
        → (i : ℕ) × (slice_get (cond t [] (Detail.MissingField index ∷ []) ++ missing_from (suc index) fields theirs) i ≡ Some (Detail.MissingField m))
    chosen true e g later = later g
    chosen false e g later = (0, ap (λ (k : ℕ). Some (Detail.MissingField k)) (some_same index m g))

-- a symbol that the reader lacks is among those that it lacks
lacking_there : (index : ℕ) (symbols theirs : List (List ℕ)) (k : ℕ) → k < length symbols
    → list_any (bytes_eq (unwrap_or (slice_get symbols k) [])) theirs ≡ false
    → (i : ℕ) × ((n : ℕ) × (slice_get (lacking_from index symbols theirs) i ≡ Some (Detail.NoSymbol n)))
lacking_there index [] theirs k h none = absurd (omega (arith, h))
lacking_there index (s ∷ ss) theirs zero h none =
    (0, (index, ap (λ (t : Bool). slice_get (cond t [] (Detail.NoSymbol index ∷ []) ++ lacking_from (suc index) ss theirs) 0) none))
lacking_there index (s ∷ ss) theirs (suc k) h none =
    let own = lacking_there (suc index) ss theirs k (omega (arith, h)) none in
    let more = detail_shifted (lacking_one index s theirs) (lacking_from (suc index) ss theirs) own.0 (Detail.NoSymbol own.1.0) own.1.1 in
    (more.0, (own.1.0, more.1))

-- the branch at an index
branch_there : (index r : ℕ) (ids : List ℕ) (k id : ℕ) → slice_get ids k ≡ Some id
    → (j : ℕ) × ((n : ℕ) × (slice_get (branch_leads index r ids) j ≡ Some (lead_by (Step.Branch n) id r)))
branch_there index r [] k id h = absurd (grind arith)
branch_there index r (b ∷ bs) zero id h = (0, (index, ap (λ (x : ℕ). Some (lead_by (Step.Branch index) x r)) (some_same b id h)))
branch_there index r (b ∷ bs) (suc k) id h = let own = branch_there (suc index) r bs k id h in (suc own.0, own.1)

-- the reader's field whose source is at an index
field_there : (index : ℕ) (fields theirs : List FieldNode) (s : ℕ) (f : FieldNode) → reader_field fields theirs s ≡ Some f
    → (j : ℕ) × ((n : ℕ) × (slice_get (field_leads index fields theirs) j ≡ Some (lead_by (Step.Field s n) (unwrap_or (slice_get (field_ids fields) s) 0) f.node)))
field_there index fields [] s f h = absurd (grind arith)
field_there index fields (g ∷ gs) s f h = of_source (source_of fields g) h (field_there (suc index) fields gs s f)
  where
    of_source : (o : Option ℕ) → cond (is_index o s) (Some g) (reader_field fields gs s) ≡ Some f
        → (reader_field fields gs s ≡ Some f → (j : ℕ) × ((n : ℕ) × (slice_get (field_leads (suc index) fields gs) j ≡ Some (lead_by (Step.Field s n) (unwrap_or (slice_get (field_ids fields) s) 0) f.node))))
        → (j : ℕ) × ((n : ℕ) × (slice_get (field_lead index fields g o ++ field_leads (suc index) fields gs) j ≡ Some (lead_by (Step.Field s n) (unwrap_or (slice_get (field_ids fields) s) 0) f.node)))
    of_source None e later = later e
    of_source (Some k) e later = chosen (k == s) refl e
      where
        chosen : (t : Bool) → (k == s) ≡ t → cond t (Some g) (reader_field fields gs s) ≡ Some f
            → (j : ℕ) × ((n : ℕ) × (slice_get (lead_by (Step.Field k index) (unwrap_or (slice_get (field_ids fields) k) 0) g.node ∷ field_leads (suc index) fields gs) j
            ≡ Some (lead_by (Step.Field s n) (unwrap_or (slice_get (field_ids fields) s) 0) f.node)))
        chosen true is got = (
          0,
          (
            index,
            ap (λ (x : ℕ). Some (lead_by (Step.Field x index) (unwrap_or (slice_get (field_ids fields) x) 0) g.node)) (eqb-true k s is)
                ∙ ap (λ (x : FieldNode). Some (lead_by (Step.Field s index) (unwrap_or (slice_get (field_ids fields) s) 0) x.node)) (some_same g f got),
          ),
        )
        chosen false is got = let own = later got in (suc own.0, own.1)

module _ (writer reader : List Node) (dead : List ℕ) (dead_set : is_dead writer dead ≡ true) (formed : is_schema reader ≡ true) where
  abbrev From : ℕ → ℕ → ResolutionFault → Type 0
  From w r fault = IsFaultFrom writer reader dead (record { w = w; r = r }) fault

  lives : (v : Value) (w : ℕ) → fits writer (node_at writer w) v ≡ true → is_among dead w ≡ false
  lives v w h = decided (is_among dead w) refl
    where
      decided : (t : Bool) → is_among dead w ≡ t → t ≡ false
      decided true e = absurd (no_dead_datum writer dead dead_set v w e h)
      decided false e = refl

  fault_at : (w r index : ℕ) (detail : Detail) → is_among dead w ≡ false → slice_get (details_of writer reader (node_at writer w) (node_at reader r)) index ≡ Some detail
      → From w r (fault_here (cause_for detail))
  fault_at w r index detail live h =
      record { live = live; pair = record { w = w; r = r }; path = ends (record { w = w; r = r }); index = index; detail = detail; there = h; cause = refl }

  go_down : (w r j x : ℕ) (lead : Lead) → is_among dead w ≡ false → slice_get (leads_at writer reader w r) j ≡ Some lead → goes_to lead.step x ≡ true
      → (e : ResolutionFault) → From lead.w.0 lead.r.0 e → From w r (fault_in x e)
  go_down w r j x lead live got down e own = record {
    live = live;
    pair = own.pair;
    path = goes (record { w = w; r = r }) j lead x e.path own.pair got down own.live own.path;
    index = own.index;
    detail = own.detail;
    there = own.there;
    cause = own.cause;
  }

  go_across : (w r j : ℕ) (lead : Lead) → is_among dead w ≡ false → slice_get (leads_at writer reader w r) j ≡ Some lead → is_choice lead.step ≡ true
      → (e : ResolutionFault) → From lead.w.0 lead.r.0 e → From w r e
  go_across w r j lead live got choice e own = record {
    live = live;
    pair = own.pair;
    path = chooses (record { w = w; r = r }) j lead e.path own.pair got choice own.live own.path;
    index = own.index;
    detail = own.detail;
    there = own.there;
    cause = own.cause;
  }

  -- two nodes that are no unions
  blames_matched : (w r : ℕ) (f : Node → Resolved) → is_among dead w ≡ false → branches_of (node_at writer w) ≡ None → branches_of (node_at reader r) ≡ None
      → (is_match writer reader (node_at writer w) (node_at reader r) ≡ true → Blames (From w r) (f (node_at reader r)))
      → Blames (From w r) (matched writer reader (node_at writer w) (node_at reader r) f)
  blames_matched w r f live plain theirs each = decided (is_match writer reader (node_at writer w) (node_at reader r)) refl
    where
      decided : (t : Bool) → is_match writer reader (node_at writer w) (node_at reader r) ≡ t → Blames (From w r) (cond t (f (node_at reader r)) (Err (fault_here no_match)))
      decided true e = each e
      decided false e = fault_at w r 0 Detail.NoMatch live
          (ap (λ (ds : List Detail). slice_get ds 0) (details_of_others writer reader (node_at writer w) (node_at reader r) plain theirs
          ∙ ap (λ (t : Bool). cond t (details_of_kind (node_at writer w) (node_at reader r)) (Detail.NoMatch ∷ [])) e))

  choice_there : (w r k : ℕ) (n : Node) (ids : List ℕ) → branches_of n ≡ None → first_match writer reader n ids ≡ Some k
      → leads_of writer reader w r n (Node.union ids) ≡ lead_by (Step.Choice k) w (unwrap_or (slice_get ids k) 0) ∷ []
  choice_there w r k (Node.union ps) ids h e = absurd (grind arith)
  choice_there w r k _ ids h e = ap (choice_leads w ids) e

  -- a writer's node that is no union, and any reader's node
  blames_through : (w r : ℕ) (f : Node → Resolved) → is_among dead w ≡ false → branches_of (node_at writer w) ≡ None
      → ((b : ℕ) → branches_of (node_at reader b) ≡ None → is_match writer reader (node_at writer w) (node_at reader b) ≡ true → Blames (From w b) (f (node_at reader b)))
      → Blames (From w r) (through writer reader (node_at writer w) (node_at reader r) f)
  blames_through w r f live plain each = by_reader (branches_of (node_at reader r)) refl
    where
      of_choice : (ids : List ℕ) → node_at reader r ≡ Node.union ids → (o : Option ℕ) → first_match writer reader (node_at writer w) ids ≡ o
          → Blames (From w r) (into_branch writer reader (node_at writer w) ids o f)
      of_choice ids is None e = fault_at w r 0 Detail.NoBranch live
          (ap (λ (q : Node). slice_get (details_of writer reader (node_at writer w) q) 0) is
          ∙ ap (λ (ds : List Detail). slice_get ds 0) (details_of_union writer reader (node_at writer w) ids plain ∙ ap unless_some e))
      of_choice ids is (Some k) e =
          let b : ℕ = unwrap_or (slice_get ids k) 0 in
          let found = first_match_within writer reader (node_at writer w) ids k e in
          let theirs : branches_of (node_at reader b) ≡ None =
          subst (λ (o : Option ℕ). branches_of (node_at reader (unwrap_or o 0)) ≡ None) (sym found.1) (plain_branch reader r ids k found.0 formed is found.1) in
          blames_map (From w r) (Value.union k) (matched writer reader (node_at writer w) (node_at reader b) f)
          (blames_more (From w b) (From w r) (matched writer reader (node_at writer w) (node_at reader b) f)
          (go_across w r 0 (lead_by (Step.Choice k) w b) live
          (ap (λ (q : Node). slice_get (leads_of writer reader w r (node_at writer w) q) 0) is
          ∙ ap (λ (ls : List Lead). slice_get ls 0) (choice_there w r k (node_at writer w) ids plain e)) refl)
          (blames_matched w b f live plain theirs (each b theirs)))

      by_reader : (o : Option (List ℕ)) → branches_of (node_at reader r) ≡ o → Blames (From w r) (through writer reader (node_at writer w) (node_at reader r) f)
      by_reader None e = subst (λ (x : Resolved). Blames (From w r) x) (sym (through_is_matched writer reader (node_at writer w) (node_at reader r) f e))
          (blames_matched w r f live plain e (each r e))
      by_reader (Some ids) e =
          let is : node_at reader r ≡ Node.union ids = union_of_branches (node_at reader r) ids e in
          subst (λ (q : Node). Blames (From w r) (through writer reader (node_at writer w) q f)) (sym is)
          (of_choice ids is (first_match writer reader (node_at writer w) ids) refl)

  -- at a pair that matches, the faults are those of its kind
  kind_there : (w r index : ℕ) (detail : Detail) → branches_of (node_at writer w) ≡ None → branches_of (node_at reader r) ≡ None
      → is_match writer reader (node_at writer w) (node_at reader r) ≡ true → slice_get (details_of_kind (node_at writer w) (node_at reader r)) index ≡ Some detail
      → slice_get (details_of writer reader (node_at writer w) (node_at reader r)) index ≡ Some detail
  kind_there w r index detail plain theirs m h =
      ap (λ (ds : List Detail). slice_get ds index) (details_of_others writer reader (node_at writer w) (node_at reader r) plain theirs
      ∙ ap (λ (t : Bool). cond t (details_of_kind (node_at writer w) (node_at reader r)) (Detail.NoMatch ∷ [])) m) ∙ h

  -- bytes
  blames_bytes : (bs : List ℕ) (w b : ℕ) (n q : Node) → node_at writer w ≡ n → node_at reader b ≡ q → is_among dead w ≡ false → branches_of (node_at writer w) ≡ None
      → branches_of (node_at reader b) ≡ None → is_match writer reader (node_at writer w) (node_at reader b) ≡ true → is_bytes_node n ≡ true → Blames (From w b) (bytes_as bs q)
  blames_bytes bs w b Node.bytes Node.string from to live plain theirs m h = decided (is_utf8 bs)
    where
      decided : (t : Bool) → Blames (From w b) (cond t (Ok (Value.string bs)) (Err (fault_here not_utf8)))
      decided true = tt
      decided false = fault_at w b 0 Detail.NotUtf8 live (kind_there w b 0 Detail.NotUtf8 plain theirs m
          (ap (λ (x : Node). slice_get (details_of_kind x (node_at reader b)) 0) from ∙ ap (λ (x : Node). slice_get (details_of_kind Node.bytes x) 0) to))
  blames_bytes bs w b Node.bytes _ from to live plain theirs m h = tt
  blames_bytes bs w b _ _ from to live plain theirs m h = absurd (false≢true h)

  -- a symbol
  blames_symbol : (w b k : ℕ) (n q : Node) → node_at writer w ≡ n → node_at reader b ≡ q → is_among dead w ≡ false → branches_of (node_at writer w) ≡ None
      → branches_of (node_at reader b) ≡ None → is_match writer reader (node_at writer w) (node_at reader b) ≡ true → Matches writer reader n q → branches_of q ≡ None
      → is_some_and (λ symbols. nat_lt k (length symbols)) (symbols_of n) ≡ true → Blames (From w b) (enum_as (symbol_at n k) q)
  blames_symbol w b k (Node.enum a xs symbols x) _ from to live plain theirs m reader_union their_plain h = absurd (grind arith)
  blames_symbol w b k (Node.enum a xs symbols x) _ from to live plain theirs m (enums {b = c} {b_aliases = ys} {ys = others} {y = y} alike) their_plain h =
      decided (position (λ t. bytes_eq t (unwrap_or (slice_get symbols k) [])) others) y (some_position (unwrap_or (slice_get symbols k) []) others) refl
    where
      decided : (o d : Option ℕ) → is_some o ≡ list_any (bytes_eq (unwrap_or (slice_get symbols k) [])) others → y ≡ d → Blames (From w b) (enum_or_default o d)
      decided (Some i) d e g = tt
      decided None (Some i) e g = tt
      decided None None e g =
          let found = lacking_there 0 symbols others k (ltb-true k (length symbols) h) (sym e) in
          fault_at w b found.0 (Detail.NoSymbol found.1.0) live (kind_there w b found.0 (Detail.NoSymbol found.1.0) plain theirs m
          (ap (λ (p : Node). slice_get (details_of_kind p (node_at reader b)) found.0) from ∙ ap (λ (p : Node). slice_get (details_of_kind (Node.enum a xs symbols x) p) found.0) to
          ∙ ap (λ (d : Option ℕ). slice_get (details_of_kind (Node.enum a xs symbols x) (Node.enum c ys others d)) found.0) g ∙ found.1.1))
  blames_symbol w b k _ q from to live plain theirs m inside their_plain h = absurd (false≢true h)

  -- a record whose fields are those of others, or that lacks one
  blames_record : (vs : Values) (w b : ℕ) (n q : Node) → node_at writer w ≡ n → node_at reader b ≡ q → is_among dead w ≡ false → branches_of (node_at writer w) ≡ None
      → branches_of (node_at reader b) ≡ None → is_match writer reader (node_at writer w) (node_at reader b) ≡ true → Matches writer reader n q → branches_of q ≡ None
      → is_some_and (λ fields. fields_fit writer (field_ids fields) vs) (fields_of n) ≡ true
      → ((fields theirs : List FieldNode) → leads_at writer reader w b ≡ field_leads 0 fields theirs → fields_fit writer (field_ids fields) vs ≡ true
      → Blames (From w b) (resolve_sources writer reader fields theirs 0 vs))
      → Blames (From w b) (record_or_missing (fields_at n) (fields_at q) (missing_field (fields_at n) (fields_at q)) (resolve_sources writer reader (fields_at n) (fields_at q) 0 vs))
  blames_record vs w b (Node.record_of a xs fields) _ from to live plain theirs m reader_union their_plain h each = absurd (grind arith)
  blames_record vs w b (Node.record_of a xs fields) _ from to live plain theirs m (records {gs = others} alike) their_plain h each =
      decided (missing_field fields others) refl
    where
      decided : (o : Option ℕ) → missing_field fields others ≡ o → Blames (From w b) (record_or_missing fields others o (resolve_sources writer reader fields others 0 vs))
      decided (Some i) e =
          let found = missing_there 0 fields others i e in
          fault_at w b found.0 (Detail.MissingField i) live (kind_there w b found.0 (Detail.MissingField i) plain theirs m
          (ap (λ (p : Node). slice_get (details_of_kind p (node_at reader b)) found.0) from ∙ ap (λ (p : Node). slice_get (details_of_kind (Node.record_of a xs fields) p) found.0) to ∙ found.1))
      decided None e = blames_map (From w b) (λ found. Value.record_of (field_values fields found others)) (resolve_sources writer reader fields others 0 vs)
          (each fields others (ap (λ (p : Node). leads_of writer reader w b p (node_at reader b)) from ∙ ap (leads_of writer reader w b (Node.record_of a xs fields)) to) h)
  blames_record vs w b _ q from to live plain theirs m inside their_plain h each = absurd (false≢true h)

  -- items
  blames_array : (vs : Values) (w b : ℕ) (n q : Node) → node_at writer w ≡ n → node_at reader b ≡ q → Matches writer reader n q → branches_of q ≡ None
      → is_some_and (λ id. each_fits writer (node_at writer id) vs) (items_node n) ≡ true
      → ((x y : ℕ) → leads_at writer reader w b ≡ lead_by Step.Items x y ∷ [] → each_fits writer (node_at writer x) vs ≡ true
      → Blames (From w b) (resolve_items writer reader (node_at writer x) (node_at reader y) 0 vs))
      → Blames (From w b) (result_map Value.array (resolve_items writer reader (part_at writer (items_node n)) (part_at reader (items_node q)) 0 vs))
  blames_array vs w b (Node.array x) _ from to reader_union plain h each = absurd (grind arith)
  blames_array vs w b (Node.array x) _ from to (arrays {b = y} inner) plain h each =
      blames_map (From w b) Value.array (resolve_items writer reader (node_at writer x) (node_at reader y) 0 vs)
      (each x y (ap (λ (p : Node). leads_of writer reader w b p (node_at reader b)) from ∙ ap (leads_of writer reader w b (Node.array x)) to) h)
  blames_array vs w b _ q from to inside plain h each = absurd (false≢true h)

  -- entries
  blames_map_of : (es : Entries) (w b : ℕ) (n q : Node) → node_at writer w ≡ n → node_at reader b ≡ q → Matches writer reader n q → branches_of q ≡ None
      → is_some_and (λ id. entries_fit writer (node_at writer id) es) (values_node n) ≡ true
      → ((x y : ℕ) → leads_at writer reader w b ≡ lead_by Step.Values x y ∷ [] → entries_fit writer (node_at writer x) es ≡ true
      → Blames (From w b) (resolve_entries writer reader (node_at writer x) (node_at reader y) 0 es))
      → Blames (From w b) (result_map Value.map_of (resolve_entries writer reader (part_at writer (values_node n)) (part_at reader (values_node q)) 0 es))
  blames_map_of es w b (Node.map_of x) _ from to reader_union plain h each = absurd (grind arith)
  blames_map_of es w b (Node.map_of x) _ from to (maps {b = y} inner) plain h each =
      blames_map (From w b) Value.map_of (resolve_entries writer reader (node_at writer x) (node_at reader y) 0 es)
      (each x y (ap (λ (p : Node). leads_of writer reader w b p (node_at reader b)) from ∙ ap (leads_of writer reader w b (Node.map_of x)) to) h)
  blames_map_of es w b _ q from to inside plain h each = absurd (false≢true h)

  -- the branch that a datum takes of the writer's union
  blames_union : (v : Value) (k w r : ℕ) (n : Node) → node_at writer w ≡ n → is_among dead w ≡ false
      → is_some_and (λ id. fits writer (node_at writer id) v) (option_and_then (λ ids. slice_get ids k) (branches_of n)) ≡ true
      → ((id : ℕ) → fits writer (node_at writer id) v ≡ true → Blames (From id r) (resolve writer reader (node_at writer id) (node_at reader r) v))
      → Blames (From w r) (inside 0 (resolve writer reader (branch_node writer (unwrap_or (branches_of n) []) k) (node_at reader r) v))
  blames_union v k w r (Node.union ids) from live h each = taken (slice_get ids k) refl h
    where
      taken : (o : Option ℕ) → slice_get ids k ≡ o → is_some_and (λ id. fits writer (node_at writer id) v) o ≡ true
          → Blames (From w r) (inside 0 (resolve writer reader (branch_node writer ids k) (node_at reader r) v))
      taken None here passes = absurd (false≢true passes)
      taken (Some id) here passes =
          let found = branch_there 0 r ids k id here in
          subst (λ (o : Option ℕ). Blames (From w r) (inside 0 (resolve writer reader (node_at writer (unwrap_or o 0)) (node_at reader r) v))) (sym here)
          (blames_inside (From id r) (From w r) 0 (resolve writer reader (node_at writer id) (node_at reader r) v)
          (go_down w r found.0 0 (lead_by (Step.Branch found.1.0) id r) live (ap (λ (p : Node). slice_get (leads_of writer reader w r p (node_at reader r)) found.0) from ∙ found.1.1) refl)
          (each id passes))
  blames_union v k w r _ from live h each = absurd (false≢true h)

  plain_of : (v : Value) (w : ℕ) → is_plain_value v ≡ true → fits writer (node_at writer w) v ≡ true → branches_of (node_at writer w) ≡ None
  plain_of v w plain h = plain_node writer (node_at writer w) v plain h

  -- by induction on the datum
  mutual
    blames : (v : Value) (w r : ℕ) → fits writer (node_at writer w) v ≡ true → Blames (From w r) (resolve writer reader (node_at writer w) (node_at reader r) v)
    blames Value.null w r h = blames_through w r (λ q. Ok Value.null) (lives Value.null w h) (plain_of Value.null w refl h) (λ b p m. tt)
    blames (Value.boolean x) w r h = blames_through w r (λ q. Ok (Value.boolean x)) (lives (Value.boolean x) w h) (plain_of (Value.boolean x) w refl h) (λ b p m. tt)
    blames (Value.int i) w r h = blames_through w r (int_as i) (lives (Value.int i) w h) (plain_of (Value.int i) w refl h)
        (λ b p m. blames_good (From w b) (int_as i (node_at reader b)) (succeeds_int i (node_at reader b)))
    blames (Value.long i) w r h = blames_through w r (λ q. Ok (Value.long i)) (lives (Value.long i) w h) (plain_of (Value.long i) w refl h) (λ b p m. tt)
    blames (Value.bytes x) w r h = blames_through w r (bytes_as x) (lives (Value.bytes x) w h) (plain_of (Value.bytes x) w refl h)
        (λ b p m. blames_bytes x w b (node_at writer w) (node_at reader b) refl refl (lives (Value.bytes x) w h) (plain_of (Value.bytes x) w refl h) p m
        (and_left (is_bytes_node (node_at writer w)) (are_bytes x) h))
    blames (Value.string t) w r h = blames_through w r (string_as t) (lives (Value.string t) w h) (plain_of (Value.string t) w refl h)
        (λ b p m. blames_good (From w b) (string_as t (node_at reader b)) (succeeds_string t (node_at reader b)))
    blames (Value.array vs) w r h = blames_through w r
        (λ q. result_map Value.array (resolve_items writer reader (part_at writer (items_node (node_at writer w))) (part_at reader (items_node q)) 0 vs))
        (lives (Value.array vs) w h) (plain_of (Value.array vs) w refl h)
        (λ b p m. blames_array vs w b (node_at writer w) (node_at reader b) refl refl (match_within-sound (length writer) writer reader (node_at writer w) (node_at reader b) m) p
        (and_right (is_count (values_count vs)) (is_some_and (λ id. each_fits writer (node_at writer id) vs) (items_node (node_at writer w))) h)
        (λ x y is f. blames_items vs x y 0 w b (lives (Value.array vs) w h) is f))
    blames (Value.map_of es) w r h = blames_through w r
        (λ q. result_map Value.map_of (resolve_entries writer reader (part_at writer (values_node (node_at writer w))) (part_at reader (values_node q)) 0 es))
        (lives (Value.map_of es) w h) (plain_of (Value.map_of es) w refl h)
        (λ b p m. blames_map_of es w b (node_at writer w) (node_at reader b) refl refl (match_within-sound (length writer) writer reader (node_at writer w) (node_at reader b) m) p
        (and_right _ (is_some_and (λ id. entries_fit writer (node_at writer id) es) (values_node (node_at writer w))) h)
        (λ x y is f. blames_entries es x y 0 w b (lives (Value.map_of es) w h) is f))
    blames (Value.union k v) w r h = blames_union v k w r (node_at writer w) refl (lives (Value.union k v) w h) h (λ id f. blames v id r f)
    blames (Value.record_of vs) w r h = blames_through w r
        (λ q. record_or_missing (fields_at (node_at writer w)) (fields_at q) (missing_field (fields_at (node_at writer w)) (fields_at q))
        (resolve_sources writer reader (fields_at (node_at writer w)) (fields_at q) 0 vs))
        (lives (Value.record_of vs) w h) (plain_of (Value.record_of vs) w refl h)
        (λ b p m. blames_record vs w b (node_at writer w) (node_at reader b) refl refl (lives (Value.record_of vs) w h) (plain_of (Value.record_of vs) w refl h) p m (match_within-sound (length writer) writer reader (node_at writer w) (node_at reader b) m) p h
        (λ fields theirs is f. blames_sources vs fields theirs 0 w b (lives (Value.record_of vs) w h) is (field_ids fields) refl f))
    blames (Value.enum k) w r h = blames_through w r (enum_as (symbol_at (node_at writer w) k)) (lives (Value.enum k) w h) (plain_of (Value.enum k) w refl h)
        (λ b p m. blames_symbol w b k (node_at writer w) (node_at reader b) refl refl (lives (Value.enum k) w h) (plain_of (Value.enum k) w refl h) p m (match_within-sound (length writer) writer reader (node_at writer w) (node_at reader b) m) p h)
    blames (Value.fixed x) w r h = blames_through w r (λ q. Ok (Value.fixed x)) (lives (Value.fixed x) w h) (plain_of (Value.fixed x) w refl h) (λ b p m. tt)

    -- the items
    blames_items : (vs : Values) (x y index w b : ℕ) → is_among dead w ≡ false → leads_at writer reader w b ≡ lead_by Step.Items x y ∷ []
        → each_fits writer (node_at writer x) vs ≡ true → Blames (From w b) (resolve_items writer reader (node_at writer x) (node_at reader y) index vs)
    blames_items no_values x y index w b live is h = tt
    blames_items (value v vs) x y index w b live is h =
        blames_both (From w b) value (inside index (resolve writer reader (node_at writer x) (node_at reader y) v))
        (resolve_items writer reader (node_at writer x) (node_at reader y) (suc index) vs)
        (blames_inside (From x y) (From w b) index (resolve writer reader (node_at writer x) (node_at reader y) v)
        (go_down w b 0 index (lead_by Step.Items x y) live (ap (λ (ls : List Lead). slice_get ls 0) is) refl)
        (blames v x y (and_left (fits writer (node_at writer x) v) (each_fits writer (node_at writer x) vs) h)))
        (blames_items vs x y (suc index) w b live is (and_right (fits writer (node_at writer x) v) (each_fits writer (node_at writer x) vs) h))

    -- the entries
    blames_entries : (es : Entries) (x y index w b : ℕ) → is_among dead w ≡ false → leads_at writer reader w b ≡ lead_by Step.Values x y ∷ []
        → entries_fit writer (node_at writer x) es ≡ true → Blames (From w b) (resolve_entries writer reader (node_at writer x) (node_at reader y) index es)
    blames_entries no_entries x y index w b live is h = tt
    blames_entries (entry k v es) x y index w b live is h =
        blames_both (From w b) (entry k) (inside index (resolve writer reader (node_at writer x) (node_at reader y) v))
        (resolve_entries writer reader (node_at writer x) (node_at reader y) (suc index) es)
        (blames_inside (From x y) (From w b) index (resolve writer reader (node_at writer x) (node_at reader y) v)
        (go_down w b 0 index (lead_by Step.Values x y) live (ap (λ (ls : List Lead). slice_get ls 0) is) refl)
        (blames v x y (and_left (fits writer (node_at writer x) v) (entries_fit writer (node_at writer x) es) h)))
        (blames_entries es x y (suc index) w b live is (and_right (fits writer (node_at writer x) v) (entries_fit writer (node_at writer x) es) h))

    -- the writer's fields from an index on
    blames_sources : (vs : Values) (fields theirs : List FieldNode) (index w b : ℕ) → is_among dead w ≡ false → leads_at writer reader w b ≡ field_leads 0 fields theirs
        → (ids : List ℕ) → drop index (field_ids fields) ≡ ids → fields_fit writer ids vs ≡ true → Blames (From w b) (resolve_sources writer reader fields theirs index vs)
    blames_sources no_values fields theirs index w b live is ids e h = tt
    blames_sources (value v vs) fields theirs index w b live is [] e h = absurd (false≢true h)
    blames_sources (value v vs) fields theirs index w b live is (p ∷ ps) e h =
        blames_sourced (From w b) (reader_field fields theirs index) index _ (resolve_sources writer reader fields theirs (suc index) vs)
        (λ f here.
        let found = field_there 0 fields theirs index f here in
        let x : ℕ = unwrap_or (slice_get (field_ids fields) index) 0 in
        blames_inside (From x f.node) (From w b) index (resolve writer reader (node_at writer x) (node_at reader f.node) v)
        (go_down w b found.0 index (lead_by (Step.Field index found.1.0) x f.node) live (ap (λ (ls : List Lead). slice_get ls found.0) is ∙ found.1.1) (eq-eqb index index refl))
        (blames v x f.node
        (subst (λ (o : Option ℕ). fits writer (node_at writer (unwrap_or o 0)) v ≡ true) (sym (slice_get_of_drop (field_ids fields) ps index p e))
        (and_left (fits writer (node_at writer p) v) (fields_fit writer ps vs) h))))
        (blames_sources vs fields theirs (suc index) w b live is ps (drop_more (field_ids fields) ps index p e)
        (and_right (fits writer (node_at writer p) v) (fields_fit writer ps vs) h))

  led : (p : Pair) (j : ℕ) (lead : Lead) → slice_get (leads_at writer reader p.w p.r) j ≡ Some lead → is_among dead lead.w.0 ≡ false → IsReached writer reader dead p
      → IsReached writer reader dead (lead_pair lead)
  led p j lead got live before = child p (lead_pair lead) before
      (subst (λ (ps : List Pair). is_among_pairs ps (lead_pair lead) ≡ true) (lead_children writer reader p.w p.r (node_at writer p.w) (node_at reader p.r))
      (lead_among (leads_at writer reader p.w p.r) j lead got)) live

  -- what a path leads to from a pair that is reached, is reached
  path_reached : (p : Pair) (path : List ℕ) (q : Pair) → IsPath writer reader dead p path q → IsReached writer reader dead p → IsReached writer reader dead q
  path_reached p path q (ends s) before = before
  path_reached p path q (chooses a j lead more c got choice live rest) before = path_reached (lead_pair lead) more c rest (led a j lead got live before)
  path_reached p path q (goes a j lead x more c got down live rest) before = path_reached (lead_pair lead) more c rest (led a j lead got live before)

  pub first_found : (v : Value) (fault : ResolutionFault) → ErrsWith writer reader v fault → IsAtOne writer reader dead fault
  first_found v fault errs =
      let found : From 0 0 fault = subst (λ (x : Resolved). Blames (From 0 0) x) errs.faulty (blames v 0 0 errs.fitting) in
      record { found = found; reached = path_reached (record { w = 0; r = 0 }) fault.path found.pair found.path (roots found.live) }
