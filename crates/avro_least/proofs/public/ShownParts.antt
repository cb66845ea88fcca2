-- An entry by one part of a pair, or by none, has a datum that errs.
use Rattle.std.proofs.Common.{◌≡◌, ℕ, zero, suc, ◌*◌, ◌/◌, ◌%◌, ◌<◌, Bool, true, false, cond, inl, inr, List, [], ◌∷◌, drop, Option, Some, None, length, refl, sym, subst, slice_get, unwrap_or, option_map, map, is_some}
use Rattle.std.proofs.lemmas.Bool.{false≢true}
use Rattle.std.proofs.lemmas.Option.{slice_get-map}
use Rattle.std.specs.List.{list_all}
use Rattle.avro_schema.specs.Node.{Node, FieldNode, node_at, field_ids}
use Rattle.avro_schema.specs.WellFormed.{is_schema}
use Rattle.avro_schema.specs.Value.{size, depth}
use Rattle.avro_compare.specs.Resolve.{resolve}
use Rattle.avro_least.specs.BuiltErrors.{lone_value, part_value}
use Rattle.avro_certificate.proofs.public.FaultyResults.{is_fault}
use Rattle.avro_certificate.proofs.public.Shapes.{plain_branch}
use Rattle.avro_least.proofs.BuiltErrors.{into_errs, lone_errs, part_errs}
use Rattle.avro_compare.specs.Source.{reader_field}
use Rattle.avro_compare.specs.Children.{Pair, children_of, has_local_fault}
use Rattle.avro_least.specs.Tables.{Least, LeastTable, ErringTable, AreDataShown, AreErrorsShown, ShowsError, around, together, all_of, err_of, erring_of, one}
use Rattle.avro_least.specs.Reached.{is_key}
use Rattle.avro_least.specs.Asked.{Row, Asked, asked, rows_from, asked_value, asked_at, children_at, steps_at, is_known, ArePairsShown}
use Rattle.avro_least.specs.inside.Parts.{least_of_others, row_part, entry_of_part, value_alone, value_by_part, PartsPass, RowsPass}
use Rattle.avro_certificate.proofs.public.Resolving.{slice_get_of_drop, drop_more}
use Rattle.avro_least.proofs.AskedKinds.{asks}
use Rattle.avro_least.proofs.AskedValue.{row_nodes, value_is}
use Rattle.avro_least.proofs.AtMostParts.{together_across, by_row, branch_part, chosen_part}
use Rattle.avro_least.proofs.PairSteps.{followed_known}
use Rattle.avro_least.proofs.public.ShownData.{ShowsFields, exact_around, around_some, together_some, shown_fields}
use Rattle.avro_least.proofs.ShownErrors.{shows, ErringFields, first_errs, later_errs, record_errs, branch_errs}
use Rattle.avro_least.proofs.public.Stepping.{children_at_within}
use Rattle.avro_least.proofs.AskedParts.{parts_pass}

module _ (writer reader : List Node) (limit : ℕ) (table : LeastTable) (erring : ErringTable) (known : Pair → Bool) (formed : is_schema reader ≡ true)
    (live : AreDataShown writer limit table) (errors : AreErrorsShown writer reader limit known erring) where
  -- the entry around that of a part
  abbrev around_pair : Option (Option Pair) → Option Least
  around_pair o = around limit (entry_of_part erring (unwrap_or o None))

  -- one of the branches
  branch_shows : (w r : ℕ) (ids : List ℕ) (k : ℕ) → PartsPass known w r (Asked.branches ids)
      → is_some (value_by_part limit table erring w r (Asked.branches ids) k) ≡ true
      → ShowsError writer reader limit (Node.union ids) (node_at reader r) (value_by_part limit table erring w r (Asked.branches ids) k)
  branch_shows w r ids k children some =
      let there = slice_get-map (λ (p : ℕ). Some (record { w = p; r = r })) ids k in
      subst (λ (o : Option (Option Pair)). ShowsError writer reader limit (Node.union ids) (node_at reader r) (around_pair o)) (sym there)
      (chosen (slice_get ids k) refl (subst (λ (o : Option (Option Pair)). is_some (around_pair o) ≡ true) there some))
    where
      chosen : (o : Option ℕ) → slice_get ids k ≡ o → is_some (around_pair (option_map (λ p. Some (record { w = p; r = r })) o)) ≡ true
          → ShowsError writer reader limit (Node.union ids) (node_at reader r) (around_pair (option_map (λ p. Some (record { w = p; r = r })) o))
      chosen None here s = absurd (false≢true s)
      chosen (Some p) here s =
          branch_errs writer reader limit ids (node_at reader r) k p (erring p r) here (errors p r (children k (record { w = p; r = r }) (branch_part w r ids k p here)) (around_some limit (erring p r) s))

  -- the least data of some fields
  abbrev behind : List FieldNode → List FieldNode → ℕ → List ℕ → Option Least
  behind fields theirs index ps = all_of limit table (map (λ row. row.node) (rows_from fields theirs index ps))

  -- one of the fields
  field_shows : (fields theirs : List FieldNode) (index : ℕ) (ps : List ℕ) → drop index (field_ids fields) ≡ ps
      → RowsPass known (rows_from fields theirs index ps) → (k : ℕ)
      → is_some (by_row limit table erring (rows_from fields theirs index ps) k) ≡ true
      → ErringFields writer reader limit fields theirs index ps (by_row limit table erring (rows_from fields theirs index ps) k)
  field_shows fields theirs index [] e children k some = absurd (false≢true some)
  field_shows fields theirs index (p ∷ ps) e children zero some = here (reader_field fields theirs index) refl (λ c made. children 0 c made) some
    where
      here : (o : Option FieldNode) → reader_field fields theirs index ≡ o
          → ((c : Pair) → row_part (record { node = p; theirs = option_map (λ f. f.node) o }) ≡ Some c → known c ≡ true)
          → is_some (together limit (entry_of_part erring (row_part (record { node = p; theirs = option_map (λ f. f.node) o }))) (behind fields theirs (suc index) ps)) ≡ true
          → ErringFields writer reader limit fields theirs index (p ∷ ps)
          (together limit (entry_of_part erring (row_part (record { node = p; theirs = option_map (λ f. f.node) o }))) (behind fields theirs (suc index) ps))
      here None found all s = absurd (false≢true s)
      here (Some f) found all s =
          let both = together_some limit (erring p f.node) (behind fields theirs (suc index) ps) s in
          first_errs writer reader limit fields theirs index p ps f (erring p f.node) (behind fields theirs (suc index) ps) found (slice_get_of_drop (field_ids fields) ps index p e)
          (errors p f.node (all (record { w = p; r = f.node }) refl) both.0)
          (subst (λ (qs : List ℕ). ShowsFields writer limit qs (behind fields theirs (suc index) ps)) (row_nodes limit table erring fields theirs (suc index) ps)
          (shown_fields writer limit table live (map (λ row. row.node) (rows_from fields theirs (suc index) ps)) both.1))
  field_shows fields theirs index (p ∷ ps) e children (suc k) some =
      let rows : List Row = rows_from fields theirs (suc index) ps in
      let is = together_across limit (entry_of_part erring (unwrap_or (slice_get (map row_part rows) k) None)) (table p)
      (least_of_others limit table (map (λ row. row.node) rows) k) in
      let both = together_some limit (table p) (by_row limit table erring rows k) (subst (λ (x : Option Least). is_some x ≡ true) is some) in
      subst (λ (x : Option Least). ErringFields writer reader limit fields theirs index (p ∷ ps) x) (sym is)
      (later_errs writer reader limit fields theirs index p ps (table p) (by_row limit table erring rows k) (live p both.0)
      (field_shows fields theirs (suc index) ps (drop_more (field_ids fields) ps index p e) (λ j c made. children (suc j) c made) k both.1))

  module _ (w r : ℕ) where
    abbrev Shows : Option Least → Type 0
    Shows e = ShowsError writer reader limit (node_at writer w) (node_at reader r) e

    same_shows : (e v : Option Least) → e ≡ v → (is_some v ≡ true → Shows v) → is_some e ≡ true → Shows e
    same_shows e v is own some = subst Shows (sym is) (own (subst (λ (o : Option Least). is_some o ≡ true) is some))

    -- the entry by one part
    part_shown : (a : Asked) → a ≡ asked writer reader (node_at writer w) (node_at reader r) → PartsPass known w r a → (k : ℕ)
        → is_some (value_by_part limit table erring w r a k) ≡ true → Shows (value_by_part limit table erring w r a k)
    part_shown (Asked.same q) is children zero some =
        let into = asks writer reader (node_at writer w) (node_at reader r) (Asked.same q) is in
        let own = errors w q (children 0 (record { w = w; r = q }) refl) some in
        shows writer reader limit (node_at writer w) (node_at reader r) (erring w q) own.datum own.fitting
        (into_errs writer reader (node_at writer w) (node_at reader r) into.ids into.branch q own.datum into.plain into.is into.first into.here
        (plain_branch reader r into.ids into.branch q formed into.is into.here) own.fitting
        (is_fault (resolve writer reader (node_at writer w) (node_at reader q) own.datum) own.fault own.faulty)) own.exact
    part_shown (Asked.part a b) is children zero some =
        let own = errors a b (children 0 (record { w = a; r = b }) refl) (around_some limit (erring a b) some) in
        let errs = part_errs writer reader (node_at writer w) (node_at reader r) a b own.datum is own.fitting
        (is_fault (resolve writer reader (node_at writer a) (node_at reader b) own.datum) own.fault own.faulty) in
        shows writer reader limit (node_at writer w) (node_at reader r) (around limit (erring a b)) (part_value (node_at writer w) own.datum) errs.fitting errs.faulty
        (rw (errs.nodes_is, errs.depth_is) (exact_around limit (erring a b) (size own.datum) (depth own.datum) own.exact))
    part_shown (Asked.branches ids) is children k some =
        subst (λ (m : Node). ShowsError writer reader limit m (node_at reader r) (value_by_part limit table erring w r (Asked.branches ids) k))
        (sym (asks writer reader (node_at writer w) (node_at reader r) (Asked.branches ids) is)) (branch_shows w r ids k children some)
    part_shown (Asked.fields rows) is children k some =
        let own = asks writer reader (node_at writer w) (node_at reader r) (Asked.fields rows) is in
        let parts = field_shows own.fields own.theirs 0 (field_ids own.fields) refl
        (subst (λ (xs : List Row). RowsPass known xs) own.rows_is children) k
        (subst (λ (xs : List Row). is_some (by_row limit table erring xs k) ≡ true) own.rows_is (around_some limit (by_row limit table erring rows k) some)) in
        subst (λ (m : Node). ShowsError writer reader limit m (node_at reader r) (around limit (by_row limit table erring rows k))) (sym own.from_is)
        (subst (λ (m : Node). ShowsError writer reader limit (Node.record_of own.name own.aliases own.fields) m (around limit (by_row limit table erring rows k))) (sym own.to_is)
        (subst (λ (xs : List Row). ShowsError writer reader limit (Node.record_of own.name own.aliases own.fields) (Node.record_of own.other own.others own.theirs)
        (around limit (by_row limit table erring xs k))) (sym own.rows_is)
        (record_errs writer reader limit own.name own.other own.aliases own.others own.fields own.theirs
        (by_row limit table erring (rows_from own.fields own.theirs 0 (field_ids own.fields)) k) parts)))
    part_shown _ is children k some = absurd (false≢true some)

    -- and by none
    alone_shown : (a : Asked) → a ≡ asked writer reader (node_at writer w) (node_at reader r) → is_some (value_alone table w a) ≡ true → Shows (value_alone table w a)
    alone_shown Asked.whole is some =
        let own = live w some in
        shows writer reader limit (node_at writer w) (node_at reader r) (table w) own.datum own.fitting
        (asks writer reader (node_at writer w) (node_at reader r) Asked.whole is own.datum own.fitting) own.exact
    alone_shown Asked.lone is some =
        let errs = lone_errs writer reader (node_at writer w) (node_at reader r) is in
        shows writer reader limit (node_at writer w) (node_at reader r) (Some one) (lone_value (node_at writer w) (node_at reader r)) errs.fitting errs.faulty
        (λ k. (errs.nodes_is, errs.depth_is))
    alone_shown a is some = absurd (false≢true some)

    -- so the entry by all that is asked for
    pub asked_shown : (a : Asked) → a ≡ asked writer reader (node_at writer w) (node_at reader r) → PartsPass known w r a
        → is_some (asked_value limit table erring w r a) ≡ true → Shows (asked_value limit table erring w r a)
    asked_shown a is children some = elim (chosen_part limit table erring w r a some) [
      | inl alone ↦ same_shows (asked_value limit table erring w r a) (value_alone table w a) alone (alone_shown a is) some
      | inr found ↦ same_shows (asked_value limit table erring w r a) (value_by_part limit table erring w r a found.0) found.1 (part_shown a is children found.0) some
    ]

    -- a step of the table, where all children are known
    pub step_errs : list_all known (children_of writer reader w r (node_at writer w) (node_at reader r)) ≡ true
        → is_some (err_of writer reader limit table erring w r (node_at writer w) (node_at reader r)) ≡ true
        → Shows (err_of writer reader limit table erring w r (node_at writer w) (node_at reader r))
    step_errs children = same_shows _ (asked_value limit table erring w r (asked writer reader (node_at writer w) (node_at reader r)))
        (sym (value_is limit table erring writer reader w r (node_at writer w) (node_at reader r)))
        (asked_shown (asked writer reader (node_at writer w) (node_at reader r)) refl
        (parts_pass writer reader known w r (node_at writer w) (node_at reader r) (open_pass (has_local_fault writer reader (node_at writer w) (node_at reader r)))))
      where
        open_pass : (t : Bool) → list_all known (cond t [] (children_of writer reader w r (node_at writer w) (node_at reader r))) ≡ true
        open_pass true = refl
        open_pass false = children

-- at a key
module _ (writer reader : List Node) (limit : ℕ) (table : LeastTable) (keys : List ℕ) (entries : List (Option Least))
    (formed : is_schema writer ≡ true) (theirs : is_schema reader ≡ true) (data_shown : AreDataShown writer limit table)
    (k : ℕ) (below : k < length writer * length reader) (followed : list_all (is_key keys) (steps_at writer reader table k) ≡ true)
    (shown : ArePairsShown writer reader limit table keys entries) where
  abbrev known : Pair → Bool
  known = is_known (length reader) table keys

  -- an entry by one part has a datum that errs
  pub part_shows : (n : ℕ) (e : Option Least)
      → e ≡ value_by_part limit table (erring_of (length reader) table keys entries) (k / length reader) (k % length reader) (asked_at writer reader k) n
      → is_some e ≡ true → ShowsError writer reader limit (node_at writer (k / length reader)) (node_at reader (k % length reader)) e
  part_shows n e is = same_shows writer reader limit table (erring_of (length reader) table keys entries) known theirs data_shown shown (k / length reader) (k % length reader) e _ is
      (part_shown writer reader limit table (erring_of (length reader) table keys entries) known theirs data_shown shown (k / length reader) (k % length reader) (asked_at writer reader k) refl
      (parts_pass writer reader known (k / length reader) (k % length reader) (node_at writer (k / length reader)) (node_at reader (k % length reader))
      (followed_known writer reader table keys (children_at writer reader k) (children_at_within writer reader table formed theirs k below) followed)) n)

  -- and so has an entry by none
  pub alone_shows : (e : Option Least) → e ≡ value_alone table (k / length reader) (asked_at writer reader k) → is_some e ≡ true
      → ShowsError writer reader limit (node_at writer (k / length reader)) (node_at reader (k % length reader)) e
  alone_shows e is = same_shows writer reader limit table (erring_of (length reader) table keys entries) known theirs data_shown shown (k / length reader) (k % length reader) e _ is
      (alone_shown writer reader limit table (erring_of (length reader) table keys entries) known theirs data_shown shown (k / length reader) (k % length reader) (asked_at writer reader k) refl)
