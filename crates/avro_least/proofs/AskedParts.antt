-- The parts of what a pair asks for are pairs that it leads to.
use Rattle.std.proofs.Common.{◌≡◌, ℕ, zero, suc, Bool, true, false, not, ◌||◌, cond, List, [], ◌∷◌, drop, map, Option, Some, None, refl, sym, subst, slice_get, unwrap_or, option_map, is_some, is_none}
use Rattle.std.specs.List.{list_all}
use Rattle.avro_schema.specs.Node.{Node, FieldNode, branches_of, field_ids}
use Rattle.avro_compare.specs.Match.{is_match, first_match}
use Rattle.avro_compare.specs.Source.{reader_field, missing_field}
use Rattle.avro_compare.specs.Children.{Pair, children_of, field_children, has_fault_of_kind, lacks_symbol}
use Rattle.avro_compare.proofs.public.NodeKinds.{union_of_branches, fault_of_union, fault_of_others, children_of_union}
use Rattle.avro_certificate.proofs.public.Resolving.{slice_get_of_drop, drop_more}
use Rattle.avro_certificate.proofs.public.SoundPairs.{source_child}
use Rattle.avro_certificate.proofs.public.Tests.{and_left, and_right}
use Rattle.avro_least.specs.Asked.{Asked, rows_from, asked_inside, asked_branch, asked, open_children}
use Rattle.avro_least.specs.inside.Parts.{row_part, PartsPass, RowsPass}
use Rattle.avro_least.proofs.AskedValue.{asked_of_plain, asked_of_union}
use Rattle.avro_least.proofs.public.Keys.{some_same}

module _ (writer reader : List Node) (test : Pair → Bool) (w r : ℕ) where
  one_passes : (p c : Pair) (k : ℕ) → list_all test (p ∷ []) ≡ true → unwrap_or (slice_get (Some p ∷ []) k) None ≡ Some c → test c ≡ true
  one_passes p c zero h e = subst (λ (x : Pair). test x ≡ true) (some_same p c e) (and_left (test p) true h)
  one_passes p c (suc k) h e = absurd cc

  branches_pass : (ids : List ℕ) → list_all test (map (λ id. record { w = id; r = r }) ids) ≡ true → PartsPass test w r (Asked.branches ids)
  branches_pass [] h k c e = absurd cc
  branches_pass (id ∷ ids) h zero c e = subst (λ (x : Pair). test x ≡ true) (some_same (record { w = id; r = r }) c e) (and_left (test (record { w = id; r = r })) _ h)
  branches_pass (id ∷ ids) h (suc k) c e = branches_pass ids (and_right (test (record { w = id; r = r })) _ h) k c e

  rows_pass : (fields theirs : List FieldNode) (index : ℕ) (ps : List ℕ) → drop index (field_ids fields) ≡ ps → list_all test (field_children fields theirs) ≡ true
      → RowsPass test (rows_from fields theirs index ps)
  rows_pass fields theirs index [] at h k c e = absurd cc
  rows_pass fields theirs index (p ∷ ps) at h zero c e = by_field (reader_field fields theirs index) refl e
    where
      by_field : (o : Option FieldNode) → reader_field fields theirs index ≡ o → row_part (record { node = p; theirs = option_map (λ f. f.node) o }) ≡ Some c → test c ≡ true
      by_field None found is = absurd cc
      by_field (Some f) found is = subst (λ (x : Pair). test x ≡ true) (some_same (record { w = p; r = f.node }) c is)
          (subst (λ (o : Option ℕ). test (record { w = unwrap_or o 0; r = f.node }) ≡ true) (slice_get_of_drop (field_ids fields) ps index p at)
          (source_child test fields theirs index f found h))
  rows_pass fields theirs index (p ∷ ps) at h (suc k) c e = rows_pass fields theirs (suc index) ps (drop_more (field_ids fields) ps index p at) h k c e

  inside_pass : (n q : Node) → list_all test (cond (has_fault_of_kind n q) [] (children_of writer reader w r n q)) ≡ true → PartsPass test w r (asked_inside n q)
  inside_pass (Node.enum a xs symbols x) (Node.enum b ys theirs y) h = chosen (lacks_symbol symbols theirs y)
    where
      chosen : (t : Bool) → PartsPass test w r (cond t Asked.lone Asked.quiet)
      chosen true = λ k c e. absurd cc
      chosen false = λ k c e. absurd cc
  inside_pass (Node.record_of a xs fields) (Node.record_of b ys theirs) h = chosen (is_some (missing_field fields theirs)) h
    where
      chosen : (t : Bool) → list_all test (cond t [] (field_children fields theirs)) ≡ true
          → PartsPass test w r (cond t Asked.whole (Asked.fields (rows_from fields theirs 0 (field_ids fields))))
      chosen true g = λ k c e. absurd cc
      chosen false g = rows_pass fields theirs 0 (field_ids fields) refl g
  inside_pass (Node.array a) (Node.array b) h = λ k c e. one_passes (record { w = a; r = b }) c k h e
  inside_pass (Node.map_of a) (Node.map_of b) h = λ k c e. one_passes (record { w = a; r = b }) c k h e
  inside_pass Node.bytes Node.string h = λ k c e. absurd cc
  inside_pass _ _ h = λ k c e. absurd cc

  plain_pass : (n q : Node) (t : Bool) → list_all test (cond (not t || has_fault_of_kind n q) [] (children_of writer reader w r n q)) ≡ true
      → PartsPass test w r (cond t (asked_inside n q) Asked.whole)
  plain_pass n q true h = inside_pass n q h
  plain_pass n q false h = λ k c e. absurd cc

  branch_passes : (n : Node) (ids : List ℕ) → branches_of n ≡ None → (o : Option ℕ) → first_match writer reader n ids ≡ o
      → list_all test (cond (is_none o) [] (children_of writer reader w r n (Node.union ids))) ≡ true → PartsPass test w r (asked_branch ids o)
  branch_passes n ids plain None e h k c is = absurd cc
  branch_passes n ids plain (Some b) e h k c is =
      one_passes (record { w = w; r = unwrap_or (slice_get ids b) 0 }) c k (subst (λ (cs : List Pair). list_all test cs ≡ true) (children_of_union writer reader w r n ids b plain e) h) is

  -- what all pairs pass that a pair leads to, each part passes of what it asks for
  pub parts_pass : (n q : Node) → list_all test (open_children writer reader w r n q) ≡ true → PartsPass test w r (asked writer reader n q)
  parts_pass n q h = by_writer (branches_of n) refl
    where
      by_fault : (m : Node) (t u : Bool) → t ≡ u → list_all test (cond t [] (children_of writer reader w r n m)) ≡ true → list_all test (cond u [] (children_of writer reader w r n m)) ≡ true
      by_fault m t u e g = subst (λ (b : Bool). list_all test (cond b [] (children_of writer reader w r n m)) ≡ true) e g

      by_reader : branches_of n ≡ None → (o : Option (List ℕ)) → branches_of q ≡ o → PartsPass test w r (asked writer reader n q)
      by_reader plain None e = subst (λ (a : Asked). PartsPass test w r a) (sym (asked_of_plain writer reader n q plain e))
          (plain_pass n q (is_match writer reader n q) (by_fault q _ _ (fault_of_others writer reader n q plain e) h))
      by_reader plain (Some ids) e =
          let is : q ≡ Node.union ids = union_of_branches q ids e in
          subst (λ (m : Node). PartsPass test w r (asked writer reader n m)) (sym is)
          (subst (λ (a : Asked). PartsPass test w r a) (sym (asked_of_union writer reader n ids plain))
          (branch_passes n ids plain (first_match writer reader n ids) refl (by_fault (Node.union ids) _ _ (fault_of_union writer reader n ids plain)
          (subst (λ (m : Node). list_all test (open_children writer reader w r n m) ≡ true) is h))))

      by_writer : (o : Option (List ℕ)) → branches_of n ≡ o → PartsPass test w r (asked writer reader n q)
      by_writer None e = by_reader e (branches_of q) refl
      by_writer (Some ids) e =
          let is : n ≡ Node.union ids = union_of_branches n ids e in
          subst (λ (m : Node). PartsPass test w r (asked writer reader m q)) (sym is)
          (branches_pass ids (subst (λ (m : Node). list_all test (open_children writer reader w r m q) ≡ true) is h))
