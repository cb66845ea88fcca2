-- A pair of nodes has details exactly where it has a fault of its own.
use Rattle.std.proofs.Common.{◌≡◌, ℕ, suc, Bool, true, false, not, cond, ◌||◌, List, [], ◌∷◌, Option, Some, None, refl, sym, ◌∙◌, ap, subst, arith, is_some, is_none, bytes_eq, true≢false}
use Rattle.std.specs.List.{list_any}
use Rattle.avro_schema.specs.Node.{Node, FieldNode, branches_of}
use Rattle.avro_compare.specs.Match.{is_match, first_match}
use Rattle.avro_compare.specs.Source.{source_of, missing_field_from}
use Rattle.avro_compare.specs.Children.{lacks_symbol, has_fault_of_kind, has_local_fault}
use Rattle.avro_compare.proofs.public.NodeKinds.{union_of_branches, fault_of_union, fault_of_others}
use Rattle.avro_explain.specs.Details.{lacking_from, lacking, missing_from, details_of_kind, unless_some, details_of}
use Rattle.avro_explain.specs.declared.found.Detail.{Detail}
use Rattle.avro_explain.specs.declared.found.Detail.TheVariants.{NoMatch}

abbrev has_some : List Detail → Bool
has_some [] = false
has_some (d ∷ ds) = true

lacking_some : (index : ℕ) (symbols theirs : List (List ℕ)) → list_any (λ s. not (list_any (bytes_eq s) theirs)) symbols ≡ has_some (lacking_from index symbols theirs)
lacking_some index [] theirs = refl
lacking_some index (s ∷ ss) theirs = chosen (list_any (bytes_eq s) theirs) refl (lacking_some (suc index) ss theirs)
  where
    chosen : (t : Bool) → list_any (bytes_eq s) theirs ≡ t → list_any (λ x. not (list_any (bytes_eq x) theirs)) ss ≡ has_some (lacking_from (suc index) ss theirs)
        → list_any (λ x. not (list_any (bytes_eq x) theirs)) (s ∷ ss) ≡ has_some (lacking_from index (s ∷ ss) theirs)
    chosen true e later = rw e later
    chosen false e later = rw e refl

missing_some : (index : ℕ) (fields theirs : List FieldNode) → is_some (missing_field_from index fields theirs) ≡ has_some (missing_from index fields theirs)
missing_some index fields [] = refl
missing_some index fields (f ∷ theirs) = chosen (is_some (source_of fields f) || is_some f.default) refl (missing_some (suc index) fields theirs)
  where
    chosen : (t : Bool) → (is_some (source_of fields f) || is_some f.default) ≡ t → is_some (missing_field_from (suc index) fields theirs) ≡ has_some (missing_from (suc index) fields theirs)
        → is_some (missing_field_from index fields (f ∷ theirs)) ≡ has_some (missing_from index fields (f ∷ theirs))
    chosen true e later = rw e later
    chosen false e later = rw e refl

symbols_some : (symbols theirs : List (List ℕ)) (y : Option ℕ) → lacks_symbol symbols theirs y ≡ has_some (lacking symbols theirs y)
symbols_some symbols theirs None = lacking_some 0 symbols theirs
symbols_some symbols theirs (Some d) = refl

kind_some : (n q : Node) → has_fault_of_kind n q ≡ has_some (details_of_kind n q)
kind_some (Node.enum a xs symbols x) (Node.enum b ys theirs y) = symbols_some symbols theirs y
kind_some (Node.record_of a xs fields) (Node.record_of b ys theirs) = missing_some 0 fields theirs
kind_some Node.bytes Node.string = refl
kind_some _ _ = refl

none_some : (o : Option ℕ) → is_none o ≡ has_some (unless_some o)
none_some None = refl
none_some (Some k) = refl

module _ (writer reader : List Node) where
  -- a node leads to one that is no union, or to none
  pub details_of_union : (n : Node) (ids : List ℕ) → branches_of n ≡ None → details_of writer reader n (Node.union ids) ≡ unless_some (first_match writer reader n ids)
  details_of_union (Node.union ps) ids h = absurd (grind arith)
  details_of_union _ ids h = refl

  pub details_of_others : (n q : Node) → branches_of n ≡ None → branches_of q ≡ None
      → details_of writer reader n q ≡ cond (is_match writer reader n q) (details_of_kind n q) (NoMatch ∷ [])
  details_of_others (Node.union ps) _ h k = absurd (grind arith)
  details_of_others _ (Node.union ps) h k = absurd (grind arith)
  details_of_others _ _ h k = refl

  others_some : (t f : Bool) (ds : List Detail) → f ≡ has_some ds → (not t || f) ≡ has_some (cond t ds (NoMatch ∷ []))
  others_some true f ds e = e
  others_some false f ds e = refl

  pub local_some : (n q : Node) → has_local_fault writer reader n q ≡ has_some (details_of writer reader n q)
  local_some n q = by_writer (branches_of n) refl
    where
      by_reader : branches_of n ≡ None → (o : Option (List ℕ)) → branches_of q ≡ o → has_local_fault writer reader n q ≡ has_some (details_of writer reader n q)
      by_reader plain None e =
          fault_of_others writer reader n q plain e ∙ others_some (is_match writer reader n q) (has_fault_of_kind n q) (details_of_kind n q) (kind_some n q)
          ∙ ap has_some (sym (details_of_others n q plain e))
      by_reader plain (Some ids) e = subst (λ (m : Node). has_local_fault writer reader n m ≡ has_some (details_of writer reader n m)) (sym (union_of_branches q ids e))
          (fault_of_union writer reader n ids plain ∙ none_some (first_match writer reader n ids) ∙ ap has_some (sym (details_of_union n ids plain)))

      by_writer : (o : Option (List ℕ)) → branches_of n ≡ o → has_local_fault writer reader n q ≡ has_some (details_of writer reader n q)
      by_writer (Some ids) e = subst (λ (m : Node). has_local_fault writer reader m q ≡ has_some (details_of writer reader m q)) (sym (union_of_branches n ids e)) refl
      by_writer None e = by_reader e (branches_of q) refl

  pub no_details : (n q : Node) → has_local_fault writer reader n q ≡ false → details_of writer reader n q ≡ []
  no_details n q h = empty (details_of writer reader n q) (sym (local_some n q) ∙ h)
    where
      empty : (ds : List Detail) → has_some ds ≡ false → ds ≡ []
      empty [] e = refl
      empty (d ∷ ds) e = absurd (true≢false e)

  pub no_fault : (n q : Node) → details_of writer reader n q ≡ [] → has_local_fault writer reader n q ≡ false
  no_fault n q h = local_some n q ∙ ap has_some h
