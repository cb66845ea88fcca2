-- Of which nodes a pair is that asks for each thing.
use Rattle.std.proofs.Common.{◌≡◌, ℕ, Bool, true, false, cond, List, Option, Some, None, Err, refl, sym, ◌∙◌, ap, subst, slice_get, unwrap_or, is_some}
use Rattle.avro_name.specs.Name.{Name}
use Rattle.avro_schema.specs.Value.{Value}
use Rattle.avro_schema.specs.Node.{Node, FieldNode, branches_of, field_ids}
use Rattle.avro_schema.specs.Fits.{fits}
use Rattle.avro_compare.specs.Fault.{fault_here, no_match}
use Rattle.avro_compare.specs.Match.{is_match, first_match}
use Rattle.avro_compare.specs.Source.{missing_field}
use Rattle.avro_compare.specs.Resolve.{Resolved, into_branch, resolve}
use Rattle.avro_compare.specs.Children.{lacks_symbol}
use Rattle.avro_compare.proofs.public.NodeKinds.{union_of_branches}
use Rattle.avro_certificate.proofs.public.Shapes.{first_match_within}
use Rattle.avro_least.specs.Asked.{Row, Asked, rows_from, asked_inside, asked_branch, asked}
use Rattle.avro_least.proofs.AskedValue.{asked_of_plain, asked_of_union}
use Rattle.avro_certificate.proofs.public.FaultyResults.{through_is_matched, IsFault, value_of_plain, plain_form, missing_errs}

-- two records
pub record IsRecords (n q : Node) (rows : List Row) : Type 0 where
  pub name : Name
  pub other : Name
  pub aliases : List Name
  pub others : List Name
  pub fields : List FieldNode
  pub theirs : List FieldNode
  pub from_is : n ≡ Node.record_of name aliases fields
  pub to_is : q ≡ Node.record_of other others theirs
  pub none : is_some (missing_field fields theirs) ≡ false
  pub rows_is : rows ≡ rows_from fields theirs 0 (field_ids fields)

-- bytes for a text, or an enum that lacks a symbol
abbrev pub AreLone : Node → Node → Type 0
AreLone Node.bytes Node.string = Unit {0}
AreLone (Node.enum a xs symbols x) (Node.enum b ys theirs y) = lacks_symbol symbols theirs y ≡ true
AreLone n q = ⊥

-- two arrays or two maps, by their parts
abbrev pub HaveParts : Node → Node → ℕ → ℕ → Type 0
HaveParts (Node.array x) (Node.array y) a b = (a ≡ x) × (b ≡ y)
HaveParts (Node.map_of x) (Node.map_of y) a b = (a ≡ x) × (b ≡ y)
HaveParts n q a b = ⊥

module _ (writer reader : List Node) where
  -- a reader's union whose branch is another reader's node
  pub record IsIntoUnion (n q : Node) (p : ℕ) : Type 0 where
    pub plain : branches_of n ≡ None
    pub ids : List ℕ
    pub is : q ≡ Node.union ids
    pub branch : ℕ
    pub first : first_match writer reader n ids ≡ Some branch
    pub here : slice_get ids branch ≡ Some p

  -- what asking for a thing says of two nodes
  abbrev pub Asks : Node → Node → Asked → Type 0
  Asks n q Asked.quiet = Unit {0}
  Asks n q Asked.whole = (v : Value) → fits writer n v ≡ true → IsFault (resolve writer reader n q v)
  Asks n q Asked.lone = (is_match writer reader n q ≡ true) × AreLone n q
  Asks n q (Asked.same p) = IsIntoUnion n q p
  Asks n q (Asked.part a b) = HaveParts n q a b
  Asks n q (Asked.branches ids) = n ≡ Node.union ids
  Asks n q (Asked.fields rows) = IsRecords n q rows

  inside_asks : (n q : Node) → is_match writer reader n q ≡ true → Asks n q (asked_inside n q)
  inside_asks Node.bytes Node.string m = (m, tt)
  inside_asks (Node.enum a xs symbols x) (Node.enum b ys theirs y) m = chosen (lacks_symbol symbols theirs y) refl
    where
      chosen : (t : Bool) → lacks_symbol symbols theirs y ≡ t → Asks (Node.enum a xs symbols x) (Node.enum b ys theirs y) (cond t Asked.lone Asked.quiet)
      chosen true e = (m, e)
      chosen false e = tt
  inside_asks (Node.record_of a xs fields) (Node.record_of b ys theirs) m = chosen (is_some (missing_field fields theirs)) refl
    where
      chosen : (t : Bool) → is_some (missing_field fields theirs) ≡ t
          → Asks (Node.record_of a xs fields) (Node.record_of b ys theirs) (cond t Asked.whole (Asked.fields (rows_from fields theirs 0 (field_ids fields))))
      chosen true e = λ v fit. missing_errs writer reader a b xs ys fields theirs v fit e
      chosen false e = record { name = a; other = b; aliases = xs; others = ys; fields = fields; theirs = theirs; from_is = refl; to_is = refl; none = e; rows_is = refl }
  inside_asks (Node.array a) (Node.array b) m = (refl, refl)
  inside_asks (Node.map_of a) (Node.map_of b) m = (refl, refl)
  inside_asks _ _ m = tt

  plain_asks : (n q : Node) → branches_of n ≡ None → branches_of q ≡ None → (t : Bool) → is_match writer reader n q ≡ t → Asks n q (cond t (asked_inside n q) Asked.whole)
  plain_asks n q plain theirs true e = inside_asks n q e
  plain_asks n q plain theirs false e = λ v fit.
      let form = plain_form writer reader n v (value_of_plain writer n v plain fit) in
      subst (λ (x : Resolved). IsFault x) (sym (form.1 q ∙ through_is_matched writer reader n q form.0 theirs))
      (subst (λ (b : Bool). IsFault (cond b (form.0 q) (Err (fault_here no_match)))) (sym e) tt)

  union_asks : (n : Node) (ids : List ℕ) → branches_of n ≡ None → (o : Option ℕ) → first_match writer reader n ids ≡ o → Asks n (Node.union ids) (asked_branch ids o)
  union_asks n ids plain None e = λ v fit.
      let form = plain_form writer reader n v (value_of_plain writer n v plain fit) in
      subst (λ (x : Resolved). IsFault x) (sym (form.1 (Node.union ids))) (subst (λ (o : Option ℕ). IsFault (into_branch writer reader n ids o form.0)) (sym e) tt)
  union_asks n ids plain (Some k) e =
      let found = first_match_within writer reader n ids k e in
      record { plain = plain; ids = ids; is = refl; branch = k; first = e; here = found.1 ∙ ap Some (sym (ap (λ (o : Option ℕ). unwrap_or o 0) found.1)) }

  own_asks : (n q : Node) → Asks n q (asked writer reader n q)
  own_asks n q = by_writer (branches_of n) refl
    where
      by_reader : branches_of n ≡ None → (o : Option (List ℕ)) → branches_of q ≡ o → Asks n q (asked writer reader n q)
      by_reader plain None e = subst (λ (a : Asked). Asks n q a) (sym (asked_of_plain writer reader n q plain e)) (plain_asks n q plain e (is_match writer reader n q) refl)
      by_reader plain (Some ids) e = subst (λ (m : Node). Asks n m (asked writer reader n m)) (sym (union_of_branches q ids e))
          (subst (λ (a : Asked). Asks n (Node.union ids) a) (sym (asked_of_union writer reader n ids plain)) (union_asks n ids plain (first_match writer reader n ids) refl))

      by_writer : (o : Option (List ℕ)) → branches_of n ≡ o → Asks n q (asked writer reader n q)
      by_writer None e = by_reader e (branches_of q) refl
      by_writer (Some ids) e = subst (λ (m : Node). Asks m q (asked writer reader m q)) (sym (union_of_branches n ids e)) refl

  pub asks : (n q : Node) (a : Asked) → a ≡ asked writer reader n q → Asks n q a
  asks n q a e = subst (λ (x : Asked). Asks n q x) (sym e) (own_asks n q)
