-- What a pair asks for comes to what the pair's entry is by the others.
use Rattle.std.proofs.Common.{◌≡◌, ℕ, suc, Bool, true, false, cond, List, [], ◌∷◌, Option, Some, None, refl, sym, ◌∙◌, ap, arith, is_some, option_map, map}
use Rattle.avro_schema.specs.Node.{Node, FieldNode, branches_of, field_ids}
use Rattle.avro_compare.specs.Match.{is_match, first_match}
use Rattle.avro_compare.specs.Source.{reader_field, missing_field}
use Rattle.avro_compare.specs.Children.{lacks_symbol}
use Rattle.avro_least.specs.Tables.{LeastTable, ErringTable, around, err_of, err_inside, err_of_field, err_of_fields, one}
use Rattle.avro_least.specs.Asked.{Asked, rows_from, asked_inside, asked_branch, asked, err_of_row, err_of_rows, asked_value}
use Rattle.avro_least.proofs.LeastErrors.{err_of_plain, err_of_none, err_of_some}

module _ (writer reader : List Node) where
  pub asked_of_plain : (n q : Node) → branches_of n ≡ None → branches_of q ≡ None → asked writer reader n q ≡ cond (is_match writer reader n q) (asked_inside n q) Asked.whole
  asked_of_plain (Node.union ps) _ h k = absurd (grind arith)
  asked_of_plain _ (Node.union ps) h k = absurd (grind arith)
  asked_of_plain Node.null Node.null h k = refl
  asked_of_plain _ _ h k = refl

  pub asked_of_union : (n : Node) (ids : List ℕ) → branches_of n ≡ None → asked writer reader n (Node.union ids) ≡ asked_branch ids (first_match writer reader n ids)
  asked_of_union (Node.union ps) ids h = absurd (grind arith)
  asked_of_union _ ids h = refl

module _ (limit : ℕ) (table : LeastTable) (erring : ErringTable) where
  -- the nodes of the rows are those of the fields
  pub row_nodes : (ws rs : List FieldNode) (index : ℕ) (ps : List ℕ) → map (λ r. r.node) (rows_from ws rs index ps) ≡ ps
  row_nodes ws rs index [] = refl
  row_nodes ws rs index (p ∷ ps) = ap (λ qs. p ∷ qs) (row_nodes ws rs (suc index) ps)

  row_value : (p : ℕ) (o : Option FieldNode) → err_of_row erring (record { node = p; theirs = option_map (λ f. f.node) o }) ≡ err_of_field erring p o
  row_value p None = refl
  row_value p (Some f) = refl

  rows_value : (ws rs : List FieldNode) (index : ℕ) (ps : List ℕ) → err_of_rows limit table erring (rows_from ws rs index ps) ≡ err_of_fields limit table erring ws rs index ps
  rows_value ws rs index [] = refl
  rows_value ws rs index (p ∷ ps) =
      rw (rows_value ws rs (suc index) ps, row_nodes ws rs (suc index) ps, row_value p (reader_field ws rs index)) refl

  inside_value : (w r : ℕ) (n q : Node) → asked_value limit table erring w r (asked_inside n q) ≡ err_inside limit table erring w n q
  inside_value w r Node.bytes Node.string = refl
  inside_value w r (Node.enum a xs symbols x) (Node.enum b ys theirs y) = chosen (lacks_symbol symbols theirs y)
    where
      chosen : (t : Bool) → asked_value limit table erring w r (cond t Asked.lone Asked.quiet) ≡ cond t (Some one) None
      chosen true = refl
      chosen false = refl
  inside_value w r (Node.record_of a xs fs) (Node.record_of b ys theirs) = chosen (is_some (missing_field fs theirs))
    where
      chosen : (t : Bool) → asked_value limit table erring w r (cond t Asked.whole (Asked.fields (rows_from fs theirs 0 (field_ids fs))))
          ≡ cond t (table w) (around limit (err_of_fields limit table erring fs theirs 0 (field_ids fs)))
      chosen true = refl
      chosen false = ap (around limit) (rows_value fs theirs 0 (field_ids fs))
  inside_value w r (Node.array a) (Node.array b) = refl
  inside_value w r (Node.map_of a) (Node.map_of b) = refl
  inside_value w r _ _ = refl

  plain_value : (w r : ℕ) (n q : Node) (t : Bool) → asked_value limit table erring w r (cond t (asked_inside n q) Asked.whole)
      ≡ cond t (err_inside limit table erring w n q) (table w)
  plain_value w r n q true = inside_value w r n q
  plain_value w r n q false = refl

  branch_value : (writer reader : List Node) (w r : ℕ) (n : Node) (ids : List ℕ) → branches_of n ≡ None → (o : Option ℕ) → first_match writer reader n ids ≡ o
      → asked_value limit table erring w r (asked_branch ids o) ≡ err_of writer reader limit table erring w r n (Node.union ids)
  branch_value writer reader w r n ids plain None e = sym (err_of_none writer reader limit table erring w r n ids plain e)
  branch_value writer reader w r n ids plain (Some k) e = sym (err_of_some writer reader limit table erring w r n ids k plain e)

  pub value_is : (writer reader : List Node) (w r : ℕ) (n q : Node)
      → asked_value limit table erring w r (asked writer reader n q) ≡ err_of writer reader limit table erring w r n q
  value_is writer reader w r (Node.union ids) q = refl
  value_is writer reader w r n q = by_reader n q refl
    where
      by_reader : (n q : Node) → branches_of n ≡ None → asked_value limit table erring w r (asked writer reader n q) ≡ err_of writer reader limit table erring w r n q
      by_reader n (Node.union ids) plain =
          ap (asked_value limit table erring w r) (asked_of_union writer reader n ids plain)
          ∙ branch_value writer reader w r n ids plain (first_match writer reader n ids) refl
      by_reader n q plain =
          ap (asked_value limit table erring w r) (asked_of_plain writer reader n q plain refl)
          ∙ plain_value w r n q (is_match writer reader n q)
          ∙ sym (err_of_plain writer reader limit table erring w r n q plain refl)
