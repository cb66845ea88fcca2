-- The pairs that a pair of nodes leads to by steps are its children.
use Rattle.std.proofs.Common.{◌≡◌, ℕ, suc, List, [], ◌∷◌, ◌++◌, Option, Some, None, map, refl, sym, ap, subst, arith}
use Rattle.std.specs.Prelude.{slice_get, unwrap_or}
use Rattle.avro_schema.specs.Node.{Node, FieldNode, field_ids, branches_of}
use Rattle.avro_compare.specs.Match.{first_match}
use Rattle.avro_compare.specs.Source.{source_of}
use Rattle.avro_compare.specs.Children.{Pair, children_of, field_children}
use Rattle.avro_compare.specs.Leads.{branch_leads, field_lead, field_leads, lead_pair, leads_of}
use Rattle.avro_compare.proofs.public.NodeKinds.{union_of_branches}

branch_pairs : (index r : ℕ) (ids : List ℕ) → map lead_pair (branch_leads index r ids) ≡ map (λ id. record { w = id; r = r }) ids
branch_pairs index r [] = refl
branch_pairs index r (id ∷ ids) = ap (λ (ps : List Pair). record { w = id; r = r } ∷ ps) (branch_pairs (suc index) r ids)

field_pairs : (index : ℕ) (fields theirs : List FieldNode) → map lead_pair (field_leads index fields theirs) ≡ field_children fields theirs
field_pairs index fields [] = refl
field_pairs index fields (f ∷ theirs) = chosen (source_of fields f) refl (field_pairs (suc index) fields theirs)
  where
    chosen : (o : Option ℕ) → source_of fields f ≡ o → map lead_pair (field_leads (suc index) fields theirs) ≡ field_children fields theirs
        → map lead_pair (field_lead index fields f (source_of fields f) ++ field_leads (suc index) fields theirs) ≡ field_children fields (f ∷ theirs)
    chosen None e later = rw e later
    chosen (Some source) e later = rw e (ap (λ (ps : List Pair). record { w = unwrap_or (slice_get (field_ids fields) source) 0; r = f.node } ∷ ps) later)

-- the children of two nodes, in order
module _ (writer reader : List Node) (w r : ℕ) where
  abbrev pub AreChildren : Node → Node → Type 0
  AreChildren n q = map lead_pair (leads_of writer reader w r n q) ≡ children_of writer reader w r n q

  choice_pairs : (o : Option ℕ) (ids : List ℕ) (n : Node) → branches_of n ≡ None → first_match writer reader n ids ≡ o → AreChildren n (Node.union ids)
  choice_pairs o ids (Node.union ps) plain e = absurd (grind arith)
  choice_pairs None ids _ plain e = rw e refl
  choice_pairs (Some k) ids _ plain e = rw e refl

  plain_pairs : (n q : Node) → branches_of n ≡ None → branches_of q ≡ None → AreChildren n q
  plain_pairs (Node.union ids) _ h k = absurd (grind arith)
  plain_pairs _ (Node.union ids) h k = absurd (grind arith)
  plain_pairs (Node.record_of a xs fields) (Node.record_of b ys theirs) h k = field_pairs 0 fields theirs
  plain_pairs _ _ h k = refl

  pub lead_children : (n q : Node) → AreChildren n q
  lead_children n q = by_writer (branches_of n) refl
    where
      by_reader : branches_of n ≡ None → (o : Option (List ℕ)) → branches_of q ≡ o → AreChildren n q
      by_reader plain None e = plain_pairs n q plain e
      by_reader plain (Some ids) e = subst (λ (m : Node). AreChildren n m) (sym (union_of_branches q ids e)) (choice_pairs (first_match writer reader n ids) ids n plain refl)

      by_writer : (o : Option (List ℕ)) → branches_of n ≡ o → AreChildren n q
      by_writer (Some ids) e = subst (λ (m : Node). AreChildren m q) (sym (union_of_branches n ids e)) (branch_pairs 0 r ids)
      by_writer None e = by_reader e (branches_of q) refl
