-- What a pair asks for, by what is found of it.
use Rattle.std.proofs.Common.{◌≡◌, ℕ, suc, Bool, true, false, cond, List, [], ◌∷◌, Option, Some, None, refl, sym, ap, ◌∙◌, subst, arith, option_map, slice_get, unwrap_or}
use Rattle.avro_schema.specs.Node.{Node, FieldNode, branches_of, field_ids}
use Rattle.avro_schema.specs.declared.schema.NodeId.{NodeId}
use Rattle.avro_compare.specs.Match.{is_match, first_match}
use Rattle.avro_compare.specs.Pairs.{target_of, branch_target, part_to}
use Rattle.avro_compare.specs.Entries.{first_entry, rest_entries}
use Rattle.avro_compare.specs.Planned.{AreFor, AreForFrom, part_or_none}
use Rattle.avro_compare.specs.Source.{reader_field}
use Rattle.avro_compare.specs.declared.error.FaultKind.TheVariants.{NoMatch}
use Rattle.avro_compare.specs.declared.comparison.Target.{Target}
use Rattle.avro_compare.specs.declared.comparison.Target.TheVariants.{Fault, To}
use Rattle.avro_compare.specs.declared.comparison.At.{At}
use Rattle.avro_least.specs.Asked.{Asked, Row, asked, asked_branch, asked_inside, rows_from}
use Rattle.avro_least.specs.SeenAsk.{rows_by, theirs_in}
use Rattle.avro_compare.proofs.public.Entries.{first_for, rest_for}

-- ---- Where a pair leads

module _ (writer reader : List Node) where
  abbrev pub asked_of_target : Asked → Target → Asked
  asked_of_target own (Fault kind) = Asked.whole
  asked_of_target own (To (Some k) q) = Asked.same q.0
  asked_of_target own (To None q) = own

  by_branch : (ids : List ℕ) (o : Option ℕ) (own : Asked) → asked_of_target own (branch_target ids o) ≡ asked_branch ids o
  by_branch ids None own = refl
  by_branch ids (Some k) own = refl

  by_match : (t : Bool) (r : NodeId) (own : Asked) → asked_of_target own (cond t (To None r) (Fault NoMatch)) ≡ cond t own Asked.whole
  by_match true r own = refl
  by_match false r own = refl

  by_target : (n q : Node) (r : NodeId) → branches_of n ≡ None → asked_of_target (asked_inside n q) (target_of writer reader n r q) ≡ asked writer reader n q
  by_target (Node.union ps) q r plain = absurd (grind arith)
  by_target n (Node.union ids) r plain = by_branch ids (first_match writer reader n ids) (asked_inside n (Node.union ids))
  by_target n q r plain = by_match (is_match writer reader n q) r (asked_inside n q)

  -- what a pair asks for, where it leads
  pub asked_led : (n q : Node) (r : NodeId) (target led : Target) → branches_of n ≡ None → target ≡ target_of writer reader n r q → target ≡ led
      → asked_of_target (asked_inside n q) led ≡ asked writer reader n q
  asked_led n q r target led plain e is = ap (asked_of_target (asked_inside n q)) (sym is ∙ e) ∙ by_target n q r plain

-- ---- Fields

theirs_same : (j : ℕ) (o : Option FieldNode) → theirs_in (Some (part_to j o)) ≡ option_map (λ f. f.node) o
theirs_same j None = refl
theirs_same j (Some f) = refl

theirs_found : (ws rs : List FieldNode) (parts : List (ℕ × At)) (k : ℕ) → AreForFrom k ws rs parts → theirs_in (first_entry parts k) ≡ option_map (λ f. f.node) (reader_field ws rs k)
theirs_found ws rs parts k h =
    shown (first_entry parts k) ∙ ap (λ (at : At). theirs_in (Some at)) (first_for k ws rs parts h) ∙ theirs_same (unwrap_or (slice_get (field_ids ws) k) 0) (reader_field ws rs k)
  where
    shown : (o : Option At) → theirs_in o ≡ theirs_in (Some (part_or_none o))
    shown None = refl
    shown (Some at) = refl

rows_found : (ws rs : List FieldNode) (parts : List (ℕ × At)) (k : ℕ) (ps : List ℕ) → AreForFrom k ws rs parts → rows_by parts k ps ≡ rows_from ws rs k ps
rows_found ws rs parts k [] h = refl
rows_found ws rs parts k (p ∷ ps) h =
    ap (λ (o : Option ℕ). record { node = p; theirs = o } ∷ rows_by (rest_entries parts k) (suc k) ps) (theirs_found ws rs parts k h)
    ∙ ap (λ (rows : List Row). record { node = p; theirs = option_map (λ f. f.node) (reader_field ws rs k) } ∷ rows)
    (rows_found ws rs (rest_entries parts k) (suc k) ps (subst (λ (n : ℕ). AreForFrom n ws rs (rest_entries parts k)) (omega arith) (rest_for k ws rs parts h)))

-- the rows of the parts are those of the fields
pub rows_same : (ws rs : List FieldNode) (parts : List (ℕ × At)) → AreFor ws rs parts → rows_by parts 0 (field_ids ws) ≡ rows_from ws rs 0 (field_ids ws)
rows_same ws rs parts h = rows_found ws rs parts 0 (field_ids ws) h
