use Rattle.avro_schema_json.proofs.Words.{ℕ, ◌/◌, ◌%◌, sym, subst, Option, Some, None, get, is_eq, nat_cmp, unwrap_or, Vec, Places, has_parent, has_parent_in}
use Rattle.avro_schema_json.proofs.ParentsSeen.{kept-by, same_key}
use Rattle.avro_schema_json.proofs.defaults.parents.put_under.Goals as goal

-- what was there, or nothing
taken : (o : Option (Vec Places)) (none : Vec Places) (i p : ℕ) → has_parent_in o i p → has_parent (unwrap_or o none).items i p
taken (Some places) none i p has = has
taken None none i p has = absurd has

pub returns-clause-kept : goal.returns-clause-kept
returns-clause-kept c = λ part parent h.
    kept-by (λ a b. is_eq (nat_cmp a b)) same_key has_parent_in (get nat_cmp c.args.under.now) (get nat_cmp c.remove.new.self) (get nat_cmp c.insert.new.self) (c.args.place / 64) c.put_in.new.places
    (λ q. c.remove.ensures.updates.0 q) (λ q. c.in_ok-insert.ensures.updates.0 q)
    (λ i p has. c.in_ok-put_in.ensures.kept i p (subst (λ (places : Vec Places). has_parent places.items i p) (sym c.unwrap_or-places.ensures)
    (taken c.remove.result _ i p (subst (λ (o : Option (Vec Places)). has_parent_in o i p) (sym c.remove.ensures.value) has)))) (part / 64) (part % 64) parent h
