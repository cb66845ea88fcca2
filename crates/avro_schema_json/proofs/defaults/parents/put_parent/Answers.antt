use Rattle.avro_schema_json.proofs.Words.{◌≡◌, [], ℕ, sym, subst, Option, Some, None, get, is_eq, nat_cmp, unwrap_or, Under, has_parent_at, has_parent_under}
use Rattle.avro_schema_json.proofs.ParentsSeen.{kept-by, same_key}
use Rattle.avro_schema_json.proofs.defaults.parents.put_parent.Goals as goal

-- what was there, or nothing
taken : (o : Option Under) (none : Under) (place p : ℕ) → none.entries ≡ [] → has_parent_at o place p → has_parent_under (unwrap_or o none) place p
taken (Some under) none place p is has = has
taken None none place p is has = absurd has

pub returns-clause-kept : goal.returns-clause-kept
returns-clause-kept c = λ part number parent h.
    kept-by (λ a b. is_eq (nat_cmp a b)) same_key has_parent_at (get nat_cmp c.args.parents.now) (get nat_cmp c.remove.new.self) (get nat_cmp c.insert.new.self) c.args.label c.put_under.new.under
    (λ q. c.remove.ensures.updates.0 q) (λ q. c.in_ok-insert.ensures.updates.0 q)
    (λ place p has. c.in_ok-put_under.ensures.kept place p (subst (λ (under : Under). has_parent_under under place p) (sym c.unwrap_or-under.ensures)
    (taken c.remove.result c.new.result place p c.new.ensures.empty (subst (λ (o : Option Under). has_parent_at o place p) (sym c.remove.ensures.value) has)))) number part parent h
