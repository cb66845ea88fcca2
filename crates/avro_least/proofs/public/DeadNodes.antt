-- The nodes without an entry are the greatest dead set.
use Rattle.std.proofs.Common.{◌≡◌, ℕ, zero, suc, ◌<◌, Bool, true, ◌&&◌, List, [], ◌∷◌, Option, Some, None, length, refl, sym, ◌∙◌, ap, arith, nat_lt, ◌==◌, is_none, is_some}
use Rattle.std.proofs.lemmas.Bool.{false≢true, and_from, eq-eqb, lt-ltb}
use Rattle.std.specs.List.{list_all}
use Rattle.avro_schema.specs.Node.{Node, node_at}
use Rattle.avro_certificate.specs.Closed.{is_among, is_dead, is_dead_node}
use Rattle.avro_certificate.specs.Evidence.{IsGreatestDead}
use Rattle.avro_certificate.proofs.public.DeadNodes.{no_dead_datum}
use Rattle.avro_certificate.proofs.public.Tests.{or_from_left, or_from_right}
use Rattle.avro_least.specs.Tables.{Least, LeastTable, IsLowForData, AreDataShown}
use Rattle.avro_least.specs.SeenLeast.{table_of}
use Rattle.avro_least.specs.declared.kept.Least.{Least as KeptLeast}
use Rattle.avro_least.proofs.public.Quiet.{dead_of_none}

-- what each of some numbers passes, all pass
pub all_from : (test : ℕ → Bool) (ks : List ℕ) → ((k : ℕ) → is_among ks k ≡ true → test k ≡ true) → list_all test ks ≡ true
all_from test [] each = refl
all_from test (k ∷ ks) each =
    and_from (test k) (list_all test ks) (each k (or_from_left (k == k) (is_among ks k) (eq-eqb k k refl)))
    (all_from test ks (λ x m. each x (or_from_right (k == x) (is_among ks x) m)))

pub none_of : (e : Option Least) → is_none e ≡ true → e ≡ None
none_of None h = refl
none_of (Some e) h = absurd (false≢true h)

-- past the end of a table stand entries
pub past_end : (es : List (Option KeptLeast)) (p : ℕ) → is_none (table_of es p) ≡ true → p < length es
past_end [] p h = absurd (false≢true h)
past_end (e ∷ es) zero h = omega arith
past_end (e ∷ es) (suc p) h = omega (arith, past_end es p h)

-- nodes that are exactly those without an entry
pub none_greatest : (writer : List Node) (limit : ℕ) (table : LeastTable) (dead : List ℕ) → IsLowForData writer limit table → AreDataShown writer limit table
    → ((p : ℕ) → is_none (table p) ≡ true → p < length writer) → ((p : ℕ) → is_among dead p ≡ is_none (table p)) → IsGreatestDead writer dead
none_greatest writer limit table dead low shown within is = record {
  all_dead = all_from (λ id. nat_lt id (length writer) && is_dead_node dead (node_at writer id)) dead each;
  greatest = λ other all_dead p among. is p ∙ without other all_dead p among (table p) refl;
}
  where
    each : (p : ℕ) → is_among dead p ≡ true → (nat_lt p (length writer) && is_dead_node dead (node_at writer p)) ≡ true
    each p among =
        let none : is_none (table p) ≡ true = sym (is p) ∙ among in
        and_from (nat_lt p (length writer)) (is_dead_node dead (node_at writer p)) (lt-ltb p (length writer) (within p none))
        (dead_of_none writer limit table dead low (λ q m. is q ∙ m) p (none_of (table p) none))

    without : (other : List ℕ) → is_dead writer other ≡ true → (p : ℕ) → is_among other p ≡ true → (o : Option Least) → table p ≡ o → is_none (table p) ≡ true
    without other all_dead p among None e = ap is_none e
    without other all_dead p among (Some x) e =
        let own = shown p (ap is_some e) in
        absurd (no_dead_datum writer other all_dead own.datum p among own.fitting)
