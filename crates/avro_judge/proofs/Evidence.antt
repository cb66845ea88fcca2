-- The lists that are made of the tables are a certificate of two compatible schemas.
use Rattle.std.proofs.Common.{◌≡◌, ℕ, ◌*◌, ◌<◌, ◌≤◌, Bool, true, false, not, ◌&&◌, ◌||◌, List, [], ◌∷◌, Option, None, inl, inr, length, refl, sym, ◌∙◌, ap, subst, arith}
use Rattle.std.proofs.lemmas.Bool.{false≢true, true≢false, and_from, lt-ltb, ltb-true, cases_Bool}
use Rattle.std.proofs.lemmas.Bool.Decides.{nat_tests}
use Rattle.std.specs.Prelude.{nat_lt, is_none}
use Rattle.std.specs.List.{list_all}
use Rattle.avro_schema.specs.Node.{Node, node_at}
use Rattle.avro_schema.specs.WellFormed.{is_schema}
use Rattle.avro_certificate.specs.CertificateText.{is_small, is_small_pair, are_small}
use Rattle.avro_compare.specs.Children.{Pair, children_of, has_local_fault}
use Rattle.avro_certificate.specs.Closed.{same_pair, is_among, is_among_pairs, is_dead, is_dead_node, is_closed, is_closed_at}
use Rattle.avro_certificate.specs.Evidence.{IsGreatestDead, roots, IsEvidence}
use Rattle.avro_least.specs.Asked.{steps_at}
use Rattle.avro_judge.specs.inside.Evidence.{pairs_at}
use Rattle.avro_least.specs.FoundTables.{AreTables}
use Rattle.avro_least.specs.Tables.{Least, LeastTable, erring_of, pair_number}
use Rattle.avro_least.specs.Reached.{is_key, IsSteppedTo}
use Rattle.avro_least.proofs.public.DeadNodes.{all_from}
use Rattle.avro_least.proofs.public.Keys.{key_passes}
use Rattle.avro_judge.proofs.PairNumbers.{listed_pair, pair_listed, number_back, same_itself}
use Rattle.avro_judge.proofs.ReachedPairs.{IsStanding, standing_quiet, child_standing, standing, root_lives, IsMet, met}
use Rattle.avro_least.proofs.public.Stepping.{within_of_key}
use Rattle.avro_certificate.proofs.public.Tests.{and_left, and_right, or_from_left, or_from_right, all_among, all_among_pairs}

-- what each of some pairs passes, all pass
all_pairs : (test : Pair → Bool) (ps : List Pair) → ((p : Pair) → is_among_pairs ps p ≡ true → test p ≡ true) → list_all test ps ≡ true
all_pairs test [] each = refl
all_pairs test (p ∷ ps) each =
    and_from (test p) (list_all test ps) (each p (or_from_left (same_pair p p) (is_among_pairs ps p) (same_itself p)))
    (all_pairs test ps (λ q m. each q (or_from_right (same_pair q p) (is_among_pairs ps q) m)))

-- closed sets have no number that a schema of the most nodes has not
few_nodes : (nodes : List Node) → is_schema nodes ≡ true → length nodes ≤ 4096
few_nodes nodes h = grind (arith, nat_tests)

small_below : (n : ℕ) (nodes : List Node) → is_schema nodes ≡ true → nat_lt n (length nodes) ≡ true → is_small n ≡ true
small_below n nodes h within = lt-ltb n 4096 (omega (arith, few_nodes nodes h, ltb-true n (length nodes) within))

pub closed_small : (writer reader : List Node) (dead : List ℕ) (pairs : List Pair) → is_schema writer ≡ true → is_schema reader ≡ true
    → is_closed writer reader dead pairs ≡ true → are_small dead pairs ≡ true
closed_small writer reader dead pairs formed theirs closed =
    let root = is_among dead 0 || is_among_pairs pairs (record { w = 0; r = 0 }) in
    let gone = and_left (is_dead writer dead) root (and_left (is_dead writer dead && root) (list_all (is_closed_at writer reader dead pairs) pairs) closed) in
    let rest = and_right (is_dead writer dead && root) (list_all (is_closed_at writer reader dead pairs) pairs) closed in
    and_from (list_all is_small dead) (list_all is_small_pair pairs)
    (all_from is_small dead (λ p m. small_below p writer formed
    (and_left (nat_lt p (length writer)) _ (all_among (λ id. nat_lt id (length writer) && is_dead_node dead (node_at writer id)) dead p gone m))))
    (all_pairs is_small_pair pairs (λ p m.
    let own = and_left (nat_lt p.w (length writer) && nat_lt p.r (length reader)) _ (all_among_pairs (is_closed_at writer reader dead pairs) pairs p rest m) in
    and_from (is_small p.w) (is_small p.r) (small_below p.w writer formed (and_left (nat_lt p.w (length writer)) (nat_lt p.r (length reader)) own))
    (small_below p.r reader theirs (and_right (nat_lt p.w (length writer)) (nat_lt p.r (length reader)) own))))

module _ (writer reader : List Node) (limit : ℕ) (table : LeastTable) (keys : List ℕ) (entries : List (Option Least)) (dead : List ℕ)
    (formed : is_schema writer ≡ true) (theirs : is_schema reader ≡ true) (tables : AreTables writer reader limit table keys entries)
    (calm : erring_of (length reader) table keys entries 0 0 ≡ None) (dead_is : (p : ℕ) → is_among dead p ≡ is_none (table p))
    (greatest : IsGreatestDead writer dead) where
  -- where the root is dead there is no pair
  pub evidence_dead : is_among dead 0 ≡ true → IsEvidence writer reader dead []
  evidence_dead gone = record {
    dead_nodes = greatest;
    all_reached = λ p m. absurd (true≢false (sym gone ∙ root_lives writer reader limit table keys entries dead formed theirs tables calm dead_is p m));
    no_other = λ p m. absurd (false≢true m);
  }

  pub closed_dead : is_among dead 0 ≡ true → is_closed writer reader dead [] ≡ true
  closed_dead gone =
      let root = is_among dead 0 || is_among_pairs [] (record { w = 0; r = 0 }) in
      and_from (is_dead writer dead && root) true
      (and_from (is_dead writer dead) root greatest.all_dead (or_from_left (is_among dead 0) false gone)) refl

  module _ (numbers : List ℕ) (same : (k : ℕ) → is_key numbers k ≡ is_key keys k) (stepped : (k : ℕ) → is_key keys k ≡ true → IsSteppedTo (steps_at writer reader table) k)
      (live : is_among dead 0 ≡ false) where
    stands : (p : Pair) → Type 0
    stands p = IsStanding writer reader limit table keys entries dead formed theirs tables calm dead_is p

    standing_listed : (p : Pair) → stands p → is_among_pairs (pairs_at (length reader) numbers) p ≡ true
    unfolding stands
    standing_listed p own =
        subst (λ (q : Pair). is_among_pairs (pairs_at (length reader) numbers) q ≡ true) (number_back (length reader) p own.within)
        (pair_listed (length reader) numbers (pair_number (length reader) p.w p.r) (same (pair_number (length reader) p.w p.r) ∙ own.there))

    listed_met : (p : Pair) → is_among_pairs (pairs_at (length reader) numbers) p ≡ true
        → IsMet writer reader limit table keys entries dead formed theirs tables calm dead_is p
    listed_met p m =
        let found = listed_pair (length reader) numbers p m in
        subst (λ (q : Pair). IsMet writer reader limit table keys entries dead formed theirs tables calm dead_is q) (sym found.is)
        (met writer reader limit table keys entries dead formed theirs tables calm dead_is live found.number
        (stepped found.number (sym (same found.number) ∙ found.there)))

    pub evidence_live : IsEvidence writer reader dead (pairs_at (length reader) numbers)
    unfolding stands
    evidence_live = record {
      dead_nodes = greatest;
      all_reached = λ p m. standing_listed p (standing writer reader limit table keys entries dead formed theirs tables calm dead_is p m);
      no_other = λ p m. (listed_met p m).reached;
    }

    -- a child is dead or listed
    child_stands : (p c : Pair) → stands p → is_among_pairs (children_of writer reader p.w p.r (node_at writer p.w) (node_at reader p.r)) c ≡ true
        → (is_among dead c.w || is_among_pairs (pairs_at (length reader) numbers) c) ≡ true
    unfolding stands
    child_stands p c own among = elim (cases_Bool (is_among dead c.w)) [
      | inl gone ↦ or_from_left (is_among dead c.w) (is_among_pairs (pairs_at (length reader) numbers) c) gone
      | inr alive ↦ or_from_right (is_among dead c.w) (is_among_pairs (pairs_at (length reader) numbers) c)
          (standing_listed c (child_standing writer reader limit table keys entries dead formed theirs tables calm dead_is p c own among (sym (dead_is c.w) ∙ alive)))
    ]

    pair_closed : (p : Pair) → is_among_pairs (pairs_at (length reader) numbers) p ≡ true → is_closed_at writer reader dead (pairs_at (length reader) numbers) p ≡ true
    unfolding stands
    pair_closed p m =
        let own = (listed_met p m).stands in
        let own_quiet = standing_quiet writer reader limit table keys entries dead formed theirs tables calm dead_is p own in
        and_from (nat_lt p.w (length writer) && nat_lt p.r (length reader)) _
        (and_from (nat_lt p.w (length writer)) (nat_lt p.r (length reader)) (within p own) (lt-ltb p.r (length reader) own.within))
        (or_from_right (is_among dead p.w) _
        (and_from (not (has_local_fault writer reader (node_at writer p.w) (node_at reader p.r))) _ (ap not own_quiet.faultless)
        (all_pairs (λ c. is_among dead c.w || is_among_pairs (pairs_at (length reader) numbers) c)
        (children_of writer reader p.w p.r (node_at writer p.w) (node_at reader p.r)) (λ c among. child_stands p c own among))))
      where
        within : (p : Pair) → stands p → nat_lt p.w (length writer) ≡ true
        within p own =
            let k : ℕ = pair_number (length reader) p.w p.r in
            let below : k < length writer * length reader =
            ltb-true k (length writer * length reader) (key_passes (λ x. nat_lt x (length writer * length reader)) keys k tables.below own.there) in
            subst (λ (q : Pair). nat_lt q.w (length writer) ≡ true) (number_back (length reader) p own.within)
            (and_left _ _ (and_left _ true (within_of_key writer reader table k theirs below)))

    pub closed_live : is_closed writer reader dead (pairs_at (length reader) numbers) ≡ true
    closed_live =
        let root = is_among dead 0 || is_among_pairs (pairs_at (length reader) numbers) (record { w = 0; r = 0 }) in
        and_from (is_dead writer dead && root) (list_all (is_closed_at writer reader dead (pairs_at (length reader) numbers)) (pairs_at (length reader) numbers))
        (and_from (is_dead writer dead) root greatest.all_dead
        (or_from_right (is_among dead 0) (is_among_pairs (pairs_at (length reader) numbers) (record { w = 0; r = 0 }))
        (evidence_live.all_reached (record { w = 0; r = 0 }) (roots live))))
        (all_pairs (is_closed_at writer reader dead (pairs_at (length reader) numbers)) (pairs_at (length reader) numbers) pair_closed)
