-- The keys of the pairs that a judge reaches are the numbers of the pairs that the roots lead to.
use Rattle.std.proofs.Common.{◌≡◌, ℕ, ◌<◌, Bool, true, false, cond, ◌&&◌, List, [], ◌∷◌, Option, Some, None, inl, inr, length, refl, sym, ◌∙◌, ap, subst, arith}
use Rattle.std.proofs.lemmas.Bool.{false≢true, true≢false, eqb-true, ltb-true}
use Rattle.std.specs.Prelude.{nat_lt, ◌==◌, is_none, is_some}
use Rattle.avro_schema.specs.Node.{Node, node_at}
use Rattle.avro_schema.specs.WellFormed.{is_schema}
use Rattle.avro_compare.specs.Children.{Pair, children_of, has_local_fault}
use Rattle.avro_certificate.specs.Closed.{same_pair, is_among, is_among_pairs}
use Rattle.avro_certificate.specs.Evidence.{IsReached, roots, child}
use Rattle.avro_least.specs.Asked.{children_at, is_known, live_numbers, open_children, steps_at}
use Rattle.avro_judge.specs.inside.Evidence.{pair_at}
use Rattle.avro_least.specs.FoundTables.{AreTables}
use Rattle.avro_least.specs.Tables.{Least, LeastTable, erring_of, pair_number}
use Rattle.avro_least.specs.Reached.{is_key, IsSteppedTo, from_first, one_step}
use Rattle.avro_least.proofs.public.DeadNodes.{none_of}
use Rattle.avro_least.proofs.public.Exact.{known_children}
use Rattle.avro_judge.proofs.PairNumbers.{number_back, same_itself}
use Rattle.avro_least.proofs.public.Quiet.{quiet, IsQuiet, is_quiet}
use Rattle.avro_least.proofs.public.Stepping.{some_nodes}
use Rattle.avro_certificate.proofs.public.Tests.{and_left, and_right, or_cases, or_not, or_from_left, or_from_right, all_among_pairs}
use Rattle.std.specs.List.{list_all}

some_of : (e : Option Least) → is_none e ≡ false → is_some e ≡ true
some_of None h = absurd (true≢false h)
some_of (Some e) h = refl

-- the pair of a number that some pairs give
record IsTaken (count : ℕ) (table : LeastTable) (cs : List Pair) (k : ℕ) : Type 0 where
  c : Pair
  among : is_among_pairs cs c ≡ true
  live : is_none (table c.w) ≡ false
  is : k ≡ pair_number count c.w c.r

taken_later : (count : ℕ) (table : LeastTable) (d : Pair) (cs : List Pair) (k : ℕ) → IsTaken count table cs k → IsTaken count table (d ∷ cs) k
taken_later count table d cs k own = record {
  c = own.c;
  among = or_from_right (same_pair own.c d) (is_among_pairs cs own.c) own.among;
  live = own.live;
  is = own.is;
}

number_taken : (count : ℕ) (table : LeastTable) (cs : List Pair) (k : ℕ) → is_key (live_numbers count table cs) k ≡ true → IsTaken count table cs k
number_taken count table [] k h = absurd (false≢true h)
number_taken count table (c ∷ cs) k h = chosen (is_none (table c.w)) refl h (number_taken count table cs k)
  where
    chosen : (b : Bool) → is_none (table c.w) ≡ b
        → is_key (cond b (live_numbers count table cs) (pair_number count c.w c.r ∷ live_numbers count table cs)) k ≡ true
        → (is_key (live_numbers count table cs) k ≡ true → IsTaken count table cs k) → IsTaken count table (c ∷ cs) k
    chosen true e m rest = taken_later count table c cs k (rest m)
    chosen false e m rest = elim (or_cases (k == pair_number count c.w c.r) (is_key (live_numbers count table cs) k) m) [
      | inl same ↦ record {
        c = c;
        among = or_from_left (same_pair c c) (is_among_pairs cs c) (same_itself c);
        live = e;
        is = eqb-true k (pair_number count c.w c.r) same;
      }
      | inr later ↦ taken_later count table c cs k (rest later)
    ]

open_among : (fault : Bool) (cs : List Pair) (c : Pair) → is_among_pairs (cond fault [] cs) c ≡ true → is_among_pairs cs c ≡ true
open_among true cs c h = absurd (false≢true h)
open_among false cs c h = h

-- the number of the roots
zero_is : (count : ℕ) → 0 ≡ pair_number count 0 0
zero_is count = omega arith

module _ (writer reader : List Node) (limit : ℕ) (table : LeastTable) (keys : List ℕ) (entries : List (Option Least)) (dead : List ℕ)
    (formed : is_schema writer ≡ true) (theirs : is_schema reader ≡ true) (tables : AreTables writer reader limit table keys entries)
    (calm : erring_of (length reader) table keys entries 0 0 ≡ None) (dead_is : (p : ℕ) → is_among dead p ≡ is_none (table p)) where
  -- a pair of nodes that was reached and has no entry
  pub record IsStanding (p : Pair) : Type 0 where
    pub within : p.r < length reader
    pub live : is_none (table p.w) ≡ false
    pub none : erring_of (length reader) table keys entries p.w p.r ≡ None
    pub there : is_key keys (pair_number (length reader) p.w p.r) ≡ true

  pub standing_quiet : (p : Pair) → IsStanding p
      → IsQuiet writer reader limit table (erring_of (length reader) table keys entries) tables.low theirs p.w p.r (node_at writer p.w) (node_at reader p.r)
  standing_quiet p own = quiet writer reader limit table (erring_of (length reader) table keys entries) tables.low theirs tables.has_data p.w p.r
      (some_of (table p.w) own.live) own.none

  pub child_standing : (p c : Pair) → IsStanding p → is_among_pairs (children_of writer reader p.w p.r (node_at writer p.w) (node_at reader p.r)) c ≡ true
      → is_none (table c.w) ≡ false → IsStanding c
  child_standing p c own among live =
      let q = standing_quiet p own in
      let quietly : is_none (erring_of (length reader) table keys entries c.w c.r) ≡ true =
      or_not (is_none (table c.w)) (is_none (erring_of (length reader) table keys entries c.w c.r))
      (all_among_pairs (is_quiet writer reader limit table (erring_of (length reader) table keys entries) tables.low theirs)
      (children_of writer reader p.w p.r (node_at writer p.w) (node_at reader p.r)) c q.children among) (λ m. true≢false (sym m ∙ live)) in
      let covered : list_all (is_known (length reader) table keys) (children_of writer reader p.w p.r (node_at writer p.w) (node_at reader p.r)) ≡ true =
      subst (λ (b : Bool). list_all (is_known (length reader) table keys) (cond b [] (children_of writer reader p.w p.r (node_at writer p.w) (node_at reader p.r))) ≡ true) q.faultless
      (known_children writer reader limit table keys entries formed theirs tables p.w p.r own.within own.there) in
      let known : (nat_lt c.r (length reader) && is_key keys (pair_number (length reader) c.w c.r)) ≡ true =
      or_not (is_none (table c.w)) (nat_lt c.r (length reader) && is_key keys (pair_number (length reader) c.w c.r))
      (all_among_pairs (is_known (length reader) table keys) (children_of writer reader p.w p.r (node_at writer p.w) (node_at reader p.r)) c covered among)
      (λ m. true≢false (sym m ∙ live)) in
      record {
        within = ltb-true c.r (length reader) (and_left (nat_lt c.r (length reader)) (is_key keys (pair_number (length reader) c.w c.r)) known);
        live = live;
        none = none_of (erring_of (length reader) table keys entries c.w c.r) quietly;
        there = and_right (nat_lt c.r (length reader)) (is_key keys (pair_number (length reader) c.w c.r)) known;
      }

  roots_standing : is_none (table 0) ≡ false → IsStanding (record { w = 0; r = 0 })
  roots_standing live = record {
    within = some_nodes reader theirs;
    live = live;
    none = calm;
    there = subst (λ (n : ℕ). is_key keys n ≡ true) (zero_is (length reader)) tables.root;
  }

  -- each pair that the roots lead to was reached
  pub standing : (p : Pair) → IsReached writer reader dead p → IsStanding p
  standing p (roots live) = roots_standing (sym (dead_is 0) ∙ live)
  standing p (child q c before among live) = child_standing q p (standing q before) among (sym (dead_is p.w) ∙ live)

  -- the root of such a pair's schema is not dead
  pub root_lives : (p : Pair) → IsReached writer reader dead p → is_among dead 0 ≡ false
  root_lives p (roots live) = live
  root_lives p (child q c before among live) = root_lives q before

  -- a pair that was reached is one that the roots lead to
  pub record IsMet (p : Pair) : Type 0 where
    pub stands : IsStanding p
    pub reached : IsReached writer reader dead p

  child_met : (p : Pair) (k : ℕ) → IsMet p → IsTaken (length reader) table (open_children writer reader p.w p.r (node_at writer p.w) (node_at reader p.r)) k
      → IsMet (pair_at (length reader) k)
  child_met p k own it =
      let among = open_among (has_local_fault writer reader (node_at writer p.w) (node_at reader p.r)) (children_of writer reader p.w p.r (node_at writer p.w) (node_at reader p.r)) it.c it.among in
      let stands : IsStanding it.c = child_standing p it.c own.stands among it.live in
      let met : IsMet it.c = record { stands = stands; reached = child p it.c own.reached among (dead_is it.c.w ∙ it.live) } in
      let same : it.c ≡ pair_at (length reader) k = sym (number_back (length reader) it.c stands.within) ∙ ap (pair_at (length reader)) (sym it.is) in
      subst (λ (x : Pair). IsMet x) same met

  pub met : is_among dead 0 ≡ false → (k : ℕ) → IsSteppedTo (steps_at writer reader table) k → IsMet (pair_at (length reader) k)
  met live k from_first =
      let start : IsMet (record { w = 0; r = 0 }) = record { stands = roots_standing (sym (dead_is 0) ∙ live); reached = roots live } in
      subst (λ (n : ℕ). IsMet (pair_at (length reader) n)) (sym (zero_is (length reader)))
      (subst (λ (x : Pair). IsMet x) (sym (number_back (length reader) (record { w = 0; r = 0 }) (some_nodes reader theirs))) start)
  met live k (one_step j k2 before step) =
      child_met (pair_at (length reader) j) k (met live j before) (number_taken (length reader) table (children_at writer reader j) k step)
