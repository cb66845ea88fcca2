-- A writer's node that is not dead has a datum.
use Rattle.std.proofs.Common.{◌≡◌, ℕ, zero, suc, ◌<◌, ◌≤◌, ◌⊎◌, inl, inr, Bool, true, false, ◌&&◌, cond, List, [], ◌∷◌, Option, Some, None, length, refl, sym, ◌∙◌, ap, subst, arith, unwrap_or, nat_lt, ◌==◌, is_none, is_some}
use Rattle.std.proofs.lemmas.Bool.{true≢false, false≢true, cases_eq, cases_lt, eq-eqb, ne_eqb, lt-ltb}
use Rattle.std.proofs.lemmas.Option.{slice_get_past}
use Rattle.std.specs.List.{list_all}
use Rattle.avro_schema.specs.Value.{Value}
use Rattle.avro_schema.specs.Node.{Node, node_at}
use Rattle.avro_schema.specs.Fits.{fits}
use Rattle.avro_schema.specs.WellFormed.{is_schema}
use Rattle.avro_certificate.specs.Closed.{is_among, is_dead, is_dead_node}
use Rattle.avro_certificate.specs.Evidence.{IsGreatestDead}
use Rattle.avro_certificate.proofs.public.Shapes.{meets_rules_at}
use Rattle.avro_certificate.proofs.public.Tests.{or_left, or_right}
use Rattle.avro_least.specs.Tables.{Least, LeastTable, AreDataShown, ShowsData, least_datum, one}
use Rattle.avro_least.proofs.public.Quiet.{dead_of_step}
use Rattle.avro_least.proofs.public.ShownData.{step_shown}

-- one of some ids that fails a test, and the others
record IsLoose (test : ℕ → Bool) (ids : List ℕ) : Type 0 where
  id : ℕ
  rest : List ℕ
  fails : test id ≡ false
  shorter : suc (length rest) ≡ length ids
  others : (p : ℕ) → is_among rest p ≡ false → (id ≡ p) ⊎ (is_among ids p ≡ false)

loose : (test : ℕ → Bool) (ids : List ℕ) → list_all test ids ≡ false → IsLoose test ids
loose test [] h = absurd (true≢false h)
loose test (x ∷ xs) h = decided (test x) refl h (loose test xs)
  where
    decided : (t : Bool) → test x ≡ t → (t && list_all test xs) ≡ false → (list_all test xs ≡ false → IsLoose test xs) → IsLoose test (x ∷ xs)
    decided true e g later =
        let own = later g in
        record {
          id = own.id;
          rest = x ∷ own.rest;
          fails = own.fails;
          shorter = ap suc own.shorter;
          others = λ p none. elim (own.others p (or_right (x == p) (is_among own.rest p) none)) [
            | inl same ↦ inl same
            | inr gone ↦ inr (rw (or_left (x == p) (is_among own.rest p) none) gone)
          ];
        }
    decided false e g later = record {
      id = x;
      rest = xs;
      fails = e;
      shorter = refl;
      others = λ p none. elim (cases_eq x p) [ inl same ↦ inl same | inr apart ↦ inr (rw (ne_eqb x p apart) none) ];
    }

-- all ids below a number
abbrev ids_to : ℕ → List ℕ
ids_to zero = []
ids_to (suc n) = n ∷ ids_to n

past_ids : (n p : ℕ) → is_among (ids_to n) p ≡ false → n ≤ p
past_ids zero p h = omega arith
past_ids (suc n) p h = elim (cases_eq n p) [
  | inl same ↦ absurd (true≢false (sym (eq-eqb n p same) ∙ or_left (n == p) (is_among (ids_to n) p) h))
  | inr apart ↦ omega (arith, past_ids n p (or_right (n == p) (is_among (ids_to n) p) h), apart)
]

-- an entry of each id but some
abbrev pub table_without : List ℕ → LeastTable
table_without ids p = cond (is_among ids p) None (Some one)

module _ (writer : List Node) (formed : is_schema writer ≡ true) where
  pub record HasDatum (n : Node) : Type 0 where
    pub datum : Value
    pub fitting : fits writer n datum ≡ true

  -- each node has a datum, but for some
  abbrev pub AreLive : List ℕ → Type 0
  AreLive ids = (p : ℕ) → is_among ids p ≡ false → HasDatum (node_at writer p)

  pub live_shown : (ids : List ℕ) → AreLive ids → AreDataShown writer 0 (table_without ids)
  live_shown ids live p = by (is_among ids p) refl
    where
      by : (t : Bool) → is_among ids p ≡ t → is_some (cond t None (Some one)) ≡ true → ShowsData writer 0 (node_at writer p) (cond t None (Some one))
      by true e some = absurd (false≢true some)
      by false e some = let own = live p e in record { datum = own.datum; fitting = own.fitting; exact = λ k. absurd (omega (arith, k)) }

  -- a node that is not dead has a datum by those of the others
  has_datum : (ids : List ℕ) (id : ℕ) → AreLive ids → is_dead_node ids (node_at writer id) ≡ false → HasDatum (node_at writer id)
  has_datum ids id live alive = by (least_datum 0 (table_without ids) (node_at writer id)) refl
    where
      covers : (t : Bool) → is_none (cond t None (Some one)) ≡ true → t ≡ true
      covers true h = refl
      covers false h = h

      by : (o : Option Least) → least_datum 0 (table_without ids) (node_at writer id) ≡ o → HasDatum (node_at writer id)
      by None e = absurd (false≢true (sym alive ∙ dead_of_step 0 (table_without ids) ids (λ p. covers (is_among ids p)) (node_at writer id) e))
      by (Some x) e =
          let own = step_shown writer 0 (table_without ids) (live_shown ids live) (node_at writer id) (meets_rules_at writer id formed) (ap is_some e) in
          record { datum = own.datum; fitting = own.fitting }

  -- past the last node a null counts
  past_is : (P : Node → Type 0) (p : ℕ) → length writer ≤ p → P Node.null → P (node_at writer p)
  past_is P p h own = subst (λ (o : Option Node). P (unwrap_or o Node.null)) (sym (slice_get_past writer p h)) own

  -- a dead set, where all other nodes have data
  record IsDone : Type 0 where
    ids : List ℕ
    dead : is_dead writer ids ≡ true
    live : AreLive ids

  done : (fuel : ℕ) (ids : List ℕ) → length ids < fuel → AreLive ids → IsDone
  done zero ids h live = absurd (omega (arith, h))
  done (suc fuel) ids h live = decided (is_dead writer ids) refl (done fuel)
    where
      alive : (id : ℕ) → (nat_lt id (length writer) && is_dead_node ids (node_at writer id)) ≡ false → is_dead_node ids (node_at writer id) ≡ false
      alive id g = elim (cases_lt id (length writer)) [
        | inl low ↦ rw (lt-ltb id (length writer) low) at g
        | inr past ↦ past_is (λ n. is_dead_node ids n ≡ false) id past refl
      ]

      decided : (t : Bool) → is_dead writer ids ≡ t → ((others : List ℕ) → length others < fuel → AreLive others → IsDone) → IsDone
      decided true e later = record { ids = ids; dead = e; live = live }
      decided false e later =
          let one = loose (λ id. nat_lt id (length writer) && is_dead_node ids (node_at writer id)) ids e in
          later one.rest (omega (arith, one.shorter, h)) (λ p none. elim (one.others p none) [
            | inl same ↦ subst (λ (x : ℕ). HasDatum (node_at writer x)) same (has_datum ids one.id live (alive one.id one.fails))
            | inr gone ↦ live p gone
          ])

  all_done : IsDone
  all_done = done (suc (length (ids_to (length writer)))) (ids_to (length writer)) (omega arith)
      (λ p none. past_is HasDatum p (past_ids (length writer) p none) (record { datum = Value.null; fitting = refl }))

  pub live_datum : (dead : List ℕ) → IsGreatestDead writer dead → AreLive dead
  live_datum dead greatest p h = all_done.live p (by (is_among all_done.ids p) refl)
    where
      by : (t : Bool) → is_among all_done.ids p ≡ t → t ≡ false
      by true m = absurd (true≢false (sym (greatest.greatest all_done.ids all_done.dead p m) ∙ h))
      by false m = refl
