-- At a pair that is reached and has a fault of its own, or that leads to such a pair, some datum fails.
use Rattle.std.proofs.Common.{◌≡◌, ℕ, Bool, true, false, ◌||◌, cond, List, [], ◌∷◌, Option, Some, None, refl, sym, ◌∙◌, subst, arith, is_none, is_some}
use Rattle.std.proofs.lemmas.Bool.{false≢true}
use Rattle.std.specs.List.{list_all}
use Rattle.avro_schema.specs.Value.{Value}
use Rattle.avro_schema.specs.Node.{Node, node_at}
use Rattle.avro_schema.specs.Fits.{fits}
use Rattle.avro_schema.specs.WellFormed.{is_schema}
use Rattle.avro_compare.specs.Children.{Pair, has_local_fault, children_of}
use Rattle.avro_certificate.specs.Closed.{same_pair, is_among, is_among_pairs}
use Rattle.avro_certificate.specs.Compatible.{AreCompatible}
use Rattle.avro_certificate.specs.Evidence.{IsGreatestDead, IsReached, roots, child}
use Rattle.avro_certificate.proofs.public.DeadNodes.{no_dead_datum}
use Rattle.avro_certificate.proofs.public.Shapes.{meets_rules_at}
use Rattle.avro_certificate.proofs.public.Tests.{all_among_pairs, same_pair-true}
use Rattle.avro_least.specs.Tables.{Least, LeastTable, ErringTable, AreDataShown, AreErrorsShown, ShowsError, err_of, one}
use Rattle.avro_least.proofs.public.Quiet.{IsCalm, any_calm, is_calm}
use Rattle.avro_least.proofs.public.ShownParts.{step_errs}
use Rattle.avro_explain.specs.Details.{details_of}
use Rattle.avro_explain.proofs.LeadPairs.{same_itself}
use Rattle.avro_explain.proofs.LiveData.{live_datum, live_shown, table_without}
use Rattle.avro_explain.proofs.LocalFaults.{no_details}

all_true : (ps : List Pair) → list_all (λ p. true) ps ≡ true
all_true [] = refl
all_true (p ∷ ps) = all_true ps

not_none : (a b : Option Least) → is_some a ≡ true → is_some b ≡ true → (is_none a || is_none b) ≡ true → ⊥
not_none None b some other h = false≢true some
not_none (Some a) None some other h = false≢true other
not_none (Some a) (Some b) some other h = false≢true h

module _ (writer reader : List Node) (formed : is_schema writer ≡ true) (theirs_formed : is_schema reader ≡ true) (dead : List ℕ) (greatest : IsGreatestDead writer dead) where
  -- some datum of a node fails
  abbrev Fails : ℕ → ℕ → Type 0
  Fails w r = (e : Option Least) × ShowsError writer reader 0 (node_at writer w) (node_at reader r) e

  -- each node that is not dead has an entry
  abbrev table : LeastTable
  table = table_without dead

  table_shown : AreDataShown writer 0 table
  table_shown = live_shown writer formed dead (live_datum writer formed dead greatest)

  lives : (v : Value) (p : ℕ) → fits writer (node_at writer p) v ≡ true → is_some (table p) ≡ true
  lives v p h = by (is_among dead p) refl
    where
      by : (t : Bool) → is_among dead p ≡ t → is_some (cond t None (Some one)) ≡ true
      by true e = absurd (no_dead_datum writer dead greatest.all_dead v p e h)
      by false e = refl

  -- a datum fails at a pair that has a fault of its own, or a child with an entry
  fails_at : (erring : ErringTable) (w r : ℕ) → AreErrorsShown writer reader 0 (λ p. true) erring → is_among dead w ≡ false
      → (IsCalm writer reader 0 table erring w r (node_at writer w) (node_at reader r) → ⊥) → Fails w r
  fails_at erring w r shown live busy = (
    _,
    step_errs writer reader 0 table erring (λ p. true) theirs_formed table_shown shown w r
        (all_true (children_of writer reader w r (node_at writer w) (node_at reader r)))
        (some (err_of writer reader 0 table erring w r (node_at writer w) (node_at reader r)) refl),
  )
    where
      some : (o : Option Least) → err_of writer reader 0 table erring w r (node_at writer w) (node_at reader r) ≡ o → is_some o ≡ true
      some None e =
          let own = live_datum writer formed dead greatest w live in
          absurd (busy (any_calm writer reader 0 table erring lives w r (node_at writer w) (node_at reader r) own.datum (lives own.datum w own.fitting) own.fitting
          (meets_rules_at reader r theirs_formed) e))
      some (Some x) e = refl

  local_fails : (w r : ℕ) → is_among dead w ≡ false → has_local_fault writer reader (node_at writer w) (node_at reader r) ≡ true → Fails w r
  local_fails w r live h = fails_at (λ a b. None) w r (λ a b known some. absurd (false≢true some)) live (λ calm. false≢true (sym calm.faultless ∙ h))

  -- a pair of which a child fails
  child_fails : (w r : ℕ) (c : Pair) → is_among dead w ≡ false → is_among_pairs (children_of writer reader w r (node_at writer w) (node_at reader r)) c ≡ true → Fails c.w c.r → Fails w r
  child_fails w r c live among part = fails_at erring w r shown live (λ calm. not_none (table c.w) (erring c.w c.r) (lives part.1.datum c.w part.1.fitting) (rw (same_itself c) refl)
      (all_among_pairs (is_calm writer reader 0 table erring) (children_of writer reader w r (node_at writer w) (node_at reader r)) c calm.children among))
    where
      erring : ErringTable
      erring a b = cond (same_pair c (record { w = a; r = b })) (Some one) None

      shown : AreErrorsShown writer reader 0 (λ p. true) erring
      shown a b known = by (same_pair c (record { w = a; r = b })) refl
        where
          by : (t : Bool) → same_pair c (record { w = a; r = b }) ≡ t → is_some (cond t (Some one) None) ≡ true
              → ShowsError writer reader 0 (node_at writer a) (node_at reader b) (cond t (Some one) None)
          by true e some = subst (λ (p : Pair). ShowsError writer reader 0 (node_at writer p.w) (node_at reader p.r) (Some one)) (same_pair-true c (record { w = a; r = b }) e)
              (record { datum = part.1.datum; fitting = part.1.fitting; fault = part.1.fault; faulty = part.1.faulty; exact = λ k. absurd (omega (arith, k)) })
          by false e some = absurd (false≢true some)

  reached_lives : (p : Pair) → IsReached writer reader dead p → is_among dead p.w ≡ false
  reached_lives p (roots live) = live
  reached_lives p (child q c before among live) = live

  -- where some datum fails at a pair that is reached, one does at the roots
  reached_fails : (p : Pair) → IsReached writer reader dead p → Fails p.w p.r → Fails 0 0
  reached_fails p (roots live) part = part
  reached_fails p (child q c before among live) part = reached_fails q before (child_fails q.w q.r p (reached_lives q before) among part)

  pub compatible_none : AreCompatible writer reader → (p : Pair) → IsReached writer reader dead p
      → details_of writer reader (node_at writer p.w) (node_at reader p.r) ≡ []
  compatible_none compatible p reached = no_details writer reader (node_at writer p.w) (node_at reader p.r)
      (decided (has_local_fault writer reader (node_at writer p.w) (node_at reader p.r)) refl)
    where
      decided : (t : Bool) → has_local_fault writer reader (node_at writer p.w) (node_at reader p.r) ≡ t → t ≡ false
      decided true e =
          let own = (reached_fails p reached (local_fails p.w p.r (reached_lives p reached) e)).1 in
          absurd (compatible own.datum own.fault (record { fitting = own.fitting; faulty = own.faulty }))
      decided false e = refl
