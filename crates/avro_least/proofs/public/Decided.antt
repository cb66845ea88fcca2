-- What the tables say of the two schemas.
use Rattle.std.proofs.Common.{◌≡◌, ℕ, ◌<◌, ◌≤◌, true, List, Option, Some, None, subst, arith}
use Rattle.avro_schema.specs.Value.{Value, size, depth}
use Rattle.avro_schema.specs.Node.{Node, root_of}
use Rattle.avro_schema.specs.WellFormed.{is_schema}
use Rattle.avro_compare.specs.Fault.{ResolutionFault}
use Rattle.avro_compare.specs.Resolve.{Resolved}
use Rattle.avro_certificate.specs.Compatible.{ErrsWith, AreCompatible, IsLeastToErr, ErrsOnlyAbove, ErrsLeastDeep}
use Rattle.avro_least.specs.Tables.{Least, LeastTable, ErringTable, IsUnder, AtMost, AreLow, ShowsError}
use Rattle.avro_least.proofs.public.Faults.{OnErr}
use Rattle.avro_least.proofs.LeastErrors.{at_most_errors}

module _ (writer reader : List Node) (limit : ℕ) (table : LeastTable) (erring : ErringTable) (low : AreLow writer reader limit table erring)
    (formed : is_schema reader ≡ true) where
  -- no datum that errs is below the entry of the roots
  pub root_low : (v : Value) (fault : ResolutionFault) → ErrsWith writer reader v fault → AtMost (erring 0 0) (size v) (depth v)
  root_low v fault errs = subst (λ (x : Resolved). OnErr x (AtMost (erring 0 0) (size v) (depth v))) errs.faulty
      (at_most_errors writer reader limit table erring low formed v 0 0 errs.fitting)

  -- without an entry of the roots no datum errs
  pub none_errs : erring 0 0 ≡ None → AreCompatible writer reader
  none_errs none v fault errs = subst (λ (x : Option Least). AtMost x (size v) (depth v)) none (root_low v fault errs)

  -- with one it is under each datum that errs
  pub under_errs : (e : Least) → erring 0 0 ≡ Some e → (v : Value) (fault : ResolutionFault) → ErrsWith writer reader v fault → IsUnder e (size v) (depth v)
  under_errs e some v fault errs = subst (λ (x : Option Least). AtMost x (size v) (depth v)) some (root_low v fault errs)

  -- the datum that shows an entry errs
  pub errs_of : (e : Least) (shown : ShowsError writer reader limit (root_of writer) (root_of reader) (Some e)) → ErrsWith writer reader shown.datum shown.fault
  errs_of e shown = record { fitting = shown.fitting; faulty = shown.faulty }

  -- a datum of the entry's numbers is a least one that errs
  pub least_errs : (e : Least) → erring 0 0 ≡ Some e → (v : Value) (fault : ResolutionFault) → ErrsWith writer reader v fault → size v ≡ e.nodes → IsLeastToErr writer reader v
  least_errs e some v fault errs is = record {
    errs = (fault, errs);
    least = λ w other h. omega (arith, is, (under_errs e some w other h).fewer);
  }

  -- over the limit
  pub only_above : (e : Least) → erring 0 0 ≡ Some e → ShowsError writer reader limit (root_of writer) (root_of reader) (Some e) → limit < e.nodes
      → ErrsOnlyAbove writer reader limit
  only_above e some shown over = record {
    some = (shown.datum, (shown.fault, errs_of e shown));
    above = λ v fault errs. omega (arith, over, (under_errs e some v fault errs).fewer);
  }

  -- within the limit and too deep
  pub least_deep : (e : Least) (deepest : ℕ) → erring 0 0 ≡ Some e → ShowsError writer reader limit (root_of writer) (root_of reader) (Some e) → e.nodes ≤ limit → deepest < e.depth
      → ErrsLeastDeep writer reader limit deepest
  least_deep e deepest some shown within deep =
      let is = shown.exact within in
      record {
        some = (shown.datum, least_errs e some shown.datum shown.fault (errs_of e shown) is.0, omega (arith, is.0, within));
        deep = λ v least.
            let under = under_errs e some v least.errs.0 least.errs.1 in
            let few = least.least shown.datum shown.fault (errs_of e shown) in
            omega (arith, deep, under.shallower (omega (arith, few, is.0)));
      }
