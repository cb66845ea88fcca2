-- Data of a record or of a writer's union that err, from those of their parts.
use Rattle.std.proofs.Common.{◌≡◌, ℕ, suc, true, List, ◌∷◌, Option, Some, slice_get}
use Rattle.std.proofs.lemmas.Bool.{and_from}
use Rattle.avro_schema.specs.Value.{Value, Values, value, size, depth, values_size, values_depth}
use Rattle.avro_schema.specs.Node.{Node, FieldNode, node_at, field_ids}
use Rattle.avro_schema.specs.Fits.{fits, fields_fit}
use Rattle.avro_compare.specs.Source.{reader_field}
use Rattle.avro_compare.specs.Resolve.{resolve, resolve_sources}
use Rattle.avro_least.specs.Tables.{Least, Exactly, ShowsData, ShowsError, around, together}
use Rattle.avro_least.proofs.public.ShownData.{ShowsFields, exact_around, exact_together}
use Rattle.avro_certificate.proofs.public.FaultyResults.{IsFault, the_fault, is_fault, fault_inside, fault_later, field_faults, record_faults}

module _ (writer reader : List Node) (limit : ℕ) where
  -- a datum whose result is a fault
  pub shows : (n q : Node) (e : Option Least) (v : Value) → fits writer n v ≡ true → IsFault (resolve writer reader n q v) → Exactly limit e (size v) (depth v)
      → ShowsError writer reader limit n q e
  shows n q e v h f x = let found = the_fault (resolve writer reader n q v) f in
      record { datum = v; fitting = h; fault = found.0; faulty = found.1; exact = x }

  -- values of which one errs
  pub record ErringFields (fields theirs : List FieldNode) (index : ℕ) (ps : List ℕ) (e : Option Least) : Type 0 where
    pub values : Values
    pub fitting : fields_fit writer ps values ≡ true
    pub faulty : IsFault (resolve_sources writer reader fields theirs index values)
    pub exact : Exactly limit e (values_size values) (values_depth values)

  -- the first of them
  pub first_errs : (fields theirs : List FieldNode) (index p : ℕ) (ps : List ℕ) (f : FieldNode) (e others : Option Least) → reader_field fields theirs index ≡ Some f
      → slice_get (field_ids fields) index ≡ Some p → ShowsError writer reader limit (node_at writer p) (node_at reader f.node) e → ShowsFields writer limit ps others
      → ErringFields fields theirs index (p ∷ ps) (together limit e others)
  first_errs fields theirs index p ps f e others found here first rest = record {
    values = value first.datum rest.values;
    fitting = and_from (fits writer (node_at writer p) first.datum) (fields_fit writer ps rest.values) first.fitting rest.fitting;
    faulty = field_faults writer reader fields theirs index p f first.datum rest.values found here
        (is_fault (resolve writer reader (node_at writer p) (node_at reader f.node) first.datum) first.fault first.faulty);
    exact = exact_together limit e others (size first.datum) (depth first.datum) (values_size rest.values) (values_depth rest.values) first.exact rest.exact;
  }

  -- a later one
  pub later_errs : (fields theirs : List FieldNode) (index p : ℕ) (ps : List ℕ) (e later : Option Least) → ShowsData writer limit (node_at writer p) e
      → ErringFields fields theirs (suc index) ps later → ErringFields fields theirs index (p ∷ ps) (together limit e later)
  later_errs fields theirs index p ps e later first rest = record {
    values = value first.datum rest.values;
    fitting = and_from (fits writer (node_at writer p) first.datum) (fields_fit writer ps rest.values) first.fitting rest.fitting;
    faulty = fault_later (reader_field fields theirs index) index _ (resolve_sources writer reader fields theirs (suc index) rest.values) rest.faulty;
    exact = exact_together limit e later (size first.datum) (depth first.datum) (values_size rest.values) (values_depth rest.values) first.exact rest.exact;
  }

  -- a record of them
  pub record_errs : (a b : _) (xs ys : _) (fields theirs : List FieldNode) (e : Option Least) → ErringFields fields theirs 0 (field_ids fields) e
      → ShowsError writer reader limit (Node.record_of a xs fields) (Node.record_of b ys theirs) (around limit e)
  record_errs a b xs ys fields theirs e parts =
      shows (Node.record_of a xs fields) (Node.record_of b ys theirs) (around limit e) (Value.record_of parts.values) parts.fitting
      (record_faults writer reader a b xs ys fields theirs parts.values parts.faulty)
      (exact_around limit e (values_size parts.values) (values_depth parts.values) parts.exact)

  -- a branch that errs
  pub branch_errs : (ids : List ℕ) (q : Node) (k p : ℕ) (e : Option Least) → slice_get ids k ≡ Some p → ShowsError writer reader limit (node_at writer p) q e
      → ShowsError writer reader limit (Node.union ids) q (around limit e)
  branch_errs ids q k p e here part =
      shows (Node.union ids) q (around limit e) (Value.union k part.datum)
      (rw here part.fitting)
      (rw here (fault_inside 0 (resolve writer reader (node_at writer p) q part.datum)
      (is_fault (resolve writer reader (node_at writer p) q part.datum) part.fault part.faulty)))
      (exact_around limit e (size part.datum) (depth part.datum) part.exact)
