-- Pairs of schemas that are compatible, pairs with a least datum that errs, and that datum beside limits of nodes and depth.
use Rattle.std.proofs.Common.{◌≡◌, refl, ◌≤◌, ◌<◌, pos, true, [], ◌∷◌, Ok, Err, arith}
use Rattle.std.proofs.lemmas.Bool.{false≢true, and_parts}
use Rattle.std.specs.Str.{is_utf8, chars}
use lib.Utf8.{encode}
use Rattle.avro_schema.specs.Value.{Value, Values, no_values, value, size, depth}
use Rattle.avro_schema.specs.Node.{Node, root_of}
use Rattle.avro_schema.specs.Fits.{fits}
use Rattle.avro_schema.proofs.public.Parts.{size-positive, depth-positive}
use Rattle.avro_schema.proofs.public.RowsSchemas.{one_value, array_of_int, array_of_string, record_of_itself, record_of_int}
use Rattle.avro_compare.specs.Fault.{no_match, not_utf8}
use Rattle.avro_certificate.specs.Compatible.{AreCompatible, IsLeastToErr, ErrsOnlyAbove, ErrsLeastDeep}

long_refutes_int : IsLeastToErr (Node.long ∷ []) (Node.int ∷ []) (Value.long (pos 0))
long_refutes_int = record {
  errs = (record { cause = no_match; path = [] }, record { fitting = refl; faulty = refl });
  least = λ w fault e. size-positive w;
}

int_array_refutes_string_array : IsLeastToErr array_of_int array_of_string (Value.array no_values)
int_array_refutes_string_array = record {
  errs = (record { cause = no_match; path = [] }, record { fitting = refl; faulty = refl });
  least = λ w fault e. size-positive w;
}

bytes_refute_string : IsLeastToErr (Node.bytes ∷ []) (Node.string ∷ []) (Value.bytes (255 ∷ []))
unfolding is_utf8 chars encode
bytes_refute_string = record {
  errs = (record { cause = not_utf8; path = [] }, record { fitting = refl; faulty = refl });
  least = λ w fault e. size-positive w;
}

-- a datum of a record of one int has a value
record_of_int-value : (v : Value) → fits record_of_int (root_of record_of_int) v ≡ true → (w : Value) × (ws : Values) × (v ≡ Value.record_of (value w ws))
record_of_int-value (Value.array vs) e = absurd (false≢true (and_parts _ _ e).1)
record_of_int-value (Value.map_of es) e = absurd (false≢true (and_parts _ _ e).1)
record_of_int-value (Value.fixed b) e = absurd (false≢true (and_parts _ _ e).1)
record_of_int-value (Value.record_of no_values) e = absurd (false≢true e)
record_of_int-value (Value.record_of (value v vs)) e = (v, vs, refl)
record_of_int-value _ e = absurd (false≢true e)

-- so it has two nodes
record_of_int-size : (v : Value) → fits record_of_int (root_of record_of_int) v ≡ true → 2 ≤ size v
record_of_int-size v e = let has = record_of_int-value v e in rw has.2 (omega (arith, size-positive has.0))

record_refutes_int : IsLeastToErr record_of_int (Node.int ∷ []) (Value.record_of (one_value (Value.int (pos 0))))
record_refutes_int = record {
  errs = (record { cause = no_match; path = [] }, record { fitting = refl; faulty = refl });
  least = λ w fault e. record_of_int-size w e.fitting;
}

-- it has two nodes: it is above a limit of one node, and not above two
record_above_one_node : ErrsOnlyAbove record_of_int (Node.int ∷ []) 1
record_above_one_node = record {
  some = (Value.record_of (one_value (Value.int (pos 0))), record_refutes_int.errs);
  above = λ v fault e. record_of_int-size v e.fitting;
}

record_within_two_nodes : ErrsOnlyAbove record_of_int (Node.int ∷ []) 2 → ⊥
record_within_two_nodes h = omega (arith, h.above (Value.record_of (one_value (Value.int (pos 0)))) record_refutes_int.errs.0 record_refutes_int.errs.1)

-- a record of one int is deeper than one level
record_of_int-depth : (v : Value) → fits record_of_int (root_of record_of_int) v ≡ true → 1 < depth v
record_of_int-depth v e = let has = record_of_int-value v e in rw has.2 (omega (arith, depth-positive has.0))

-- its depth is two: too deep for a limit of one level, and not for two; and a limit of one node comes first
record_too_deep : ErrsLeastDeep record_of_int (Node.int ∷ []) 2 1
record_too_deep = record {
  some = (Value.record_of (one_value (Value.int (pos 0))), record_refutes_int, omega arith);
  deep = λ v least. record_of_int-depth v least.errs.1.fitting;
}

record_not_too_deep : ErrsLeastDeep record_of_int (Node.int ∷ []) 2 2 → ⊥
record_not_too_deep h = omega (arith, h.deep (Value.record_of (one_value (Value.int (pos 0)))) record_refutes_int)

record_of_more_nodes : ErrsLeastDeep record_of_int (Node.int ∷ []) 1 1 → ⊥
record_of_more_nodes h = omega (arith, record_of_int-size h.some.0 h.some.1.errs.1.fitting, h.some.2)

-- an int fits, and nothing else
int_goes_with_long : AreCompatible (Node.int ∷ []) (Node.long ∷ [])
int_goes_with_long (Value.int i) fault e = ok_is_no_err e.faulty
  where
    ok_is_no_err : {A B : Type 0} {a : A} {b : B} → Ok a ≡ Err b → ⊥
    ok_is_no_err h = cc
int_goes_with_long (Value.array vs) fault e = false≢true (and_parts _ _ e.fitting).1
int_goes_with_long (Value.map_of es) fault e = false≢true (and_parts _ _ e.fitting).1
int_goes_with_long (Value.fixed b) fault e = false≢true (and_parts _ _ e.fitting).1
int_goes_with_long _ fault e = false≢true e.fitting

-- where no datum errs, none is above a limit
none_above_zero_nodes : ErrsOnlyAbove (Node.int ∷ []) (Node.long ∷ []) 0 → ⊥
none_above_zero_nodes h = int_goes_with_long h.some.0 h.some.1.0 h.some.1.1

-- the record would hold a datum of its own
record_of_itself-no_datum : (v : Value) → fits record_of_itself (root_of record_of_itself) v ≡ true → ⊥
record_of_itself-no_datum (Value.array vs) e = false≢true (and_parts _ _ e).1
record_of_itself-no_datum (Value.map_of es) e = false≢true (and_parts _ _ e).1
record_of_itself-no_datum (Value.fixed b) e = false≢true (and_parts _ _ e).1
record_of_itself-no_datum (Value.record_of (value v vs)) e = record_of_itself-no_datum v (and_parts _ _ e).0
record_of_itself-no_datum _ e = false≢true e

record_of_itself-compatible : AreCompatible record_of_itself (Node.int ∷ [])
record_of_itself-compatible v fault e = record_of_itself-no_datum v e.fitting
