use Rattle.std.proofs.Common.{◌≡◌, ℤ, FitsSigned, Ok, ap, refl, rules, subst, sym, w32, w64}
use Rattle.std.proofs.lemmas.Int.{to_z-of_z}
use Rattle.avro_schema.specs.Node.{node_at}
use Rattle.avro_schema.specs.SeenSchema.{schema_nodes}
use Rattle.avro_schema.specs.Value.{Value}
use Rattle.avro_binary.specs.LeafValue.{leaf_value}
use Rattle.avro_compare.specs.Resolve.{int_as}
use Rattle.avro_resolve.proofs.resolving.leaves.leaf_for.Goals as goal

pub returns-in-Null : goal.returns-in-Null
returns-in-Null c = rw c.in-Null.is refl

pub returns-in-Boolean : goal.returns-in-Boolean
returns-in-Boolean c = rw c.in-Boolean.is refl

pub returns-in-Long : goal.returns-in-Long
returns-in-Long c =
    let fits : FitsSigned w64 c.in-Long.value = search rules in
    rw c.in-Long.is (ap (λ (i : ℤ). Ok (Value.long i)) (sym (to_z-of_z w64 c.in-Long.value fits)))

pub returns-in-Fixed : goal.returns-in-Fixed
returns-in-Fixed c = rw c.in-Fixed.is refl

pub returns-in-Int : goal.returns-in-Int
returns-in-Int c =
    let fits : FitsSigned w32 c.in-Int.value = search rules in
    rw c.in-Int.is (subst (λ (i : ℤ). int_as i (node_at (schema_nodes c.args.plan.now.1) c.args.q.0) ≡ Ok (leaf_value c.int_for.result)) (to_z-of_z w32 c.in-Int.value fits) (rw c.reader-reader.ensures at c.int_for.ensures))

pub returns-in-Bytes : goal.returns-in-Bytes
returns-in-Bytes c = rw c.in-Bytes.is (rw c.reader-reader.ensures at c.bytes_for.ensures)

pub returns-in-Text : goal.returns-in-Text
returns-in-Text c = rw c.in-Text.is (rw c.reader-reader.ensures at c.text_for.ensures)

pub returns-in-Some : goal.returns-in-Some
returns-in-Some c = rw c.in-Symbol.is c.in-Some.ensures

pub returns-in-None : goal.returns-in-None
returns-in-None c = rw c.in-Symbol.is c.in-None.ensures
