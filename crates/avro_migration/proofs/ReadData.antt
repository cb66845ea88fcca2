-- What the clause `refused` of a block's reading says for schemas that are compatible.
use Rattle.std.proofs.Common.{◌≡◌, ℕ, List, Some, Ok, Err, sym, subst}
use Rattle.std.specs.Prelude.{Result}
use Rattle.std.specs.Result.{IfErr}
use Rattle.avro_schema.specs.SeenSchema.{schema_nodes}
use Rattle.avro_schema.specs.declared.schema.Schema.{Schema}
use Rattle.avro_compare.specs.Fault.{ResolutionFault}
use Rattle.avro_certificate.specs.Compatible.{AreCompatible}
use Rattle.avro_file.specs.BlockFails.{FileLimitValues}
use Rattle.avro_file.specs.DataRead.{IsDataFault, reading}
use Rattle.avro_file.specs.FileFault.{FileFault, in_block, unresolved_datum}
use Rattle.avro_file.specs.FileSeen.{file_fault}
use Rattle.avro_file.specs.declared.error.CopyError.{CopyError}
use Rattle.avro_migration.proofs.Unresolved.{read_resolves_lem}

pub read-resolves-at : {T : Type 0} (limits : FileLimitValues) (plan approved : Schema × Schema) (sync : List ℕ) (number count : ℕ) (body : List ℕ) (r : Result T CopyError)
    → plan ≡ approved → AreCompatible (schema_nodes approved.0) (schema_nodes approved.1)
    → IfErr r (λ e. (f : FileFault) → file_fault e ≡ Some f
    → IsDataFault (reading limits (schema_nodes plan.0) sync (Some (schema_nodes plan.1))) number count body f)
    → IfErr r (λ e. (n m : ℕ) (f : ResolutionFault) → file_fault e ≡ Some (in_block n (unresolved_datum m f)) → ⊥)
read-resolves-at limits plan approved sync number count body (Ok made) same compatible refused = tt
read-resolves-at limits plan approved sync number count body (Err e) same compatible refused = λ n m f told.
    let both = subst (λ (p : Schema × Schema). AreCompatible (schema_nodes p.0) (schema_nodes p.1)) (sym same) compatible in
    read_resolves_lem limits (schema_nodes plan.0) (schema_nodes plan.1) sync number count body n m f both (refused (in_block n (unresolved_datum m f)) told)
