-- What the clauses of a copy say together, for a reader that reads everything.
use Rattle.std.proofs.Common.{◌≡◌, ℕ, ◌^◌, ◌<◌, List, ◌++◌, length, Option, refl, sym, ap, subst, Some, None, Ok, Err, ◌∙◌, append_assoc, arith}
use Rattle.std.specs.Prelude.{IfOk, OnOk, Result}
use Rattle.std.specs.Result.{IfErr}
use Rattle.avro_schema.specs.Node.{Node}
use Rattle.avro_compare.specs.Fault.{ResolutionFault}
use Rattle.avro_certificate.specs.Compatible.{AreCompatible}
use Rattle.avro_schema_json.specs.DeclaredText.{DeclaresText}
use Rattle.avro_file.specs.BlockFails.{FileLimitValues}
use Rattle.avro_file.specs.FileRanges.{AreFileLimits}
use Rattle.avro_file.specs.File.{HeaderValue}
use Rattle.avro_file.specs.FileFault.{FileFault, in_block, unresolved_datum}
use Rattle.avro_file.specs.FileSeen.{file_fault}
use Rattle.avro_file.specs.declared.error.CopyError.{CopyError}
use Rattle.avro_container.specs.Copying.{CopiesFile, CopiesUpTo}
use Rattle.avro_container.specs.Moved.{Moved}
use Rattle.avro_container.specs.declared.copying.Counts.{Counts}
use Rattle.avro_container.specs.Steps.{CopiedWhole, FaultStands, reading_of}
use Rattle.avro_container.specs.CopiedFile.{for_reader, IsMarker}
use Rattle.avro_migration.specs.Migrates.{IsOfOther, Migrates}
use Rattle.avro_file.proofs.public.Known.{OneSchema, Prefix}
use Rattle.avro_container.proofs.public.Known.{DeclaredIsSchema, PlainEncodes, ResolvedFits}
use Rattle.avro_container.proofs.public.CopiedAgain.{copy_again_lem}
use Rattle.avro_container.proofs.public.CopiedFiles.{copy_is_file_lem}
use Rattle.avro_file.proofs.public.OneFile.{one_header_lem}
use Rattle.avro_migration.proofs.Unresolved.{never_unresolved_lem}

pub block-below : (limits : FileLimitValues) → AreFileLimits limits → limits.block < 2 ^ 63
block-below limits r = let most = r.block_most in omega arith

-- a whole copy
pub migrated : Prefix → PlainEncodes → ResolvedFits → DeclaredIsSchema → OneSchema
    → (text : List ℕ) (reader : List Node) (sync : Option (List ℕ)) (limits : FileLimitValues) (ended : Type 0) (items blocks : ℕ) (taken put : List ℕ)
    → DeclaresText text reader → length text < 2 ^ 63 → IsMarker sync → limits.block < 2 ^ 63
    → CopiedWhole (for_reader text reader sync) limits ended items blocks taken put → Migrates text reader sync taken put
migrated prefix encodes fit formed one text reader sync limits ended items blocks taken put d short marked below w =
    let job = for_reader text reader sync in
    let file = copy_is_file_lem encodes fit formed w.header w.blocks taken text reader sync limits.block put w.is_file d short marked w.small below w.is_copy in
    record {
      header = w.header;
      blocks = w.blocks;
      was = w.is_file;
      becomes = file;
      stays = λ k others again is copied. (copy_again_lem prefix one job w.header k reader w.blocks others None put w.is_copy file is refl).1 again copied;
    }

-- a fault of resolution is of another schema's file
pub of_other : Prefix → OneSchema
    → (text : List ℕ) (writer reader : List Node) (sync : Option (List ℕ)) (limits : FileLimitValues) (ended : Type 0) (taken put : List ℕ) (n m : ℕ) (f : ResolutionFault)
    → AreCompatible writer reader → FaultStands (for_reader text reader sync) limits ended taken put (in_block n (unresolved_datum m f)) → IsOfOther writer taken
of_other prefix one text writer reader sync limits ended taken put n m f compatible (FaultStands.of_block k blocks rest begins count copied fails) h front more is e same =
    let split : front ++ more ≡ begins.header_bytes ++ (begins.block_bytes ++ rest) =
    sym e ∙ begins.split ∙ append_assoc begins.header_bytes begins.block_bytes rest in
    let told = one_header_lem prefix one h k front begins.header_bytes more (begins.block_bytes ++ rest) is begins.is_header split in
    let nodes : writer ≡ k.nodes = sym same ∙ ap (λ (g : HeaderValue). g.nodes) told.0 in
    never_unresolved_lem (reading_of (for_reader text reader sync) limits k) reader n ended rest m f (subst (λ (w : List Node). AreCompatible w reader) nodes compatible) refl fails

-- what the clauses `whole` and `fault` of a copy say then
module _ {I O : Type 0} (gives : I → List ℕ → I → Type 0) (keeps : O → List ℕ → O → Type 0) (i i' : I) (o o' : O) where
  pub migrates-at : Prefix → PlainEncodes → ResolvedFits → DeclaredIsSchema → OneSchema
      → (text : List ℕ) (reader : List Node) (sync : Option (List ℕ)) (limits : FileLimitValues) (ended : Type 0) (r : Result Counts CopyError)
      → DeclaresText text reader → length text < 2 ^ 63 → IsMarker sync → limits.block < 2 ^ 63
      → IfOk r (λ counts. CopiesFile gives keeps i i' o o' (for_reader text reader sync) limits ended counts.items counts.blocks)
      → OnOk r (Moved gives keeps i i' o o' (Migrates text reader sync))
  migrates-at prefix encodes fit formed one text reader sync limits ended (Ok counts) d short marked below m = record {
    taken = m.taken;
    put = m.put;
    is_taken = m.is_taken;
    is_put = m.is_put;
    does = migrated prefix encodes fit formed one text reader sync limits ended counts.items counts.blocks m.taken m.put d short marked below m.does;
  }
  migrates-at prefix encodes fit formed one text reader sync limits ended (Err e) d short marked below m = tt

  pub resolves-at : Prefix → OneSchema → (text : List ℕ) (writer reader : List Node) (sync : Option (List ℕ)) (limits : FileLimitValues) (ended : Type 0) (r : Result Counts CopyError)
      → AreCompatible writer reader
      → IfErr r (λ e. (f : FileFault) → file_fault e ≡ Some f → CopiesUpTo gives keeps i i' o o' (for_reader text reader sync) limits ended f)
      → IfErr r (λ e. (n m : ℕ) (f : ResolutionFault) → file_fault e ≡ Some (in_block n (unresolved_datum m f))
      → Moved gives keeps i i' o o' (λ taken put. IsOfOther writer taken))
  resolves-at prefix one text writer reader sync limits ended (Ok counts) compatible m = tt
  resolves-at prefix one text writer reader sync limits ended (Err e) compatible h = λ n m f told.
      let moved = h (in_block n (unresolved_datum m f)) told in
      record {
        taken = moved.taken;
        put = moved.put;
        is_taken = moved.is_taken;
        is_put = moved.is_put;
        does = of_other prefix one text writer reader sync limits ended moved.taken moved.put n m f compatible moved.does;
      }
