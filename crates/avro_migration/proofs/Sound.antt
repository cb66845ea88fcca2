-- A file within the limits, of a schema that the reader takes, has no fault of a block.
use Rattle.std.proofs.Common.{◌≡◌, ℕ, true, List, [], ◌∷◌, Option, Some, Ok, Err, refl, sym, subst}
use Rattle.std.specs.Prelude.{Result}
use Rattle.std.specs.Result.{IfErr}
use Rattle.std.proofs.lemmas.Bool.{and_parts}
use Rattle.avro_schema.specs.Fits.{fits, each_fits}
use Rattle.avro_schema.specs.Node.{Node, root_of}
use Rattle.avro_schema.specs.Value.{Value, Values, no_values, value}
use Rattle.avro_compare.specs.Fault.{ResolutionFault}
use Rattle.avro_compare.specs.Resolve.{Resolved}
use Rattle.avro_certificate.specs.Compatible.{AreCompatible}
use Rattle.avro_file.specs.BlockFails.{FileLimitValues}
use Rattle.avro_file.specs.Copied.{EachResolved, into}
use Rattle.avro_file.specs.File.{HeaderValue}
use Rattle.avro_file.specs.FileFault.{BlockFault, FileFault, in_block}
use Rattle.avro_file.specs.FileSeen.{file_fault}
use Rattle.avro_file.specs.declared.error.CopyError.{CopyError}
use Rattle.avro_file.proofs.public.Known.{OneSchema, Prefix}
use Rattle.avro_container.specs.CopiedFile.{ResolveWithin, for_reader}
use Rattle.avro_container.specs.Copying.{CopiesUpTo}
use Rattle.avro_container.specs.Moved.{Moved}
use Rattle.avro_container.specs.Steps.{AreBlocksWithin, AreMadeWithin, FaultStands}
use Rattle.avro_container.specs.declared.copying.Counts.{Counts}
use Rattle.avro_container.proofs.public.Known.{DeclaredIsSchema, FaultOrWithin}
use Rattle.avro_container.proofs.public.NoFaults.{copy_has_no_fault_lem}
use Rattle.avro_migration.specs.Migrates.{IsNoneWithin}

-- what has no fault is something
made-of : (r : Resolved) → ((f : ResolutionFault) → r ≡ Err f → ⊥) → (u : Value) × (r ≡ Ok u)
made-of (Ok u) none = (u, refl)
made-of (Err f) none = absurd (none f refl)

each-made : (nodes reader : List Node) (vs : Values) → AreCompatible nodes reader → each_fits nodes (root_of nodes) vs ≡ true
    → (us : Values) × EachResolved (into reader nodes) vs us
each-made nodes reader no_values compatible fit = (no_values, refl)
each-made nodes reader (value v vs) compatible fit =
    let parts = and_parts (fits nodes (root_of nodes) v) (each_fits nodes (root_of nodes) vs) fit in
    let first = made-of (into reader nodes v) (λ f faulty. compatible v f (record { fitting = parts.0; faulty = faulty })) in
    let others = each-made nodes reader vs compatible parts.1 in
    (value first.0 others.0, (first.0, others.0, first.1, others.1, refl))

resolve-within : (limits : FileLimitValues) (h : HeaderValue) (reader : List Node) (blocks : List Values) (bytes : List ℕ) → AreCompatible h.nodes reader
    → AreBlocksWithin limits h blocks bytes → AreMadeWithin limits.block (into reader h.nodes) blocks → ResolveWithin limits.block (into reader h.nodes) blocks
resolve-within limits h reader [] bytes compatible b w = tt
resolve-within limits h reader (vs ∷ blocks) bytes compatible (first, rest, is, others, e) w =
    let made = each-made h.nodes reader vs compatible is.is_block.fitting in
    (made.0, made.1, w.0 made.0 made.1, resolve-within limits h reader blocks rest compatible others w.1)

pub none_within : Prefix → OneSchema → FaultOrWithin → DeclaredIsSchema → (text : List ℕ) (writer reader : List Node) (sync : Option (List ℕ)) (limits : FileLimitValues)
    (ended : Type 0) (taken put : List ℕ) (n : ℕ) (f : BlockFault) → AreCompatible writer reader
    → FaultStands (for_reader text reader sync) limits ended taken put (in_block n f) → IsNoneWithin limits writer reader ended taken
none_within prefix one none declared text writer reader sync limits ended taken put n f compatible stands h blocks more whole same made last =
    let so = subst (λ (w : List Node). AreCompatible w reader) (sym same) compatible in
    let small = subst (λ (w : List Node). AreMadeWithin limits.block (into reader w) blocks) (sym same) made in
    copy_has_no_fault_lem prefix one none declared ended (for_reader text reader sync) limits h blocks taken more put n f whole
    (resolve-within limits h reader blocks whole.block_bytes so whole.are_blocks small) last stands

-- what the clause `fault` of a copy says then
module _ {I O : Type 0} (gives : I → List ℕ → I → Type 0) (keeps : O → List ℕ → O → Type 0) (i i' : I) (o o' : O) where
  pub none-at : Prefix → OneSchema → FaultOrWithin → DeclaredIsSchema → (text : List ℕ) (writer reader : List Node) (sync : Option (List ℕ)) (limits : FileLimitValues)
      (ended : Type 0) (r : Result Counts CopyError) → AreCompatible writer reader
      → IfErr r (λ e. (f : FileFault) → file_fault e ≡ Some f → CopiesUpTo gives keeps i i' o o' (for_reader text reader sync) limits ended f)
      → IfErr r (λ e. (n : ℕ) (f : BlockFault) → file_fault e ≡ Some (in_block n f)
      → Moved gives keeps i i' o o' (λ taken put. IsNoneWithin limits writer reader ended taken))
  none-at prefix one none declared text writer reader sync limits ended (Ok counts) compatible h = tt
  none-at prefix one none declared text writer reader sync limits ended (Err e) compatible h = λ n f told.
      let moved = h (in_block n f) told in
      record {
        taken = moved.taken;
        put = moved.put;
        is_taken = moved.is_taken;
        is_put = moved.is_put;
        does = none_within prefix one none declared text writer reader sync limits ended moved.taken moved.put n f compatible moved.does;
      }
