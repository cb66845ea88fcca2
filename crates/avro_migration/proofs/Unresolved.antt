-- Where no datum fails, no block fails by one that does not resolve.
use Rattle.std.proofs.Common.{◌≡◌, ℕ, zero, suc, true, List, [], ◌∷◌, Some, Err, sym, ap, subst, ◌∙◌, take}
use Rattle.std.specs.List.{AllByRecursion, slice_get}
use Rattle.std.proofs.lemmas.Option.{none-some, same_Some}
use Rattle.avro_schema.specs.Value.{Value}
use Rattle.avro_schema.specs.Node.{Node, root_of}
use Rattle.avro_schema.specs.Fits.{fits}
use Rattle.avro_cursor.specs.Fault.{ReadFault, end_of_input, invalid_number, invalid_boolean, invalid_text, unknown_index, invalid_length, wrong_block_size, duplicate_key, limit_exceeded}
use Rattle.avro_compare.specs.Fault.{ResolutionFault}
use Rattle.avro_compare.specs.Resolve.{Resolved}
use Rattle.avro_certificate.specs.Compatible.{AreCompatible}
use Rattle.avro_file.specs.BlockFails.{BlockReading, BlockFails, DataFail, FileLimitValues, datum_fault}
use Rattle.avro_file.specs.Copied.{Job, Resolution, into}
use Rattle.avro_file.specs.File.{HeaderValue}
use Rattle.avro_file.specs.DataRead.{IsDataFault, reading}
use Rattle.avro_file.specs.FileFault.{BlockFault, in_block, unresolved_datum}
use Rattle.avro_container.specs.Steps.{HasFault, Stored, reading_of}

-- a datum that breaks is not one that does not resolve
not_broken : (m n : ℕ) (f : ReadFault) (g : ResolutionFault) → unresolved_datum n g ≡ datum_fault m f → ⊥
not_broken m n (end_of_input place) g e = cc
not_broken m n (invalid_number place) g e = cc
not_broken m n (invalid_boolean place) g e = cc
not_broken m n (invalid_text place) g e = cc
not_broken m n (unknown_index place) g e = cc
not_broken m n (invalid_length place) g e = cc
not_broken m n (wrong_block_size place) g e = cc
not_broken m n (duplicate_key place) g e = cc
not_broken m n limit_exceeded g e = cc

-- no datum that fits fails
abbrev NoneFails : BlockReading → Type 0
NoneFails r = (v : Value) (f : ResolutionFault) → fits r.nodes (root_of r.nodes) v ≡ true → r.resolve v ≡ Err f → ⊥

data_resolve : (r : BlockReading) (count : ℕ) (body : List ℕ) (n : ℕ) (g : ResolutionFault) → NoneFails r → DataFail r count body (unresolved_datum n g) → ⊥
data_resolve r count body n g none (DataFail.datum_breaks m front us f few whole breaks is) = not_broken m n f g is
data_resolve r count body n g none (DataFail.datum_unresolved m front us v f few whole stands fails) = none v f stands.encoded.fitting fails

block_resolves : (r : BlockReading) (number : ℕ) (ended : Type 0) (bytes : List ℕ) (n : ℕ) (g : ResolutionFault) → NoneFails r
    → BlockFails r number ended bytes (unresolved_datum n g) → ⊥
block_resolves r number ended bytes n g none (BlockFails.data_fail count size rest few begins small short room marked fails) =
    data_resolve r count (take size rest) n g none fails

pub never_unresolved_lem : (r : BlockReading) (reader : List Node) (number : ℕ) (ended : Type 0) (bytes : List ℕ) (m : ℕ) (f : ResolutionFault)
    → AreCompatible r.nodes reader → r.resolve ≡ into reader r.nodes → BlockFails r number ended bytes (unresolved_datum m f) → ⊥
never_unresolved_lem r reader number ended bytes m f compatible is fails =
    block_resolves r number ended bytes m f
    (λ v g fit faulty. compatible v g (record { fitting = fit; faulty = ap (λ (resolve : Value → Resolved). resolve v) (sym is) ∙ faulty }))
    fails

-- the same of a step of a copy, after a header of such a schema
pub step_resolves_lem : (job : Job) (limits : FileLimitValues) (ended : Type 0) (before : Stored) (bytes : List ℕ) (h : HeaderValue) (reader : List Node) (n m : ℕ) (f : ResolutionFault)
    → before.header ≡ Some h → AreCompatible h.nodes reader → job.resolve ≡ into reader → HasFault job limits ended before bytes (in_block n (unresolved_datum m f)) → ⊥
step_resolves_lem job limits ended before bytes h reader n m f is compatible resolves (HasFault.of_block k here number fails) =
    let same : h ≡ k = same_Some h k (sym is ∙ here) in
    never_unresolved_lem (reading_of job limits k) reader before.blocks ended bytes m f
    (subst (λ (g : HeaderValue). AreCompatible g.nodes reader) same compatible) (ap (λ (resolve : Resolution). resolve k.nodes) resolves) fails

same_fault : (n number : ℕ) (f g : BlockFault) → in_block n f ≡ in_block number g → f ≡ g
same_fault n number f g e = cc

-- the same of the data of a block that are read for a reader
pub read_resolves_lem : (limits : FileLimitValues) (writer reader : List Node) (sync : List ℕ) (number count : ℕ) (body : List ℕ) (n m : ℕ) (f : ResolutionFault)
    → AreCompatible writer reader → IsDataFault (reading limits writer sync (Some reader)) number count body (in_block n (unresolved_datum m f)) → ⊥
read_resolves_lem limits writer reader sync number count body n m f compatible (g, is, fails) =
    let r = reading limits writer sync (Some reader) in
    data_resolve r count body m f (λ v fault fit faulty. compatible v fault (record { fitting = fit; faulty = faulty }))
    (subst (λ (it : BlockFault). DataFail r count body it) (sym (same_fault n number (unresolved_datum m f) g is)) fails)

-- each of several schemas
pub each_of_history_lem : (writers : List (List Node)) (reader : List Node) (i : ℕ) (writer : List Node) → AllByRecursion (λ nodes. AreCompatible nodes reader) writers
    → slice_get writers i ≡ Some writer → AreCompatible writer reader
each_of_history_lem [] reader i writer all is = absurd (none-some writer is)
each_of_history_lem (nodes ∷ writers) reader zero writer all is = subst (λ (w : List Node). AreCompatible w reader) (same_Some nodes writer is) all.0
each_of_history_lem (nodes ∷ writers) reader (suc i) writer all is = each_of_history_lem writers reader i writer all.1 is
