-- How contracts see the errors of a file.
use Rattle.std.specs.Prelude.{ℕ, Option, Some, None, option_map}
use Rattle.avro_cursor.specs.Fault.{invalid_number}
use Rattle.avro_cursor.specs.Seen.{read_fault}
use Rattle.avro_compare.specs.Seen.{fault_of}
use Rattle.avro_file.specs.declared.error.CopyError.{CopyError}
use Rattle.avro_file.specs.declared.error.CountError.{CountError}
use Rattle.avro_file.specs.declared.error.LimitPlace.{LimitPlace}
use Rattle.avro_zigzag.specs.declared.VarError.TheVariants.{OutOfRange}
use Rattle.avro_file.specs.declared.input.PartError.{PartError}
use Rattle.avro_file.specs.FileFault.{FileFault, in_header, in_block, CountFault, no_magic, invalid_metadata, no_schema, refused_schema, unknown_codec, long_header, cut_header, invalid, negative, invalid_count, bytes_left, other_marker, limit_passed, large_datum, invalid_datum, unresolved_datum, cut_block}

-- why a count is none
abbrev pub count_fault : CountError → CountFault
count_fault (CountError.Invalid e) = invalid e
count_fault CountError.Negative = negative

-- the fault of a limit that is exceeded, by its place
abbrev pub limit_fault : LimitPlace → FileFault
limit_fault LimitPlace.Header = in_header long_header
limit_fault (LimitPlace.Block n) = in_block n limit_passed
limit_fault (LimitPlace.Datum n m) = in_block n (large_datum m)

-- the fault of the bytes that an error reports; none if a device failed, memory ran out, or a call failed before
abbrev pub file_fault : CopyError → Option FileFault
file_fault CopyError.NoMagic = Some (in_header no_magic)
file_fault (CopyError.InvalidMetadata e) = option_map (λ f. in_header (invalid_metadata f)) (read_fault e)
file_fault CopyError.NoSchema = Some (in_header no_schema)
file_fault (CopyError.InvalidSchema e) = Some (in_header (refused_schema e))
file_fault CopyError.UnknownCodec = Some (in_header unknown_codec)
file_fault (CopyError.InvalidCount n e) = Some (in_block n (invalid_count (count_fault e)))
file_fault (CopyError.BytesLeft n) = Some (in_block n bytes_left)
file_fault (CopyError.WrongMarker n) = Some (in_block n other_marker)
file_fault (CopyError.LimitExceeded place) = Some (limit_fault place)
file_fault (CopyError.InvalidDatum n m e) = option_map (λ f. in_block n (invalid_datum m f)) (read_fault e)
file_fault (CopyError.UnresolvedDatum n m f) = Some (in_block n (unresolved_datum m (fault_of f)))
file_fault CopyError.CutHeader = Some (in_header cut_header)
file_fault (CopyError.CutBlock n) = Some (in_block n cut_block)
file_fault CopyError.InputFailed = None
file_fault CopyError.OutputFailed = None
file_fault CopyError.OutOfMemory = None
file_fault CopyError.FailedBefore = None

-- the fault that a block has where a part of it is not taken
abbrev pub part_fault : ℕ → PartError → Option FileFault
part_fault number PartError.OutOfRange = Some (in_block number (invalid_count (invalid OutOfRange)))
part_fault number PartError.Limit = Some (in_block number limit_passed)
part_fault number PartError.Ended = Some (in_block number cut_block)
part_fault number PartError.Device = None
part_fault number PartError.OutOfMemory = None

-- the fault that a header has where a part of its metadata is not taken, whose number stands at an offset
abbrev pub header_part_fault : ℕ → PartError → Option FileFault
header_part_fault offset PartError.OutOfRange = Some (in_header (invalid_metadata (invalid_number offset)))
header_part_fault offset PartError.Limit = Some (in_header long_header)
header_part_fault offset PartError.Ended = Some (in_header cut_header)
header_part_fault offset PartError.Device = None
header_part_fault offset PartError.OutOfMemory = None
