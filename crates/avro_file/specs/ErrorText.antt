-- The code of an error of a container file, and the place in the file.
use Rattle.std.specs.Prelude.{ℕ, List, codes}
use Rattle.avro_file.specs.declared.error.CopyError.{CopyError}
use Rattle.avro_file.specs.declared.error.LimitPlace.{LimitPlace}

-- the code of a limit that is exceeded, C9
abbrev pub limit_code : List ℕ
limit_code = codes "C9"

-- the code of an error, C1 to C16
abbrev pub error_code : CopyError → List ℕ
error_code CopyError.NoMagic = codes "C1"
error_code (CopyError.InvalidMetadata e) = codes "C2"
error_code CopyError.NoSchema = codes "C3"
error_code (CopyError.InvalidSchema e) = codes "C4"
error_code CopyError.UnknownCodec = codes "C5"
error_code (CopyError.InvalidCount block e) = codes "C6"
error_code (CopyError.BytesLeft block) = codes "C7"
error_code (CopyError.WrongMarker block) = codes "C8"
error_code (CopyError.LimitExceeded place) = limit_code
error_code (CopyError.InvalidDatum block datum e) = codes "C10"
error_code (CopyError.UnresolvedDatum block datum fault) = codes "C11"
error_code CopyError.InputFailed = codes "C12"
error_code CopyError.OutputFailed = codes "C13"
error_code CopyError.OutOfMemory = codes "C14"
error_code CopyError.FailedBefore = codes "C15"
error_code CopyError.CutHeader = codes "C16"
error_code (CopyError.CutBlock block) = codes "C16"

-- the block that an error is in, or the datum of a block; the header stands for all that is outside the blocks
abbrev pub place_of : CopyError → LimitPlace
place_of (CopyError.InvalidCount block e) = LimitPlace.Block block
place_of (CopyError.BytesLeft block) = LimitPlace.Block block
place_of (CopyError.WrongMarker block) = LimitPlace.Block block
place_of (CopyError.CutBlock block) = LimitPlace.Block block
place_of (CopyError.LimitExceeded place) = place
place_of (CopyError.InvalidDatum block datum e) = LimitPlace.Datum block datum
place_of (CopyError.UnresolvedDatum block datum fault) = LimitPlace.Datum block datum
place_of _ = LimitPlace.Header
