-- The limits within which the program reads files.
use Rattle.avro_schema.specs.Fits.{LimitValues}
use Rattle.avro_file.specs.BlockFails.{FileLimitValues}

-- the default limits on a datum
abbrev pub datum_limits : LimitValues
datum_limits = record { depth = 128; nodes = 1048576; blob = 16777216 }

-- 4,194,304 bytes in a header, 16,777,216 bytes and 1,048,576 data in a block, and these limits on a datum
abbrev pub default_limits : FileLimitValues
default_limits = record { header = 4194304; block = 16777216; per_block = 1048576; datum = datum_limits }
