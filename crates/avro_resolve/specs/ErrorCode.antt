-- The code of an error of resolution, alone or while bytes are read.
use Rattle.std.specs.Prelude.{ℕ, List, codes}
use Rattle.avro_cursor.specs.ErrorCode.{read_code}
use Rattle.avro_compare.specs.FaultText.{kind_code}
use Rattle.avro_resolve.specs.declared.error.ResolveError.{ResolveError}
use Rattle.avro_resolve.specs.declared.error.ReadResolveError.{ReadResolveError}

-- the code of an error of resolution, V1 to V6
abbrev pub resolve_code : ResolveError → List ℕ
resolve_code (ResolveError.Fault fault) = kind_code fault.kind
resolve_code ResolveError.Memory = codes "V6"

-- the code of an error of reading for a reader: that of reading, or that of resolution
abbrev pub read_resolve_code : ReadResolveError → List ℕ
read_resolve_code (ReadResolveError.Read error) = read_code error
read_resolve_code (ReadResolveError.Resolve fault) = kind_code fault.kind
