-- The code of an error of encoding.
use Rattle.std.specs.Prelude.{ℕ, List, codes}
use Rattle.avro_binary.specs.declared.encode_error.EncodeError.{EncodeError}

-- the code of an error of encoding, E1 or E2
abbrev pub encode_code : EncodeError → List ℕ
encode_code EncodeError.DoesNotFit = codes "E1"
encode_code EncodeError.OutOfMemory = codes "E2"
