-- What copying a header does.
use Rattle.std.specs.Prelude.{◌≡◌, ℕ, ◌≤◌, max, List, ◌++◌, length}
use Rattle.avro_file.specs.BlockFails.{FileLimitValues}
use Rattle.avro_file.specs.Copied.{Job, copied_header}
use Rattle.avro_file.specs.File.{HeaderValue, IsHeader}

-- The header was taken, with some bytes ahead of it, and put.
pub record CopiesHeader (job : Job) (limits : FileLimitValues) (h : HeaderValue) (ahead taken put : List ℕ) : Type 0 where
  pub bytes : List ℕ
  pub is_header : IsHeader h bytes
  pub within : length bytes ≤ limits.header
  pub split : taken ≡ bytes ++ ahead
  pub copied : put ≡ copied_header job h
  pub held : length taken ≤ max 4 limits.header
