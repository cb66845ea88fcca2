-- What a parse finds in plain words.
use Rattle.std.specs.Prelude.{◌≡◌, ◌≢◌, ℕ, List, [], ◌∷◌, Option, Result, Some, None, codes, map, option_map, IfErr, IfOk, IsOkAnd, IsSomeAnd}
use Rattle.std.specs.Option.{option_map_or}
use Rattle.clap.specs.Walk.{Row, all_of, first_of, one_of}
use Rattle.clap.specs.Matches.{first_value, matched_of, one_text, raw_values}
use Rattle.clap.specs.declared.parser.matches.Found.{Found}
use Rattle.avro_tool.specs.declared.failure.Failure.{Failure}
use Rattle.avro_tool.specs.declared.request.Request.{Request}
use Rattle.avro_tool.specs.declared.number_options.NumberOption.{NumberOption}
use Rattle.avro_tool.specs.PlainWords.{PlainWords, name_of, AsksFor}

-- the word of an option with a number
abbrev pub option_word : NumberOption → List ℕ
option_word NumberOption.MaxPairs = codes "max-pairs"
option_word NumberOption.MaxSize = codes "max-size"
option_word NumberOption.MaxDepth = codes "max-depth"

-- the digits of its default
abbrev pub default_digits : NumberOption → List ℕ
default_digits NumberOption.MaxPairs = codes "4194304"
default_digits NumberOption.MaxSize = codes "4096"
default_digits NumberOption.MaxDepth = codes "128"

-- its default
abbrev pub default_number : NumberOption → ℕ
default_number NumberOption.MaxPairs = 4194304
default_number NumberOption.MaxSize = 4096
default_number NumberOption.MaxDepth = 128

-- what is read of a command's rows
abbrev pub read_of : PlainWords → List Row → List (Option (List ℕ))
read_of (PlainWords.judge writer reader) rows = first_of (codes "writer") rows ∷ first_of (codes "reader") rows
    ∷ first_of (codes "certificate") rows ∷ first_of (codes "refutation") rows ∷ one_of (codes "max-pairs") rows
    ∷ one_of (codes "max-size") rows ∷ one_of (codes "max-depth") rows ∷ one_of (codes "json") rows ∷ []
read_of (PlainWords.explain writer reader) rows = first_of (codes "writer") rows ∷ first_of (codes "reader") rows
    ∷ one_of (codes "max-pairs") rows ∷ one_of (codes "json") rows ∷ []
read_of (PlainWords.confirm writer reader certificate) rows = first_of (codes "writer") rows ∷ first_of (codes "reader") rows
    ∷ first_of (codes "certificate") rows ∷ one_of (codes "json") rows ∷ []
read_of (PlainWords.check file) rows = one_of (codes "json") rows ∷ one_of (codes "progress") rows ∷ option_map_or (map Some) (all_of (codes "files") rows) []
read_of (PlainWords.show file) rows = first_of (codes "file") rows ∷ first_of (codes "reader") rows ∷ first_of (codes "limit") rows ∷ []
read_of (PlainWords.header file) rows = first_of (codes "file") rows ∷ one_of (codes "metadata") rows ∷ []
read_of (PlainWords.read writer data_file) rows = first_of (codes "writer") rows ∷ first_of (codes "data") rows
    ∷ first_of (codes "reader") rows ∷ first_of (codes "skip") rows ∷ one_of (codes "json") rows ∷ []
read_of (PlainWords.copy input output) rows = first_of (codes "input") rows ∷ first_of (codes "output") rows
    ∷ first_of (codes "reader") rows ∷ first_of (codes "sync") rows ∷ one_of (codes "progress") rows ∷ []

-- what that is
abbrev pub found_in : PlainWords → List (Option (List ℕ))
found_in (PlainWords.judge writer reader) = Some writer ∷ Some reader ∷ None ∷ None ∷ Some (codes "4194304") ∷ Some (codes "4096") ∷ Some (codes "128") ∷ Some (codes "false") ∷ []
found_in (PlainWords.explain writer reader) = Some writer ∷ Some reader ∷ Some (codes "4194304") ∷ Some (codes "false") ∷ []
found_in (PlainWords.confirm writer reader certificate) = Some writer ∷ Some reader ∷ Some certificate ∷ Some (codes "false") ∷ []
found_in (PlainWords.check file) = Some (codes "false") ∷ Some (codes "false") ∷ Some file ∷ []
found_in (PlainWords.show file) = Some file ∷ None ∷ None ∷ []
found_in (PlainWords.header file) = Some file ∷ Some (codes "false") ∷ []
found_in (PlainWords.read writer data_file) = Some writer ∷ Some data_file ∷ None ∷ None ∷ Some (codes "false") ∷ []
found_in (PlainWords.copy input output) = Some input ∷ Some output ∷ None ∷ None ∷ Some (codes "false") ∷ []

-- the command was entered, and this is read of it
abbrev pub IsEntered : PlainWords → Option (List ℕ × List Row) → Type 0
IsEntered plain entered = option_map {U = List ℕ × List (Option (List ℕ))} (λ p. (p.0, read_of plain p.1)) entered ≡ Some (name_of plain, found_in plain)

-- the limits of judging are left as they are
pub record LeavesLimits (f : Found) : Type 0 where
  pub pairs : one_text f (codes "max-pairs") ≡ Some (codes "4194304")
  pub size : one_text f (codes "max-size") ≡ Some (codes "4096")
  pub depth : one_text f (codes "max-depth") ≡ Some (codes "128")

pub record FindsJudge (writer reader : List ℕ) (f : Found) : Type 0 where
  pub writer_is : first_value f (codes "writer") ≡ Some writer
  pub reader_is : first_value f (codes "reader") ≡ Some reader
  pub certificate : first_value f (codes "certificate") ≡ None
  pub refutation : first_value f (codes "refutation") ≡ None
  pub limits : LeavesLimits f
  pub json : one_text f (codes "json") ≡ Some (codes "false")

pub record FindsExplain (writer reader : List ℕ) (f : Found) : Type 0 where
  pub writer_is : first_value f (codes "writer") ≡ Some writer
  pub reader_is : first_value f (codes "reader") ≡ Some reader
  pub pairs : one_text f (codes "max-pairs") ≡ Some (codes "4194304")
  pub json : one_text f (codes "json") ≡ Some (codes "false")

pub record FindsConfirm (writer reader certificate : List ℕ) (f : Found) : Type 0 where
  pub writer_is : first_value f (codes "writer") ≡ Some writer
  pub reader_is : first_value f (codes "reader") ≡ Some reader
  pub certificate_is : first_value f (codes "certificate") ≡ Some certificate
  pub json : one_text f (codes "json") ≡ Some (codes "false")

pub record FindsCheck (file : List ℕ) (f : Found) : Type 0 where
  pub files_are : option_map raw_values (matched_of f (codes "files")) ≡ Some (file ∷ [])
  pub json : one_text f (codes "json") ≡ Some (codes "false")
  pub progress : one_text f (codes "progress") ≡ Some (codes "false")

pub record FindsShow (file : List ℕ) (f : Found) : Type 0 where
  pub file_is : first_value f (codes "file") ≡ Some file
  pub reader : first_value f (codes "reader") ≡ None
  pub limit : first_value f (codes "limit") ≡ None

pub record FindsHeader (file : List ℕ) (f : Found) : Type 0 where
  pub file_is : first_value f (codes "file") ≡ Some file
  pub metadata : one_text f (codes "metadata") ≡ Some (codes "false")

pub record FindsRead (writer data_file : List ℕ) (f : Found) : Type 0 where
  pub writer_is : first_value f (codes "writer") ≡ Some writer
  pub data_is : first_value f (codes "data") ≡ Some data_file
  pub reader : first_value f (codes "reader") ≡ None
  pub skip : first_value f (codes "skip") ≡ None
  pub json : one_text f (codes "json") ≡ Some (codes "false")

pub record FindsCopy (input output : List ℕ) (f : Found) : Type 0 where
  pub apart : input ≢ output
  pub input_is : first_value f (codes "input") ≡ Some input
  pub output_is : first_value f (codes "output") ≡ Some output
  pub reader : first_value f (codes "reader") ≡ None
  pub sync : first_value f (codes "sync") ≡ None
  pub progress : one_text f (codes "progress") ≡ Some (codes "false")

-- the request that plain words make, as an answer that may be none
abbrev pub Gives : PlainWords → Option Request → Type 0
Gives plain found = IsSomeAnd found (AsksFor plain)

abbrev pub GivesOk : PlainWords → Result (Option Request) Failure → Type 0
GivesOk plain result = IsOkAnd result (Gives plain)

-- that request, unless memory runs out
abbrev pub GivesOrMemory : PlainWords → Result (Option Request) Failure → Type 0
GivesOrMemory plain result = IfOk result (Gives plain) × IfErr result (λ failure. failure ≡ Failure.OutOfMemory)
