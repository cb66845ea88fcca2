-- What the words of a command line ask for, where they are a command and its files, and no option.
use Rattle.std.specs.Prelude.{◌≡◌, ◌≢◌, ⊤, false, ℕ, List, [], ◌∷◌, Result, None, codes, map, IfOk, IfErr}
use Rattle.clap.specs.Lexer.{strip_byte}
use Rattle.avro_answer.specs.declared.form.Form.{Form}
use Rattle.avro_judge.specs.JudgeRanges.{JudgeLimitValues}
use Rattle.avro_tool.specs.declared.failure.Failure.{Failure}
use Rattle.avro_tool.specs.declared.request.Request.{Request}

-- a word that does not begin with a hyphen (45)
abbrev pub IsNoOption : List ℕ → Type 0
IsNoOption word = strip_byte 45 word ≡ None

-- a command and its files
pub data PlainWords : Type 0 where
  judge : (writer reader : List ℕ) → PlainWords
  explain : (writer reader : List ℕ) → PlainWords
  confirm : (writer reader certificate : List ℕ) → PlainWords
  check : (file : List ℕ) → PlainWords
  show : (file : List ℕ) → PlainWords
  header : (file : List ℕ) → PlainWords
  read : (writer data_file : List ℕ) → PlainWords
  copy : (input output : List ℕ) → PlainWords

-- its name
abbrev pub name_of : PlainWords → List ℕ
name_of (PlainWords.judge writer reader) = codes "judge"
name_of (PlainWords.explain writer reader) = codes "explain"
name_of (PlainWords.confirm writer reader certificate) = codes "confirm"
name_of (PlainWords.check file) = codes "check"
name_of (PlainWords.show file) = codes "show"
name_of (PlainWords.header file) = codes "header"
name_of (PlainWords.read writer data_file) = codes "read"
name_of (PlainWords.copy input output) = codes "copy"

-- its files, in order
abbrev pub files_of : PlainWords → List (List ℕ)
files_of (PlainWords.judge writer reader) = writer ∷ reader ∷ []
files_of (PlainWords.explain writer reader) = writer ∷ reader ∷ []
files_of (PlainWords.confirm writer reader certificate) = writer ∷ reader ∷ certificate ∷ []
files_of (PlainWords.check file) = file ∷ []
files_of (PlainWords.show file) = file ∷ []
files_of (PlainWords.header file) = file ∷ []
files_of (PlainWords.read writer data_file) = writer ∷ data_file ∷ []
files_of (PlainWords.copy input output) = input ∷ output ∷ []

-- none of the words begins with a hyphen
abbrev pub HaveNoOption : List (List ℕ) → Type 0
HaveNoOption [] = ⊤
HaveNoOption (word ∷ rest) = IsNoOption word × HaveNoOption rest

-- a copy is from one word to another
abbrev pub AreApart : PlainWords → Type 0
AreApart (PlainWords.copy input output) = input ≢ output
AreApart plain = ⊤

-- the limits of judging where the words give none
abbrev pub default_judge_limits : JudgeLimitValues
default_judge_limits = record { pairs = 4194304; size = 4096; limits = record { depth = 128; nodes = 1048576; blob = 16777216 } }

-- the request that they make: with these files, as text, with the default limits, and with nothing that an option asks for
abbrev pub AsksFor : PlainWords → Request → Type 0
AsksFor (PlainWords.judge writer reader) (Request.Judge asked) = (asked.writer.now ≡ writer) × (asked.reader.now ≡ reader)
    × (asked.certificate ≡ None) × (asked.refutation ≡ None) × (asked.limits ≡ default_judge_limits) × (asked.form ≡ Form.Text)
AsksFor (PlainWords.explain writer reader) (Request.Explain asked) = (asked.writer.now ≡ writer) × (asked.reader.now ≡ reader)
    × (asked.max_pairs ≡ 4194304) × (asked.form ≡ Form.Text)
AsksFor (PlainWords.confirm writer reader certificate) (Request.Confirm w r c form) = (w.now ≡ writer) × (r.now ≡ reader)
    × (c.now ≡ certificate) × (form ≡ Form.Text)
AsksFor (PlainWords.check file) (Request.Check files form is_watched) = (map (λ f. f.now) files.items ≡ file ∷ []) × (form ≡ Form.Text) × (is_watched ≡ false)
AsksFor (PlainWords.show file) (Request.Show f reader limit) = (f.now ≡ file) × (reader ≡ None) × (limit ≡ None)
AsksFor (PlainWords.header file) (Request.Header f is_metadata) = (f.now ≡ file) × (is_metadata ≡ false)
AsksFor (PlainWords.read writer data_file) (Request.Read asked) = (asked.writer.now ≡ writer) × (asked.data.now ≡ data_file)
    × (asked.reader ≡ None) × (asked.skip ≡ 0) × (asked.form ≡ Form.Text)
AsksFor (PlainWords.copy input output) (Request.Copy asked) = (asked.source.now ≡ input) × (asked.output.now ≡ output)
    × (asked.reader ≡ None) × (asked.sync ≡ None) × (asked.is_watched ≡ false)
AsksFor words request = ⊥

-- such words make this request, and fail only for want of memory
abbrev pub MakesPlainRequest : List (List ℕ) → Result Request Failure → Type 0
MakesPlainRequest words result = (plain : PlainWords) → words ≡ name_of plain ∷ files_of plain → HaveNoOption (files_of plain) → AreApart plain
    → IfOk result (AsksFor plain) × IfErr result (λ failure. failure ≡ Failure.OutOfMemory)
