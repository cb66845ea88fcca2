-- The commands of the program's table, as a parse reads them.
use Rattle.std.specs.Prelude.{ℕ, Bool, true, not, List, [], ◌∷◌, Some, codes, fold, map, bytes_eq, ◌||◌}
use Rattle.std.specs.Borrow.{Bor}
use Rattle.clap.specs.Lexer.{usize_max}
use Rattle.clap.specs.Simple.{App, new_app, new_rule, on_top, with_rule, with_subcommand}
use Rattle.clap.specs.Walk.{Rule}
use Rattle.clap.specs.declared.builder.action.ArgAction.TheVariants.{Set, Append, SetTrue}
use Rattle.clap.specs.declared.builder.value_parser.ValueParser.TheVariants as parser
use Rattle.avro_tool.specs.declared.grammar.Choice.{Choice}
use Rattle.avro_tool.specs.declared.grammar.Takes.{Takes}
use Rattle.avro_tool.specs.PlainWords.{PlainWords}

-- an argument's name, what it takes, and its help
abbrev pub ArgumentWords : Type 0
ArgumentWords = Bor (List ℕ) × Takes × Bor (List ℕ)

-- a command's name, what it does, and its arguments
abbrev pub CommandWords : Type 0
CommandWords = Bor (List ℕ) × Bor (List ℕ) × Bor (List ArgumentWords)

-- an option of this name, with a word after it
abbrev pub option_rule : Rule → List ℕ → Rule
option_rule r id = record r { long = Some id; value_names = 1; action = Some Set }

-- the option with the words that it takes
abbrev pub rule_choosing : Rule → Choice → Rule
rule_choosing r Choice.Any = r
rule_choosing r (Choice.Or default) = record r { defaults = default.now ∷ [] }
rule_choosing r (Choice.Among words default) = record r { parser = Some (parser.Names words); defaults = default.now ∷ [] }

-- the argument with what it takes
abbrev pub rule_taking : Rule → List ℕ → Takes → Rule
rule_taking r id (Takes.Word name) = record r { value_names = 1; required = true; action = Some Set }
rule_taking r id (Takes.Words name) = record r { value_names = 1; required = true; range = Some (record { start_inclusive = 1; end_inclusive = usize_max }); action = Some Append }
rule_taking r id (Takes.Option name choice) = rule_choosing (option_rule r id) choice
rule_taking r id Takes.Nothing = record r { long = Some id; action = Some SetTrue }

-- another option conflicts with this one
abbrev pub has_rival : List ℕ → Bool
has_rival id = bytes_eq id (codes "canonical") || bytes_eq id (codes "certificates")

-- the argument of a row of the table
abbrev pub rule_in : ArgumentWords → Rule
rule_in argument = record (rule_taking (new_rule argument.0.now) argument.0.now argument.1) { is_free = not (has_rival argument.0.now) }

-- the command of a row, with its arguments
abbrev pub app_in : CommandWords → App
app_in words = fold with_rule (new_app words.0.now) (map rule_in words.2.now)

-- a word that must be there, one or more of them, an option with a word, one with a number and its default, and one with nothing after it
abbrev pub word : List ℕ → Rule
word id = record (new_rule id) { value_names = 1; required = true; action = Some Set }

abbrev pub several : List ℕ → Rule
several id = record (word id) { range = Some (record { start_inclusive = 1; end_inclusive = usize_max }); action = Some Append }

abbrev pub option : List ℕ → Rule
option id = option_rule (new_rule id) id

abbrev pub number : List ℕ → List ℕ → Rule
number id default = record (option id) { defaults = default ∷ [] }

abbrev pub flag : List ℕ → Rule
flag id = record (new_rule id) { long = Some id; action = Some SetTrue }

-- a command with these arguments
abbrev pub command_with : List ℕ → List Rule → App
command_with name rules = fold with_rule (new_app name) rules

abbrev pub judge_app : App
judge_app = command_with (codes "judge") (word (codes "writer") ∷ word (codes "reader") ∷ option (codes "certificate") ∷ option (codes "refutation")
    ∷ number (codes "max-pairs") (codes "4194304") ∷ number (codes "max-size") (codes "4096") ∷ number (codes "max-depth") (codes "128") ∷ flag (codes "json") ∷ [])

abbrev pub explain_app : App
explain_app = command_with (codes "explain") (word (codes "writer") ∷ word (codes "reader") ∷ number (codes "max-pairs") (codes "4194304") ∷ flag (codes "json") ∷ [])

abbrev pub confirm_app : App
confirm_app = command_with (codes "confirm") (word (codes "writer") ∷ word (codes "reader") ∷ word (codes "certificate") ∷ flag (codes "json") ∷ [])

abbrev pub check_app : App
check_app = command_with (codes "check") (several (codes "files") ∷ flag (codes "json") ∷ flag (codes "progress") ∷ [])

abbrev pub show_app : App
show_app = command_with (codes "show") (word (codes "file") ∷ option (codes "reader") ∷ option (codes "limit") ∷ [])

abbrev pub header_app : App
header_app = command_with (codes "header") (word (codes "file") ∷ flag (codes "metadata") ∷ [])

abbrev pub read_app : App
read_app = command_with (codes "read") (word (codes "writer") ∷ word (codes "data") ∷ option (codes "reader") ∷ option (codes "skip") ∷ flag (codes "json") ∷ [])

abbrev pub copy_app : App
copy_app = command_with (codes "copy") (word (codes "input") ∷ word (codes "output") ∷ option (codes "reader") ∷ option (codes "sync") ∷ flag (codes "progress") ∷ [])

-- the command of plain words
abbrev pub command_app : PlainWords → App
command_app (PlainWords.judge writer reader) = judge_app
command_app (PlainWords.explain writer reader) = explain_app
command_app (PlainWords.confirm writer reader certificate) = confirm_app
command_app (PlainWords.check file) = check_app
command_app (PlainWords.show file) = show_app
command_app (PlainWords.header file) = header_app
command_app (PlainWords.read writer data_file) = read_app
command_app (PlainWords.copy input output) = copy_app

-- the program without its commands
abbrev pub bare_app : App
bare_app = on_top (λ s. record s { no_binary_name = true; subcommand_required = true; has_version = true }) (new_app (codes "avro"))

-- the program with this command alone
abbrev pub app_with : App → App
app_with command = with_subcommand bare_app command.top
