-- What is so of what was read is so of the file that is known.
use Rattle.std.proofs.Common.{◌≡◌, ◌∙◌, ◌≤◌, ◌<◌, ◌+◌, ℕ, List, take, length, min, Option, Some, None, Ok, ap, subst, arith}
use Rattle.std.proofs.lemmas.List.{length-take, take_all}
use Rattle.std.specs.Prelude.{IsErrOf}
use Rattle.std.specs.Option.{IfSome}
use Rattle.avro_schema.specs.Node.{Node}
use Rattle.avro_schema_json.specs.Declaration.{max_text}
use Rattle.avro_schema_json.specs.DeclaredText.{DeclaresText}
use Rattle.avro_schema_json.specs.declared.error.SchemaError.{SchemaError}
use Rattle.avro_answer.proofs.public.RefusedTexts.{not_long}
use Rattle.avro_answer.specs.ReadText.{IsReadAs}

-- what was read is the whole where more was asked for
pub whole_text : (n : ℕ) (all bytes : List ℕ) → bytes ≡ take (n + 1) all → length bytes ≤ n → bytes ≡ all
whole_text n all bytes is short =
    let count : length bytes ≡ min (n + 1) (length all) = ap length is ∙ length-take (n + 1) all in
    is ∙ take_all (n + 1) all (omega (arith, count, short))

pub whole_known : (n : ℕ) (known : Option (List ℕ)) (bytes : List ℕ) → IfSome known (λ all. bytes ≡ take (n + 1) all) → length bytes ≤ n → IfSome known (λ all. bytes ≡ all)
whole_known n (Some all) bytes is short = whole_text n all bytes is short
whole_known n None bytes is short = tt

pub so_of_known : (P : List ℕ → Type 0) (known : Option (List ℕ)) (bytes : List ℕ) → IfSome known (λ all. bytes ≡ all) → P bytes → IfSome known P
so_of_known P (Some all) bytes is h = subst P is h
so_of_known P None bytes is h = tt

pub schema_known : {A : Type 0} (known : Option (List ℕ)) (bytes : List ℕ) (nodes : List Node) (a : A) (e : SchemaError) → IfSome known (λ all. bytes ≡ take 1048577 all)
    → (max_text < length bytes → IsErrOf (Ok a) e) → DeclaresText bytes nodes → IfSome known (λ text. IsReadAs text nodes)
schema_known known bytes nodes a e is too_long declares =
    let short = not_long bytes a e too_long in
    so_of_known (λ (text : List ℕ). IsReadAs text nodes) known bytes (whole_known max_text known bytes is short) (short, declares)

-- what is so of a file that is known
pub known_is : (P : List ℕ → Type 0) (known : Option (List ℕ)) (text : List ℕ) → known ≡ Some text → IfSome known P → P text
known_is P known text is h = rw is at h
