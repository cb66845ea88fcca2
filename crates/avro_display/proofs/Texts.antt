-- The text of a display, part by part.
use Rattle.std.proofs.Common.{◌≡◌, ◌∙◌, ◌++◌, ℕ, ℤ, pos, negsuc, suc, List, [], ◌∷◌, length, refl, ap, append-nil}
use Rattle.std.specs.Fmt.{signed_decimal}
use Rattle.serde_json.specs.Find.{of_integer}
use Rattle.serde_json.specs.Written.{number_text}
use Rattle.json.specs.Print.{print, print_from, token_text}
use Rattle.json.specs.Token.{Token}
use Rattle.avro_schema.specs.Seen.{seen_fields}
use Rattle.avro_schema.specs.declared.schema.Field.{Field}

-- one token is written
pub print_one : (t : Token) → print (t ∷ []) ≡ token_text t
unfolding print_from
print_one t = append-nil (token_text t)

-- what was appended of a writer is the one token
pub one_written : (old new before : List ℕ) (none ts : List Token) (t : Token) → before ≡ [] → none ≡ [] → ts ≡ none ++ t ∷ [] → new ≡ old ++ (before ++ print ts) → new ≡ old ++ token_text t
one_written old new before none ts t front start more is =
    is ∙ ap (λ (b : List ℕ). old ++ (b ++ print ts)) front ∙ ap (λ (us : List Token). old ++ print us) (more ∙ ap (λ (us : List Token). us ++ t ∷ []) start)
    ∙ ap (λ (b : List ℕ). old ++ b) (print_one t)

pub digits_text : (i : ℤ) → signed_decimal i ≡ number_text (of_integer i)
digits_text (pos n) = refl
digits_text (negsuc n) = refl

pub seen_length : (fs : List Field) → length (seen_fields fs) ≡ length fs
seen_length [] = refl
seen_length (f ∷ fs) = ap suc (seen_length fs)
