-- A refusal of a schema's text has a code that the text has.
use Rattle.std.proofs.Common.{◌≡◌, ◌≢◌, ℕ, ◌<◌, ◌≤◌, true, false, ◌⊎◌, inl, inr, List, length, Ok, refl, arith}
use Rattle.std.proofs.lemmas.Bool.Decides.{leb_tells}
use Rattle.std.specs.Prelude.{leb, IsErrOf}
use Rattle.avro_schema_json.specs.Declaration.{max_text, IsNoJson}
use Rattle.avro_schema_json.specs.TextRefusals.{IsRefusalOf}
use Rattle.avro_schema_json.specs.declared.error.SchemaError.{SchemaError}
use Rattle.avro_answer.specs.RefusalText.{HasCode}

-- memory ran out, or it did not
pub memory_or_not : (e : SchemaError) → (e ≡ SchemaError.OutOfMemory) ⊎ (e ≡ SchemaError.OutOfMemory → ⊥)
memory_or_not SchemaError.OutOfMemory = inl refl
memory_or_not SchemaError.NotJson = inr (λ h. absurd cc)
memory_or_not SchemaError.UnknownName = inr (λ h. absurd cc)
memory_or_not SchemaError.DuplicateName = inr (λ h. absurd cc)
memory_or_not SchemaError.InvalidName = inr (λ h. absurd cc)
memory_or_not SchemaError.InvalidDeclaration = inr (λ h. absurd cc)
memory_or_not SchemaError.InvalidUnion = inr (λ h. absurd cc)
memory_or_not SchemaError.InvalidSymbols = inr (λ h. absurd cc)
memory_or_not SchemaError.DuplicateField = inr (λ h. absurd cc)
memory_or_not SchemaError.InvalidDefault = inr (λ h. absurd cc)
memory_or_not SchemaError.UnsupportedType = inr (λ h. absurd cc)
memory_or_not SchemaError.UnsupportedNumber = inr (λ h. absurd cc)
memory_or_not SchemaError.LimitExceeded = inr (λ h. absurd cc)

module _ (text : List ℕ) (e : SchemaError) (refused : IsRefusalOf text e) (no_json : e ≡ SchemaError.NotJson → IsNoJson text)
    (too_long : max_text < length text → e ≡ SchemaError.LimitExceeded) (other : e ≢ SchemaError.OutOfMemory) where
  of_short : length text ≤ max_text → IsRefusalOf text e → HasCode text e
  of_short short (inl memory) = absurd (other memory)
  of_short short (inr (inl is)) = inr (inl (short, is, no_json is))
  of_short short (inr (inr (inl long))) = absurd (omega (arith, short, long.1))
  of_short short (inr (inr (inr (tree, has_tree, fault)))) = inr (inr (short, tree, has_tree, fault))

  pub has_code : HasCode text e
  has_code = by_length (leb_tells (length text) max_text)
    where
      by_length : ((leb (length text) max_text ≡ true) × (length text ≤ max_text)) ⊎ ((leb (length text) max_text ≡ false) × (max_text < length text)) → HasCode text e
      by_length (inl short) = of_short short.1 refused
      by_length (inr long) = inl (long.1, too_long long.1)

-- what was read is not too long
pub not_long : {A : Type 0} (text : List ℕ) (a : A) (e : SchemaError) → (max_text < length text → IsErrOf (Ok a) e) → length text ≤ max_text
not_long text a e refused = by_length (leb_tells (length text) max_text)
  where
    by_length : ((leb (length text) max_text ≡ true) × (length text ≤ max_text)) ⊎ ((leb (length text) max_text ≡ false) × (max_text < length text)) → length text ≤ max_text
    by_length (inl short) = short.1
    by_length (inr long) = let is = refused long.1 in absurd cc
