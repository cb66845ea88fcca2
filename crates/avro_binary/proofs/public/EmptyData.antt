-- Data without bytes: their plain encoding is empty, and no blob is in them.
use Rattle.std.proofs.Common.{◌≡◌, ℕ, true, List, [], ◌∷◌, length, refl, arith}
use Rattle.std.specs.Prelude.{◌==◌}
use Rattle.std.proofs.lemmas.Bool.{and_parts, false≢true}
use Rattle.std.proofs.lemmas.Bool.Decides.{nat_tests}
use Rattle.avro_schema.specs.Value.{Value, Values, no_values, value, longest_blob, values_longest_blob}
use Rattle.avro_schema.specs.Empty.{is_empty, are_empty}
use Rattle.avro_cursor.specs.Encoding.{plain, plain_values}

none-counted : (n : ℕ) → n == 0 ≡ true → n ≡ 0
none-counted n h = grind (arith, nat_tests)

pub none-long : (xs : List ℕ) → length xs ≡ 0 → xs ≡ []
none-long [] h = refl
none-long (x ∷ xs) h = absurd cc

mutual
  pub plain-empty : (v : Value) → is_empty v ≡ true → plain v ≡ []
  plain-empty Value.null h = refl
  plain-empty (Value.boolean b) h = absurd (false≢true h)
  plain-empty (Value.int i) h = absurd (false≢true h)
  plain-empty (Value.long i) h = absurd (false≢true h)
  plain-empty (Value.bytes b) h = absurd (false≢true h)
  plain-empty (Value.string t) h = absurd (false≢true h)
  plain-empty (Value.array vs) h = absurd (false≢true h)
  plain-empty (Value.map_of es) h = absurd (false≢true h)
  plain-empty (Value.union k v) h = absurd (false≢true h)
  plain-empty (Value.record_of vs) h = plain_values-empty vs h
  plain-empty (Value.enum k) h = absurd (false≢true h)
  plain-empty (Value.fixed b) h = none-long b (none-counted (length b) h)

  pub plain_values-empty : (vs : Values) → are_empty vs ≡ true → plain_values vs ≡ []
  plain_values-empty no_values h = refl
  plain_values-empty (value v vs) h =
      let parts = and_parts (is_empty v) (are_empty vs) h in
      rw (plain-empty v parts.0, plain_values-empty vs parts.1) refl

mutual
  pub longest_blob-empty : (v : Value) → is_empty v ≡ true → longest_blob v ≡ 0
  longest_blob-empty Value.null h = refl
  longest_blob-empty (Value.boolean b) h = absurd (false≢true h)
  longest_blob-empty (Value.int i) h = absurd (false≢true h)
  longest_blob-empty (Value.long i) h = absurd (false≢true h)
  longest_blob-empty (Value.bytes b) h = absurd (false≢true h)
  longest_blob-empty (Value.string t) h = absurd (false≢true h)
  longest_blob-empty (Value.array vs) h = absurd (false≢true h)
  longest_blob-empty (Value.map_of es) h = absurd (false≢true h)
  longest_blob-empty (Value.union k v) h = absurd (false≢true h)
  longest_blob-empty (Value.record_of vs) h = values_longest_blob-empty vs h
  longest_blob-empty (Value.enum k) h = absurd (false≢true h)
  longest_blob-empty (Value.fixed b) h = none-counted (length b) h

  pub values_longest_blob-empty : (vs : Values) → are_empty vs ≡ true → values_longest_blob vs ≡ 0
  values_longest_blob-empty no_values h = refl
  values_longest_blob-empty (value v vs) h =
      let parts = and_parts (is_empty v) (are_empty vs) h in
      rw (longest_blob-empty v parts.0, values_longest_blob-empty vs parts.1) refl
