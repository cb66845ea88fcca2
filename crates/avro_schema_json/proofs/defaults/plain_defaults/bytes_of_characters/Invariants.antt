use Rattle.avro_schema_json.proofs.Words.{◌≡◌, ◌++◌, drop, nat_lt, list_all}
use Rattle.avro_schema_json.proofs.defaults.plain_defaults.bytes_of_characters.Given as goal

abbrev pub invariant-loop-character : goal.invariant-loop-character
invariant-loop-character l =
    (l.bytes.items ++ drop l.character-index l.characters ≡ l.characters)
    × (list_all (λ c. nat_lt c 256) l.characters ≡ list_all (λ c. nat_lt c 256) (drop l.character-index l.characters))
