-- The text of a JSON object that grows member by member.
use Rattle.std.specs.Prelude.{◌≡◌, true, List, ℕ, ◌++◌, string_bytes, option_copied}
use Rattle.serde_json.specs.Data.{Members}
use Rattle.serde_json.specs.Written.{comma_if, members_text}
use Rattle.avro_display.specs.Table.{head_text}
use Rattle.avro_answer.specs.JsonAnswer.{NamedPath}
use Rattle.avro_answer.specs.declared.fault_place.FaultPlace.{FaultPlace}
use Rattle.avro_answer.specs.declared.json_object.JsonObject.{JsonObject}

-- a member was put whose value has this text
abbrev pub PutsMember : JsonObject → List ℕ → List ℕ → JsonObject → Type 0
PutsMember old key value new = (string_bytes new.text ≡ string_bytes old.text ++ (comma_if old.later ++ (head_text key ++ value))) × (new.later ≡ true)

-- members were put, those that `more` has before the ones that come next
abbrev pub PutsMembers : JsonObject → (Members → Members) → JsonObject → Type 0
PutsMembers old more new = ((rest : Members) → string_bytes new.text ++ members_text true rest ≡ string_bytes old.text ++ members_text old.later (more rest)) × (new.later ≡ true)

-- the place of a fault as the program has it
abbrev pub named_path : FaultPlace → NamedPath
named_path place = record { missing = option_copied place.missing; path = string_bytes place.at }
