use Rattle.avro_schema_json.proofs.Words.{ℕ, List, ap, ◌∙◌, list_any, member_keys, names_only, fields_seen, members_view}
use Rattle.avro_schema_json.proofs.NamesSeen.{is_named, key_named, key_unnamed}
use Rattle.avro_schema_json.proofs.defaults.fields.names_fields.Goals as goal

pub returns-then-not-contains_key : goal.returns-then-not-contains_key
returns-then-not-contains_key c =
    let fields = fields_seen c.args.fields.now in
    let found = c.contains_key.ensures ∙ c.in_ok-names.ensures c.as_str.result.now
    ∙ ap (λ (name : List ℕ). list_any (is_named name) fields) c.as_str.ensures.value in
    key_unnamed fields c.loop-key.key-iterator c.next.new.self c.in-Some.key.now _ c.contains_key.result
    (names_only (member_keys (members_view c.args.members.now.entries)) fields) c.in-Some.ensures.steps found c.loop-key.invariant c.if-not-contains_key.true

pub loop-key-preserved : goal.loop-key-preserved
loop-key-preserved c =
    let fields = fields_seen c.args.fields.now in
    let found = c.contains_key.ensures ∙ c.in_ok-names.ensures c.as_str.result.now
    ∙ ap (λ (name : List ℕ). list_any (is_named name) fields) c.as_str.ensures.value in
    key_named fields c.loop-key.key-iterator c.next.new.self c.in-Some.key.now _ c.contains_key.result
    (names_only (member_keys (members_view c.args.members.now.entries)) fields) c.in-Some.ensures.steps found c.loop-key.invariant c.if-not-contains_key.false
