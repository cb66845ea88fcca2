-- The names with one more.
use Rattle.std.proofs.Common.{◌≡◌, ℕ, cond, true, List, bytes_eq, string_bytes, ap, ◌∙◌}
use Rattle.std.specs.BTreeSet.{contains_text}
use Rattle.std.proofs.lemmas.Map.Text.{btree_set_updates_text}
use Rattle.avro_file.proofs.header.properties.add_name.Goals as goal

pub returns-then-is_new-clause-added : goal.returns-then-is_new-clause-added
returns-then-is_new-clause-added c = λ word.
    let key = string_bytes c.in_ok-kept.kept in
    let same : key ≡ c.args.content.now = c.in_ok-kept.ensures.ok ∙ c.in-Ok.ensures.text.0 in
    btree_set_updates_text key c.args.names.now c.insert.new.self true c.in-Ok-insert.ensures.updates word
    ∙ ap (λ (b : List ℕ). cond (bytes_eq b word) true (contains_text c.args.names.now word)) same
