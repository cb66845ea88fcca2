use Rattle.std.proofs.Common.{◌||◌, ◌∙◌, ap, not, sym}
use Rattle.std.specs.FinSet as set
use Rattle.avro_cursor.specs.KeySet.{KeySet, key_set, with_key}
use Rattle.avro_cursor.proofs.KeySets.{contains-none, key_set-again, key_set-contains, key_set-updates, seen_keys, with_three-insert}
use Rattle.avro_cursor.proofs.keys.Keys.add.Goals as goal

pub returns-then-is_known-clause-added : goal.returns-then-is_known-clause-added
returns-then-is_known-clause-added c =
    let key = c.args.key.now in
    let others = key_set (seen_keys c.self.inside.keys.keys) in
    sym (key_set-again c.args.self.now key (sym (ap (λ (s : KeySet). set.contains s key) c.self.view_is) ∙ c.is_among-is_known.ensures others ∙ ap (λ b. b || set.contains others key) c.if-is_known.true))

pub returns-then-is_free-clause-is_new : goal.returns-then-is_free-clause-is_new
returns-then-is_free-clause-is_new c =
    let key = c.args.key.now in
    let others = key_set (seen_keys c.self.inside.keys.keys) in
    let none = ap (λ keys. set.contains (key_set (seen_keys keys)) key) (c.is_free-is_free.ensures.others c.if-is_free.true) ∙ contains-none key in
    sym (ap not (sym (ap (λ (s : KeySet). set.contains s key) c.self.view_is) ∙ c.is_among-is_known.ensures others ∙ ap (λ b. b || set.contains others key) c.if-is_known.false ∙ none))

pub returns-clause-is_new : goal.returns-clause-is_new
returns-clause-is_new c =
    let key = c.args.key.now in
    let others = key_set (seen_keys c.self.inside.keys.keys) in
    c.in_ok-insert.ensures.added
    ∙ ap not (key_set-contains c.self.inside.keys c.args.key ∙ sym (sym (ap (λ (s : KeySet). set.contains s key) c.self.view_is) ∙ c.is_among-is_known.ensures others ∙ ap (λ b. b || set.contains others key) c.if-is_known.false))

pub returns-clause-added : goal.returns-clause-added
returns-clause-added c =
    let all = λ (s : KeySet). with_key c.self.inside.first (with_key c.self.inside.second (with_key c.self.inside.third s)) in
    ap all (key_set-updates c.self.inside.keys c.insert.new.self c.args.key c.in_ok-insert.ensures.updates)
    ∙ with_three-insert c.self.inside.first c.self.inside.second c.self.inside.third (key_set (seen_keys c.self.inside.keys.keys)) c.args.key.now
    ∙ ap (λ (s : KeySet). set.insert s c.args.key.now) c.self.view_is
