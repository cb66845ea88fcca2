use Rattle.std.proofs.Common.{◌∙◌, ◌++◌, List, ℕ, false, ap}
use Rattle.serde_json.specs.Written.{items_text}
use Rattle.avro_show.proofs.Composed.{items_more}
use Rattle.avro_show.proofs.composing.append_items.Goals as goal

pub loop-item-preserved : goal.loop-item-preserved
loop-item-preserved c = λ ds are.
    let l = c.loop-item in
    items_more c.args.text.now (c.append_byte.new.self ++ items_text false ds) l.whole c.append_comma.new.self c.append.new.self l.later c.args.items.now l.item-index (record { start = 0; end = 0 })
    c.loop-item-test.true c.in_ok-append_comma.ensures
    (λ bytes stands. c.in_ok-append.ensures.appended ∙ ap (λ (b : List ℕ). c.append_comma.new.self ++ b) (c.bytes_at.ensures bytes stands)) (l.invariant ds are)
