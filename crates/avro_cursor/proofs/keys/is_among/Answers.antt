use Rattle.std.proofs.Common.{◌||◌, ◌∙◌, ap}
use Rattle.std.specs.FinSet as set
use Rattle.avro_cursor.specs.KeySet.{with_key}
use Rattle.avro_cursor.proofs.keys.is_among.Goals as goal

pub returns-then-is_first : goal.returns-then-is_first
returns-then-is_first c = λ keys.
    let rest = with_key c.args.second (with_key c.args.third keys) in
    c.is_key-is_first.ensures rest ∙ ap (λ b. b || set.contains rest c.args.key.now) c.if-is_first.true

pub returns-then-is_second : goal.returns-then-is_second
returns-then-is_second c = λ keys.
    let last = with_key c.args.third keys in
    let rest = with_key c.args.second last in
    c.is_key-is_first.ensures rest ∙ ap (λ b. b || set.contains rest c.args.key.now) c.if-is_first.false
    ∙ c.is_key-is_second.ensures last ∙ ap (λ b. b || set.contains last c.args.key.now) c.if-is_second.true

pub returns : goal.returns
returns c = λ keys.
    let last = with_key c.args.third keys in
    let rest = with_key c.args.second last in
    c.is_key-is_first.ensures rest ∙ ap (λ b. b || set.contains rest c.args.key.now) c.if-is_first.false
    ∙ c.is_key-is_second.ensures last ∙ ap (λ b. b || set.contains last c.args.key.now) c.if-is_second.false
    ∙ c.is_key.ensures keys
