use Rattle.std.proofs.Common.{◌||◌, ◌∙◌, ap, sym}
use Rattle.std.specs.FinSet as set
use Rattle.avro_cursor.proofs.KeySets.{contains-one}
use Rattle.avro_cursor.proofs.keys.is_key.Goals as goal

pub returns-in-Some : goal.returns-in-Some
returns-in-Some c = λ keys.
    rw c.in-Some.is (contains-one keys c.in-Some.kept.now c.args.key.now ∙ ap (λ b. b || set.contains keys c.args.key.now) (sym c.eq.ensures))
