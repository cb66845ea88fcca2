use Rattle.std.proofs.Common.{◌≡◌, ◌<◌, ◌≤◌, ℕ, ap, ◌∙◌, arith, List, take, drop, length}
use Rattle.avro_cursor.proofs.CursorSteps.{content_cut, content_stands}
use Rattle.avro_cursor.proofs.cursor.Cursor.content.Goals as goal

pub returns-then-count-behind-clause-refused : goal.returns-then-count-behind-clause-refused
returns-then-count-behind-clause-refused c = λ is_content.
    let now = c.args.self.now in
    let len = c.in_ok-count.len in
    let count = c.in_ok-count.ensures in
    let back : c.split_at.result.1.now ≡ drop len now.bytes = c.split_at.ensures.back ∙ ap (λ (k : List ℕ). drop len k) c.rest.ensures in
    let sizes = ap length back in
    let short : length (drop len now.bytes) < c.in_ok-count.count = omega arith in
    content_cut is_content now.blob now.bytes c.in_ok-count.count len now.offset c.offset_behind.result count.stands count.within short count.inside c.offset_behind.ensures

pub returns-clause-stands : goal.returns-clause-stands
returns-clause-stands c =
    let now = c.args.self.now in
    let len = c.in_ok-count.len in
    let count = c.in_ok-count.ensures in
    let back : c.split_at.result.1.now ≡ drop len now.bytes = c.split_at.ensures.back ∙ ap (λ (k : List ℕ). drop len k) c.rest.ensures in
    let sizes = ap length back in
    let enough : c.in_ok-count.count ≤ length (drop len now.bytes) = omega arith in
    content_stands now.blob c.in_ok-count.count len now.bytes c.split_at-2.result.0.now count.stands count.within enough count.inside
    (c.split_at-2.ensures.front ∙ ap (λ (k : List ℕ). take c.in_ok-count.count k) back)
