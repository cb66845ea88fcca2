use Rattle.std.proofs.Common.{◌≡◌, ◌∙◌, List, ℕ, ap, length, rules}
use Rattle.std.specs.Prelude.{slice_get}
use Rattle.std.specs.Global.{Vec}
use Rattle.avro_compare.proofs.NumberedNames.{lists_put}
use Rattle.avro_compare.proofs.public.Lists.{get_last}
use Rattle.avro_compare.proofs.part_numbers.add_list.Goals as goal

pub returns-clause-there : goal.returns-clause-there
returns-clause-there c =
    let lists = c.args.lists.now.items in
    let last : c.in_ok-id.id ≡ length lists = search rules in
    ap (λ (ls : List (Vec ℕ)). slice_get ls c.in_ok-id.id) c.in_ok-push.ensures.items ∙ ap (slice_get _) last ∙ get_last lists c.args.list

pub returns-clause-kept : goal.returns-clause-kept
returns-clause-kept c = lists_put c.args.lists.now.items c.push.new.self.items c.args.list c.in_ok-push.ensures.items
