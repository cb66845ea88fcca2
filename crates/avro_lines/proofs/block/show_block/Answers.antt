-- All data are wanted that are not fewer.
use Rattle.std.proofs.Common.{◌≡◌, ◌≤◌, ℕ, subst, arith, rules}
use Rattle.avro_lines.specs.inside.OpenedSeen.{ShowsBlock}
use Rattle.avro_lines.proofs.block.show_block.Goals as goal

pub returns : goal.returns
returns g c =
    let block = c.args.block.now in
    let least : c.count.result ≤ c.args.count = search rules in
    let most = c.requires.few in
    let is = c.count.ensures in
    let same : block.count ≡ c.args.count = omega (arith, least, most, is) in
    subst (λ (n : ℕ). ShowsBlock g.O.Output.keeps g.O.Output.failures g.O.Output.stuck c.args.opened.now block.number block.count n block.body.items c.args.output.now c.args.lines.now.text
    c.show_whole.new.output c.show_whole.new.lines.text c.show_whole.result) same c.show_whole.ensures
