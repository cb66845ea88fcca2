use Rattle.std.proofs.Common.{ℕ, List, [], ◌++◌, append-nil, subst}
use Rattle.avro_file.specs.Parts.{header_part, block_part, properties_of}
use Rattle.avro_tool.proofs.files.refutation.put_block.Goals as goal

pub returns-in-Ok : goal.returns-in-Ok
returns-in-Ok g c =
    let header = header_part (properties_of c.args.metadata.now) c.args.sync in
    let block = block_part c.args.sync 1 c.args.body.now in
    let put : g.O.Output.keeps c.start.new.output block c.block.new.output =
    subst (λ (s : List ℕ). g.O.Output.keeps c.start.new.output (block_part s 1 c.args.body.now) c.block.new.output) c.in_ok-sink.ensures.kept c.in_ok-block.ensures.put in
    let whole = g.met.O.Output.chain c.args.output.now c.start.new.output c.block.new.output header block c.in_ok-sink.ensures.put put in
    subst (λ (bytes : List ℕ). g.O.Output.keeps c.args.output.now bytes c.flush.new.self) (append-nil (header ++ block))
    (g.met.O.Output.chain c.args.output.now c.block.new.output c.flush.new.self (header ++ block) [] whole c.in-Ok.ensures.none)
