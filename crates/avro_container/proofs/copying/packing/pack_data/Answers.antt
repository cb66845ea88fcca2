-- The data up to the first without bytes are packed, and then the rest.
use Rattle.std.proofs.Common.{◌≡◌, true, arith, subst, take}
use Rattle.avro_schema.specs.SeenSchema.{schema_nodes}
use Rattle.avro_schema.specs.WellFormed.{is_schema}
use Rattle.avro_file.proofs.public.Data.{data_left}
use Rattle.avro_container.specs.inside.BlockSeen.{reading_for}
use Rattle.avro_container.proofs.KnownEmpty.{known-some, merely-some}
use Rattle.avro_container.proofs.copying.packing.pack_data.Goals as goal

pub pack_each-requires-clause-known : goal.pack_each-requires-clause-known
pack_each-requires-clause-known c =
    let r = reading_for c.args.block.now in
    let formed : is_schema r.nodes ≡ true = subst (λ s. is_schema (schema_nodes s) ≡ true) c.schema.ensures c.len.ensures.formed in
    known-some c.prefix.ensures c.plain_encodes.ensures (λ v. v.items) r c.args.empty.now formed c.requires.known

pub returns-then-start-body-clause-refused : goal.returns-then-start-body-clause-refused
returns-then-start-body-clause-refused c = λ f is.
    let body = c.args.body.now in
    let start = c.in_ok-done.start in
    let packs = c.in_ok-pack_rest.ensures.found (take start body) c.in_ok-done.ensures.found in
    data_left (reading_for c.args.block.now) c.args.block.now.number c.args.count start body packs.made f packs.whole (omega (arith, c.if-start-body.true)) is
