use Rattle.std.proofs.Common.{◌≤◌, ap, length, arith}
use Rattle.std.specs.BTreeMap.{is_at}
use Rattle.std.specs.Map.{lookup}
use Rattle.avro_schema.specs.Node.{node_at}
use Rattle.avro_schema.specs.SeenSchema.{schema_nodes}
use Rattle.avro_compare.specs.inside.NamedTypes.{named_type, aliases_of}
use Rattle.avro_compare.specs.inside.TypeNames.{key_cmp, has_alias, holds}
use Rattle.avro_compare.proofs.HeldAliases.{all_held, none_held, one_more}
use Rattle.avro_compare.proofs.reader_types.alias_sets.Goals as goal

pub loop-index-init : goal.loop-index-init
loop-index-init c = λ key.
    none_held c.args.texts.now (schema_nodes c.args.reader.now) key c.new-sets.result (ap (λ es. lookup (is_at (key_cmp key)) es) c.new-sets.ensures.empty)

pub loop-index-preserved : goal.loop-index-preserved
loop-index-preserved c = λ key.
    one_more c.loop-index.index (λ b. has_alias c.args.texts.now key (aliases_of (named_type (node_at (schema_nodes c.args.reader.now) b)))) (holds c.loop-index.sets key) (holds c.add_type.new.sets key)
    (c.loop-index.invariant key) (c.in_ok-add_type.ensures key)

pub returns : goal.returns
returns c = λ key.
    let all : length (schema_nodes c.args.reader.now) ≤ c.loop-index.index = omega (arith, c.len-index-end.ensures.count, c.loop-index-test.false) in
    all_held c.args.texts.now (schema_nodes c.args.reader.now) key c.loop-index.sets c.loop-index.index all (c.loop-index.invariant key)
