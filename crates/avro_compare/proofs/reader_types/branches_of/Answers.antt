use Rattle.std.proofs.Common.{◌≡◌, true, subst, sym, ap, ◌∙◌}
use Rattle.std.specs.Prelude.{is_some}
use Rattle.std.specs.List.{list_all}
use Rattle.avro_schema.specs.Node.{node_at}
use Rattle.avro_schema.specs.Seen.{node_of, ids_of}
use Rattle.avro_schema.specs.SeenSchema.{schema_nodes}
use Rattle.avro_schema.specs.WellFormed.{branch_kind}
use Rattle.avro_compare.specs.inside.TypeNames.{branches_at}
use Rattle.avro_compare.proofs.PlainBranches.{all_plain}
use Rattle.avro_compare.proofs.reader_types.branches_of.Goals as goal

pub returns-in-Union-clause-plain : goal.returns-in-Union-clause-plain
returns-in-Union-clause-plain c =
    let nodes = schema_nodes c.args.schema.now in
    subst (λ ids. list_all (λ branch. is_some (branch_kind (node_at nodes branch))) ids ≡ true)
    (sym (ap (λ ids. ids_of ids) c.deref.ensures.value ∙ ap (λ n. branches_at (node_of n)) (sym c.in-Union.is) ∙ ap branches_at c.get.ensures.node))
    (all_plain nodes c.args.id.0 c.get.ensures.formed)
