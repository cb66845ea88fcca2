use Rattle.std.proofs.Common.{◌≡◌, ◌∙◌, Some, subst, rules}
use Rattle.std.specs.Prelude.{slice_get}
use Rattle.avro_schema.specs.Node.{node_at}
use Rattle.avro_compare.specs.inside.NamedTypes.{named_type}
use Rattle.avro_compare.specs.inside.TypeNames.{IsFull}
use Rattle.avro_compare.proofs.NumberedTexts.{alike_is}
use Rattle.avro_compare.proofs.type_names.alike_by.Goals as goal

pub returns-in-Some-simple_in_list : goal.returns-in-Some-simple_in_list
returns-in-Some-simple_in_list c = λ writer reader are.
    let names = c.args.names.now in
    let w = named_type (node_at writer c.args.w.0) in
    let r = c.args.r.0 in
    let full = c.in-Some.full in
    let simple = c.in-Some-simple_in_list.simple in
    let got : slice_get names.reads.items r ≡ Some simple = search rules in
    let named = subst (IsFull names.texts w) c.in-Some.is (c.numbers_of.ensures writer are.writes) in
    c.has_name.ensures ∙ alike_is names.texts w (named_type (node_at reader r)) full named simple (are.reads r simple got) _ (are.aliases full r)
