use Rattle.std.proofs.Common.{◌++◌, ◌∷◌, string_bytes, codes}
use Rattle.avro_schema.specs.Seen.{ids_of, seen_fields}
use Rattle.avro_schema.specs.SeenSchema.{schema_nodes}
use Rattle.avro_canonical.specs.inside.Pending.{pendings_of, branches, fields, end, before_branch, next_branch, before_field, following_fields}
use Rattle.avro_canonical.proofs.StepsTaken.{ok-step, ok-text, step-branches, step-fields, step-end}
use Rattle.avro_canonical.proofs.writing.write_part.Goals as goal

pub returns-in-Branches : goal.returns-in-Branches
returns-in-Branches c =
    let nodes = schema_nodes c.args.schema.now in
    let ps = pendings_of c.args.parts.now.items in
    let old = string_bytes c.args.out.now in
    let qs = ids_of c.in-Branches.branches.now in
    rw (c.in-Branches.is) (ok-step c.next_branch.result nodes c.args.marks.now c.args.marks.now (branches qs ∷ ps) (pendings_of c.next_branch.new.parts.items) (next_branch qs ++ ps) old
    (string_bytes c.next_branch.new.out) (old ++ before_branch qs) c.next_branch.ensures.text c.next_branch.ensures.left (step-branches nodes c.args.marks.now qs ps old))

pub returns-in-Fields : goal.returns-in-Fields
returns-in-Fields c =
    let nodes = schema_nodes c.args.schema.now in
    let ps = pendings_of c.args.parts.now.items in
    let old = string_bytes c.args.out.now in
    let xs = seen_fields c.in-Fields.fields.now in
    rw (c.in-Fields.is) (ok-step c.next_field.result nodes c.args.marks.now c.args.marks.now (fields xs ∷ ps) (pendings_of c.next_field.new.parts.items) (following_fields xs ++ ps) old
    (string_bytes c.next_field.new.out) (old ++ before_field xs) c.next_field.ensures.text c.next_field.ensures.left (step-fields nodes c.args.marks.now xs ps old))

pub returns-in-End : goal.returns-in-End
returns-in-End c =
    let nodes = schema_nodes c.args.schema.now in
    let ps = pendings_of c.args.parts.now.items in
    let old = string_bytes c.args.out.now in
    rw (c.in-End.is) (ok-text c.put.result nodes c.args.marks.now c.args.marks.now (end ∷ ps) ps old (string_bytes c.put.new.out) (old ++ codes "}") c.put.ensures
    (step-end nodes c.args.marks.now ps old))
