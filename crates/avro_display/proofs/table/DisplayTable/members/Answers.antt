use Rattle.std.proofs.Common.{◌≡◌, [], List, rules, sym, subst}
use Rattle.std.proofs.lemmas.Bool.{ltb-false}
use Rattle.avro_display.specs.inside.Tables.{AreAllMembers}
use Rattle.avro_schema.specs.Node.{node_at}
use Rattle.avro_schema.specs.SeenSchema.{schema_nodes}
use Rattle.avro_schema.specs.declared.schema.Schema.{Schema}
use Rattle.avro_display.specs.DisplayTree.{record_fields}
use Rattle.avro_display.specs.Table.{AreMembers}
use Rattle.avro_display.specs.declared.member.Member.{Member}
use Rattle.avro_display.proofs.Tables.{members_none, members_there}
use Rattle.avro_display.proofs.table.DisplayTable.members.Goals as goal

pub returns-in-Some : goal.returns-in-Some
returns-in-Some c =
    let nodes = schema_nodes c.self.inside.schema.now in
    let found = c.in-Some.ensures.lookup in
    let all : AreAllMembers nodes c.self.inside.members.items = search rules in
    subst (λ (s : Schema). AreMembers (record_fields (node_at (schema_nodes s) c.args.id.0)) c.deref-in-Some.result.now) c.self.view_is
    (subst (λ (l : List Member). AreMembers (record_fields (node_at nodes c.args.id.0)) l) (sym c.deref-in-Some.ensures.value)
    (members_there nodes c.self.inside.members.items c.deref.result.now c.args.id.0 c.in-Some.members.now c.deref.ensures.value all found.3.0 found.1))

pub returns-in-None : goal.returns-in-None
returns-in-None c =
    let nodes = schema_nodes c.self.inside.schema.now in
    let all : AreAllMembers nodes c.self.inside.members.items = search rules in
    let none : c.deref-in-None.result.now ≡ [] = search rules in
    subst (λ (s : Schema). AreMembers (record_fields (node_at (schema_nodes s) c.args.id.0)) c.deref-in-None.result.now) c.self.view_is
    (members_none nodes c.self.inside.members.items c.deref.result.now c.args.id.0 c.deref-in-None.result.now c.deref.ensures.value all (ltb-false _ _ (sym c.in-None.ensures.lookup.0)) none)
