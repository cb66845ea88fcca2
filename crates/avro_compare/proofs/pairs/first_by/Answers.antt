use Rattle.std.proofs.Common.{◌≡◌, ◌∙◌, Some, None, true, ap, sym, subst, rules}
use Rattle.std.specs.Prelude.{is_some, slice_get}
use Rattle.std.specs.BTreeMap.{get}
use Rattle.std.specs.List.{list_all}
use Rattle.std.specs.Option.{IfSome}
use Rattle.avro_schema.specs.Node.{node_at}
use Rattle.avro_schema.specs.SeenSchema.{schema_nodes}
use Rattle.avro_schema.specs.WellFormed.{branch_kind}
use Rattle.avro_compare.specs.Match.{first_match}
use Rattle.avro_compare.specs.inside.NamedTypes.{named_type}
use Rattle.avro_compare.specs.inside.TypeNames.{IsFull, branches_at, key_cmp, listed}
use Rattle.avro_compare.proofs.FirstOfType.{first_if_none, first_if_some}
use Rattle.avro_compare.proofs.pairs.first_by.Goals as goal

pub returns-in-None : goal.returns-in-None
returns-in-None c =
    c.first_among.ensures ∙ ap (first_match (schema_nodes c.args.writer.now) (schema_nodes c.args.reader.now) (node_at (schema_nodes c.args.writer.now) c.args.w.0)) c.branches_of-branches.ensures.ids

pub returns-in-None-union_at : goal.returns-in-None-union_at
returns-in-None-union_at c =
    c.first_among-in-None-union_at.ensures ∙ ap (first_match (schema_nodes c.args.writer.now) (schema_nodes c.args.reader.now) (node_at (schema_nodes c.args.writer.now) c.args.w.0)) c.branches_of-branches.ensures.ids

pub returns-then-branches-len : goal.returns-then-branches-len
returns-then-branches-len c =
    c.first_among-then-branches-len.ensures ∙ ap (first_match (schema_nodes c.args.writer.now) (schema_nodes c.args.reader.now) (node_at (schema_nodes c.args.writer.now) c.args.w.0)) c.branches_of-branches.ensures.ids

pub returns-in-None-get : goal.returns-in-None-get
returns-in-None-get c =
    let ws = schema_nodes c.args.writer.now in
    let rs = schema_nodes c.args.reader.now in
    let w = node_at ws c.args.w.0 in
    let names = c.args.names.now in
    let ids = branches_at (node_at rs c.args.r.0) in
    let full = c.in-Some.full in
    let table = c.in-Some-union_at.table.now in
    let named = subst (IsFull names.texts (named_type w)) c.in-Some.is (c.numbers_of.ensures ws c.requires.writes) in
    let plain : list_all (λ id. is_some (branch_kind (node_at rs id))) ids ≡ true = subst (λ bs. list_all (λ id. is_some (branch_kind (node_at rs id))) bs ≡ true) c.branches_of-branches.ensures.ids c.branches_of-branches.ensures.plain in
    let got : slice_get names.unions.items c.args.r.0 ≡ Some table = search rules in
    let none : get key_cmp names.aliases full ≡ None = search rules in
    let kind : c.kind_at.result ≡ named.type.kind = subst (λ t. IfSome t (λ u. c.kind_at.result ≡ u.kind)) named.is c.kind_at.ensures in
    c.first_named-first.ensures ∙ ap (λ k. get key_cmp table.firsts (k, full.0)) kind
    ∙ first_if_none ws rs w names.texts full named names.aliases c.requires.aliases ids plain table.firsts (c.requires.unions c.args.r.0 table got).0 none

pub returns-else-branches-len : goal.returns-else-branches-len
returns-else-branches-len c =
    let ws = schema_nodes c.args.writer.now in
    let rs = schema_nodes c.args.reader.now in
    let w = node_at ws c.args.w.0 in
    let names = c.args.names.now in
    let ids = branches_at (node_at rs c.args.r.0) in
    let full = c.in-Some.full in
    let table = c.in-Some-union_at.table.now in
    let set = c.in-Some-get.types.now in
    let named = subst (IsFull names.texts (named_type w)) c.in-Some.is (c.numbers_of.ensures ws c.requires.writes) in
    let plain : list_all (λ id. is_some (branch_kind (node_at rs id))) ids ≡ true = subst (λ bs. list_all (λ id. is_some (branch_kind (node_at rs id))) bs ≡ true) c.branches_of-branches.ensures.ids c.branches_of-branches.ensures.plain in
    let got : slice_get names.unions.items c.args.r.0 ≡ Some table = search rules in
    let some : get key_cmp names.aliases full ≡ Some set = search rules in
    let kind : c.kind_at.result ≡ named.type.kind = subst (λ t. IfSome t (λ u. c.kind_at.result ≡ u.kind)) named.is c.kind_at.ensures in
    let both = c.requires.unions c.args.r.0 table got in
    c.first_listed.ensures ∙ ap (λ o. listed ws rs w table.places o set.keys) (c.first_named-first.ensures ∙ ap (λ k. get key_cmp table.firsts (k, full.0)) kind)
    ∙ first_if_some ws rs w names.texts full named names.aliases c.requires.aliases ids plain table.firsts both.0 set some table.places both.1
