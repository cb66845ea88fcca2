use Rattle.std.proofs.Common.{◌≡◌, ◌∙◌, ℕ, List, Option, Some, ap, subst, sym, rules}
use Rattle.std.specs.Prelude.{slice_get}
use Rattle.std.specs.Global.{Vec}
use Rattle.avro_schema.specs.Node.{node_at}
use Rattle.avro_compare.specs.Resolve.{fields_at}
use Rattle.avro_compare.specs.inside.PartNumbers.{HasOwn, IsItemAt, Lists, names_of}
use Rattle.avro_compare.specs.declared.part_numbers.NodeParts.{NodeParts}
use Rattle.avro_compare.proofs.NumberedNames.{aliases_of_field, name_there, number_of_list}
use Rattle.avro_compare.proofs.part_finding.field_numbers_at.Goals as goal

pub returns : goal.returns
returns c = λ writer reader field are there.
    let numbers = c.args.numbers.now in
    let writes = c.in_ok-writes.writes in
    let reads = c.in_ok-reads.reads in
    let of_writer : slice_get numbers.writes.items c.args.w.0 ≡ Some writes = ap (λ (ps : List NodeParts). slice_get ps c.args.w.0) (sym c.deref.ensures.value) ∙ sym c.in_ok-writes.ensures in
    let of_reader : slice_get numbers.reads.items c.args.r.0 ≡ Some reads = ap (λ (ps : List NodeParts). slice_get ps c.args.r.0) (sym c.deref-2.ensures.value) ∙ sym c.in_ok-reads.ensures in
    let fields = names_of (fields_at (node_at writer c.args.w.0)) in
    let own = names_of (fields_at (node_at reader c.args.r.0)) in
    let named = subst (λ (lists : Lists). IsItemAt lists c.in_ok-own.own c.args.index c.in_ok-name.name) c.deref-3.ensures.value c.in_ok-name.ensures in
    let aliased = subst (λ (lists : List (Vec (Option ℕ))). IsItemAt lists c.args.r.0 c.args.index c.in_ok-aliases.aliases) c.deref-4.ensures.value c.in_ok-aliases.ensures in
    let written : writes.fields ≡ Some c.in_ok-fields.fields = search rules in
    let listed : reads.fields ≡ Some c.in_ok-own.own = search rules in
    record {
      fields = subst (λ (o : Option ℕ). HasOwn numbers.texts numbers.tabled.items o fields) written (are.writes c.args.w.0 writes of_writer).0;
      name = number_of_list numbers.texts numbers.plain.items c.in_ok-own.own c.args.index c.in_ok-name.name own
          (subst (λ (o : Option ℕ). HasOwn numbers.texts numbers.plain.items o own) listed (are.reads c.args.r.0 reads of_reader).0) named field.name (name_there _ c.args.index field there);
      aliases = aliases_of_field numbers.texts numbers.tabled.items reader numbers.aliases.items c.args.r.0 c.args.index c.in_ok-aliases.aliases field are.aliases aliased there;
    }
