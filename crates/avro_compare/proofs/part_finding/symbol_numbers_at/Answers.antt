use Rattle.std.proofs.Common.{◌≡◌, ◌∙◌, ℕ, List, Option, Some, ap, subst, sym, rules}
use Rattle.std.specs.Prelude.{slice_get}
use Rattle.avro_schema.specs.Node.{node_at}
use Rattle.avro_compare.specs.inside.NameTables.{symbols_at}
use Rattle.avro_compare.specs.inside.PartNumbers.{HasOwn, IsItemAt, Lists}
use Rattle.avro_compare.specs.declared.part_numbers.NodeParts.{NodeParts}
use Rattle.avro_compare.proofs.NumberedNames.{number_of_symbol}
use Rattle.avro_compare.proofs.part_finding.symbol_numbers_at.Goals as goal

pub returns : goal.returns
returns c = λ writer reader are.
    let numbers = c.args.numbers.now in
    let writes = c.in_ok-writes.writes in
    let reads = c.in_ok-reads.reads in
    let of_writer : slice_get numbers.writes.items c.args.w.0 ≡ Some writes = ap (λ (ps : List NodeParts). slice_get ps c.args.w.0) (sym c.deref.ensures.value) ∙ sym c.in_ok-writes.ensures in
    let of_reader : slice_get numbers.reads.items c.args.q.0 ≡ Some reads = ap (λ (ps : List NodeParts). slice_get ps c.args.q.0) (sym c.deref-2.ensures.value) ∙ sym c.in_ok-reads.ensures in
    let there = subst (λ (lists : Lists). IsItemAt lists c.in_ok-own.own c.args.index c.in_ok-symbol.symbol) c.deref-3.ensures.value c.in_ok-symbol.ensures in
    let written : writes.symbols ≡ Some c.in_ok-own.own = search rules in
    let listed : reads.symbols ≡ Some c.in_ok-symbols.symbols = search rules in
    record {
      symbols = subst (λ (o : Option ℕ). HasOwn numbers.texts numbers.tabled.items o (symbols_at (node_at reader c.args.q.0))) listed (are.reads c.args.q.0 reads of_reader).1;
      symbol = number_of_symbol numbers.texts numbers.plain.items c.in_ok-own.own c.args.index c.in_ok-symbol.symbol (node_at writer c.args.w.0)
          (subst (λ (o : Option ℕ). HasOwn numbers.texts numbers.plain.items o (symbols_at (node_at writer c.args.w.0))) written (are.writes c.args.w.0 writes of_writer).1) there;
    }
