use Rattle.std.proofs.Common.{◌≡◌, ◌∙◌, ℕ, List, Option, Some, ap, refl, subst, sym, rules}
use Rattle.std.specs.Prelude.{slice_get}
use Rattle.avro_schema.specs.Node.{node_at}
use Rattle.avro_compare.specs.inside.NameTables.{symbols_at}
use Rattle.avro_compare.specs.inside.PartNumbers.{HasOwn}
use Rattle.avro_compare.specs.declared.part_numbers.NodeParts.{NodeParts}
use Rattle.avro_compare.proofs.part_finding.symbol_numbers_of.Goals as goal

pub returns : goal.returns
returns c = λ writer reader are.
    let numbers = c.args.numbers.now in
    let reads = c.in_ok-reads.reads in
    let of_reader : slice_get numbers.reads.items c.args.q.0 ≡ Some reads = ap (λ (ps : List NodeParts). slice_get ps c.args.q.0) (sym c.deref.ensures.value) ∙ sym c.in_ok-reads.ensures in
    let listed : reads.symbols ≡ Some c.in_ok-symbols.symbols = search rules in
    record {
      symbols = subst (λ (o : Option ℕ). HasOwn numbers.texts numbers.tabled.items o (symbols_at (node_at reader c.args.q.0))) listed (are.reads c.args.q.0 reads of_reader).1;
      symbol = (c.in_ok-symbol.ensures.numbered c.in_ok-symbol.symbol).0 refl;
    }
