use Rattle.std.proofs.Common.{ℕ, Option, subst, sym}
use Rattle.std.specs.Global.{Vec}
use Rattle.avro_texts.specs.Texts.{AreDistinct}
use Rattle.avro_schema.specs.Node.{node_at}
use Rattle.avro_compare.specs.Resolve.{fields_at}
use Rattle.avro_compare.specs.inside.PartNumbers.{AreLists, FindsIn, HasParts, aliases_at}
use Rattle.avro_compare.proofs.NumberedNames.{none_distinct}
use Rattle.avro_compare.proofs.public.Planning.{holds_none}
use Rattle.avro_compare.proofs.part_numbers.no_parts.Goals as goal

pub returns : goal.returns
returns c = λ writer reader.
    let texts = c.new.result in
    let tabled = c.new-2.result.items in
    let plain = c.new-3.result.items in
    record {
      lists = record {
        distinct = subst AreDistinct (sym c.new.ensures) none_distinct;
        writes = (holds_none (λ k parts. HasParts texts tabled plain (node_at writer k) parts) c.new-4.ensures.items).0;
        reads = (holds_none (λ k parts. HasParts texts plain tabled (node_at reader k) parts) c.new-5.ensures.items).0;
        aliases = (holds_none (λ k (ids : Vec (Option ℕ)). AreLists texts tabled (aliases_at (fields_at (node_at reader k))) ids.items) c.new-6.ensures.items).0;
      };
      places = (holds_none (λ id (list : Vec ℕ). FindsIn c.with_hasher.result id list.items) c.new-2.ensures.items).0;
    }
