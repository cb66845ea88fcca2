use Rattle.std.proofs.Common.{◌≡◌, ◌∙◌, List, Some, refl, sym, ap}
use Rattle.std.specs.Prelude.{slice_get}
use Rattle.avro_schema.specs.SeenSchema.{schema_nodes}
use Rattle.avro_explain.specs.declared.found.PathStep.{PathStep}
use Rattle.avro_answer.specs.PlaceText.{place_text}
use Rattle.avro_answer.proofs.named_fault.name_fault.Goals as goal

pub returns-clause-named : goal.returns-clause-named
returns-clause-named c =
    let writer = schema_nodes c.args.writer.now in
    let reader = schema_nodes c.args.reader.now in
    let there : slice_get c.args.places.now c.args.fault.place ≡ Some c.in-Some.place = sym c.place_at.ensures ∙ c.in-Some.is in record {
      found = record {
        place = c.in-Some.place;
        there = there;
        writer_way = c.in_ok-way.way.writer.items;
        reader_way = c.in_ok-way.way.reader.items;
        leads_writer = λ placed. c.in_ok-way.ensures.writer writer reader c.in-Some.place placed there;
        leads_reader = λ placed. c.in_ok-way.ensures.reader writer reader c.in-Some.place placed there;
        way = λ placed. c.in_ok-way.ensures.ways writer reader c.in-Some.place placed there;
      };
      detail = refl;
      missing = c.missing_name.ensures;
      writer_node = c.in_ok-name_place.ensures.node;
      reader_node = c.in_ok-name_place-2.ensures.node;
      writer_at = c.in_ok-name_place.ensures.at ∙ ap (λ (steps : List PathStep). place_text writer steps) c.deref.ensures.value;
      reader_at = c.in_ok-name_place-2.ensures.at ∙ ap (λ (steps : List PathStep). place_text reader steps) c.deref-2.ensures.value;
      written = c.in_ok-name_place.ensures.type_text;
      read = c.in_ok-name_place-2.ensures.type_text;
    }
