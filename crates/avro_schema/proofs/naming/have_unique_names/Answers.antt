use Rattle.std.proofs.Common.{sym}
use Rattle.avro_name.specs.Name.{same_name}
use Rattle.avro_name.proofs.public.Names.{is_eq-names}
use Rattle.avro_schema.proofs.Unique.{are_distinct-map}
use Rattle.avro_schema.proofs.naming.have_unique_names.Goals as goal

pub returns : goal.returns
returns c =
    let names = c.in_ok-names_of_types in
    rw (← names.ensures, sym (are_distinct-map (λ n. n.now) _ same_name (λ x y. is_eq-names x.now y.now) names.field-0.items)) c.are_unique.ensures
