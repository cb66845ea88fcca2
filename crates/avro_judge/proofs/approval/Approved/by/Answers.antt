use Rattle.std.proofs.Common.{◌≡◌, sym, subst}
use Rattle.std.specs.Option.{IfSome}
use Rattle.avro_schema.specs.SeenSchema.{schema_nodes}
use Rattle.avro_schema.specs.declared.schema.Schema.{Schema}
use Rattle.avro_certificate.specs.Compatible.{AreCompatible}
use Rattle.avro_judge.specs.inside.Judged.{IsCertificateOf}
use Rattle.avro_judge.proofs.approval.Approved.by.Goals as goal

pub invariant_of-result : goal.invariant_of-result
invariant_of-result c =
    let these : c.of.result ≡ (c.args.writer.now, c.args.reader.now) = c.of.ensures in (
      subst (λ (p : Schema × Schema). AreCompatible (schema_nodes p.0) (schema_nodes p.1)) (sym these) c.requires.compatible,
      these,
      subst (λ (p : Schema × Schema). IfSome c.args.certificate (IsCertificateOf (schema_nodes p.0) (schema_nodes p.1))) (sym these) c.requires.certified,
    )
