-- Kinds are the same just where their order does not tell them apart.
use Rattle.std.proofs.Common.{◌≡◌, refl}
use Rattle.std.specs.Ordering.{is_eq}
use Rattle.avro_name.proofs.public.Names.{is_eq-names}
use Rattle.avro_schema.specs.WellFormed.{same_kind}
use Rattle.avro_schema.specs.SeenKind.{kind_of}
use Rattle.avro_schema.specs.declared.branches.Kind.{Kind}
use Rattle.avro_schema.specs.contracts.branches.KindOrd.TheImpl.{cmp-value}

pub kind_eq : (a b : Kind) → is_eq (cmp-value.it a b) ≡ same_kind (kind_of a) (kind_of b)
kind_eq Kind.Null Kind.Null = refl
kind_eq Kind.Null _ = refl
kind_eq Kind.Boolean Kind.Boolean = refl
kind_eq Kind.Boolean _ = refl
kind_eq Kind.Int Kind.Int = refl
kind_eq Kind.Int _ = refl
kind_eq Kind.Long Kind.Long = refl
kind_eq Kind.Long _ = refl
kind_eq Kind.Bytes Kind.Bytes = refl
kind_eq Kind.Bytes _ = refl
kind_eq Kind.Str Kind.Str = refl
kind_eq Kind.Str _ = refl
kind_eq Kind.Array Kind.Array = refl
kind_eq Kind.Array _ = refl
kind_eq Kind.Map Kind.Map = refl
kind_eq Kind.Map _ = refl
kind_eq (Kind.Named a) (Kind.Named b) = is_eq-names a.now b.now
kind_eq (Kind.Named a) _ = refl
