-- A writer's record without fields: no reader's field has a source.
use Rattle.std.proofs.Common.{◌≡◌, ◌∙◌, ◌++◌, ℕ, suc, cond, List, [], ◌∷◌, Option, Some, None, length, refl, sym, ap, arith}
use Rattle.std.specs.Prelude.{slice_get, unwrap_or}
use Rattle.avro_schema.specs.Node.{FieldNode, field_ids}
use Rattle.avro_schema.specs.Seen.{seen_fields}
use Rattle.avro_schema.specs.declared.schema.Field.{Field}
use Rattle.avro_compare.specs.inside.Listed.{AreListedFor}
use Rattle.avro_compare.specs.inside.Noting.{AreIgnored}
use Rattle.avro_compare.specs.Leads.{field_lead, field_leads}
use Rattle.avro_compare.specs.Pairs.{part_to}
use Rattle.avro_compare.specs.Source.{first_index, is_index, reader_field}
use Rattle.avro_compare.specs.declared.comparison.At.{At}

pub none_seen : (fs : List Field) → length fs ≡ 0 → seen_fields fs ≡ []
none_seen [] e = refl
none_seen (f ∷ fs) e = absurd (omega (arith, e))

pub no_index : (names : List (List ℕ)) → first_index [] names ≡ None
no_index [] = refl
no_index (name ∷ names) = no_index names

no_reader : (rs : List FieldNode) (k : ℕ) → reader_field [] rs k ≡ None
no_reader [] k = refl
no_reader (f ∷ fs) k = ap (λ (o : Option ℕ). cond (is_index o k) (Some f) (reader_field [] fs k)) (no_index (f.name ∷ f.aliases)) ∙ no_reader fs k

pub for_nothing : (ws rs : List FieldNode) (parts : List At) → ws ≡ [] → AreIgnored parts → AreListedFor ws rs parts
for_nothing ws rs parts e none = λ k at got.
    none k at got ∙ sym (ap (part_to (unwrap_or (slice_get (field_ids ws) k) 0)) (ap (λ (fs : List FieldNode). reader_field fs rs k) e ∙ no_reader rs k))

no_leads : (index : ℕ) (rs : List FieldNode) → field_leads index [] rs ≡ []
no_leads index [] = refl
no_leads index (f ∷ fs) =
    ap (λ (o : Option ℕ). field_lead index [] f o ++ field_leads (suc index) [] fs) (no_index (f.name ∷ f.aliases)) ∙ no_leads (suc index) fs

pub none_led : (ws rs : List FieldNode) → ws ≡ [] → field_leads 0 ws rs ≡ []
none_led ws rs e = ap (λ (fs : List FieldNode). field_leads 0 fs rs) e ∙ no_leads 0 rs
