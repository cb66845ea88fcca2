-- What is read by the plan is read for the reader.
use Rattle.std.proofs.Common.{◌≡◌, List, ℕ, Bool, Option, Some, None, ap, sym, subst, ◌∙◌, refl, rules}
use Rattle.std.specs.Prelude.{option_map, Result}
use Rattle.std.specs.Option.{option_copied}
use Rattle.std.proofs.lemmas.Option.{none-some, same_Some}
use Rattle.avro_schema.specs.declared.schema.Schema.{Schema}
use Rattle.avro_schema.specs.Fits.{LimitValues}
use Rattle.avro_schema.specs.Node.{Node}
use Rattle.avro_schema.specs.SeenSchema.{schema_nodes}
use Rattle.avro_cursor.specs.Encoding.{plain}
use Rattle.avro_resolve.specs.declared.error.ReadResolveError.{ReadResolveError}
use Rattle.avro_file.specs.DataRead.{resolution}
use Rattle.avro_file.specs.DatumRead.{ReadsDatum}
use Rattle.avro_file.proofs.public.Data.{same_said}
use Rattle.avro_packed.specs.Appended.{AppendsWithin}
use Rattle.avro_container.proofs.copying.datum.pack_datum.Goals as goal

-- the schema of the reader of a plan, and that of its writer
reader_of : (schema : Schema) (reader : Option (List ℕ × Schema)) (plan : Option (Schema × Schema)) → plan ≡ option_map (λ r. (schema, r.1)) reader
    → option_map (λ p. schema_nodes p.1) plan ≡ option_map (λ r. schema_nodes r.1) reader
reader_of schema None plan e = ap (option_map (λ p. schema_nodes p.1)) e
reader_of schema (Some r) plan e = ap (option_map (λ p. schema_nodes p.1)) e

writer_of : (schema : Schema) (reader : Option (List ℕ × Schema)) (p : Schema × Schema) → Some p ≡ option_map (λ r. (schema, r.1)) reader → p.0 ≡ schema
writer_of schema None p e = absurd (none-some p (sym e))
writer_of schema (Some r) p e = ap (λ q. q.0) (same_Some _ _ e)

-- a datum is read, and its plain encoding is packed
abbrev Reads : ℕ → List ℕ → List ℕ → Result (Bool × ℕ) ReadResolveError → Option (List Node) → List Node → LimitValues → List ℕ → Type 0
Reads most before after result reader nodes limits bytes = ReadsDatum {O = Bool} (λ fits u. AppendsWithin most before after (plain u) fits) nodes limits (resolution reader nodes) bytes result

pub returns-in-Some : goal.returns-in-Some
returns-in-Some c = λ is.
    let block = c.args.block.now in
    let most = block.task.now.limits.block in
    let plan = c.in-Some.plan in
    let planned : Some plan ≡ option_map (λ r. (block.header.now.schema, r.1)) (option_copied block.task.now.reader) = sym c.in-Some.is ∙ block.planned in
    let reads = subst (λ reader. Reads most c.args.packed.now.items c.pack_resolved.new.packed.items c.pack_resolved.result reader (schema_nodes plan.0) c.args.limits.now c.args.bytes.now)
    (reader_of _ _ _ planned) (search rules) in
    same_said (Reads most c.args.packed.now.items c.pack_resolved.new.packed.items c.pack_resolved.result (option_map (λ r. schema_nodes r.1) (option_copied block.task.now.reader)))
    _ _ _ _ _ _ (ap schema_nodes (writer_of _ _ _ planned)) is refl reads

pub returns-in-None : goal.returns-in-None
returns-in-None c = λ is.
    let block = c.args.block.now in
    let most = block.task.now.limits.block in
    let reads = subst (λ reader. Reads most c.args.packed.now.items c.pack_read.new.packed.items c.pack_read.result reader (schema_nodes c.schema-schema.result.now) c.args.limits.now c.args.bytes.now)
    (reader_of _ _ _ (sym c.in-None.is ∙ block.planned)) (search rules) in
    same_said (Reads most c.args.packed.now.items c.pack_read.new.packed.items c.pack_read.result (option_map (λ r. schema_nodes r.1) (option_copied block.task.now.reader)))
    _ _ _ _ _ _ (ap schema_nodes c.schema-schema.ensures) is refl reads
