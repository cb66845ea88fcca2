-- The header of a copy is a header.
use Rattle.std.proofs.Common.{◌≡◌, ℕ, suc, Bool, true, false, ◌&&◌, List, [], ◌∷◌, length, map, Option, Some, None, refl, sym, ap, ◌∙◌, append_assoc, bytes_eq, codes}
use Rattle.std.specs.Prelude.{if◌then◌else◌}
use Rattle.std.specs.List.{list_all}
use Rattle.std.proofs.lemmas.Bool.{and_parts, and_from}
use Rattle.std.proofs.lemmas.Option.{none-some, same_Some}
use Rattle.std.proofs.lemmas.Slice.Eq.{bytes_eq-Decides}
use Rattle.avro_schema.specs.Value.{entries_count, keys_of}
use Rattle.avro_schema.specs.Node.{Node, root_of}
use Rattle.avro_schema.specs.Fits.{fits, entries_fit, are_bytes, is_count, is_text}
use Rattle.avro_schema.specs.Distinct.{are_distinct}
use Rattle.avro_schema_json.specs.DeclaredText.{DeclaresText}
use Rattle.avro_cursor.specs.Encoding.{plain}
use Rattle.avro_file.specs.Copied.{Job, copied_header, copied_property, or_else}
use Rattle.avro_file.specs.File.{Property, HeaderValue, IsHeader, is_plain_codec, magic, metadata_nodes, metadata_value, property, property_entries}
use Rattle.avro_container.specs.CopiedFile.{header_for}
use Rattle.avro_container.proofs.public.Known.{PlainEncodes}

-- a property by the test whether it is the schema's
abbrev placed : Option (List ℕ) → Bool → Property → Property
placed text test p = if test then record p { content = or_else text p.content } else p

placed-name : (text : Option (List ℕ)) (test : Bool) (p : Property) → (placed text test p).name ≡ p.name
placed-name text true p = refl
placed-name text false p = refl

placed-none : (test : Bool) (p : Property) → placed None test p ≡ p
placed-none true p = refl
placed-none false p = refl

-- nothing is put in place of a text
pub copied-none : (ps : List Property) → map (copied_property None) ps ≡ ps
copied-none [] = refl
copied-none (p ∷ ps) = λ i. placed-none (bytes_eq p.name (codes "avro.schema")) p i ∷ copied-none ps i

-- ---- What is looked up

schema_at : (text : Option (List ℕ)) (p : Property) (test : Bool) (old : List ℕ) (rest others : Option (List ℕ)) → bytes_eq p.name (codes "avro.schema") ≡ test
    → (rest ≡ Some old → others ≡ Some (or_else text old)) → (if test then Some p.content else rest) ≡ Some old
    → (if bytes_eq (placed text test p).name (codes "avro.schema") then Some (placed text test p).content else others) ≡ Some (or_else text old)
schema_at text p true old rest others is later e =
    ap (λ (b : Bool). if b then Some (or_else text p.content) else others) is ∙ ap (λ (c : List ℕ). Some (or_else text c)) (same_Some p.content old e)
schema_at text p false old rest others is later e = ap (λ (b : Bool). if b then Some p.content else others) is ∙ later e

copied-schema : (text : Option (List ℕ)) (ps : List Property) (old : List ℕ) → property (codes "avro.schema") ps ≡ Some old
    → property (codes "avro.schema") (map (copied_property text) ps) ≡ Some (or_else text old)
copied-schema text [] old e = absurd (none-some old e)
copied-schema text (p ∷ ps) old e =
    schema_at text p (bytes_eq p.name (codes "avro.schema")) old (property (codes "avro.schema") ps) (property (codes "avro.schema") (map (copied_property text) ps)) refl
    (copied-schema text ps old) e

codec_at : (text : Option (List ℕ)) (p : Property) (test : Bool) (rest others : Option (List ℕ)) → bytes_eq p.name (codes "avro.schema") ≡ test → others ≡ rest
    → (if bytes_eq (placed text test p).name (codes "avro.codec") then Some (placed text test p).content else others)
    ≡ (if bytes_eq p.name (codes "avro.codec") then Some p.content else rest)
codec_at text p true rest others is e =
    let name : p.name ≡ codes "avro.schema" = (bytes_eq-Decides p.name (codes "avro.schema")).0 is in
    let other : bytes_eq p.name (codes "avro.codec") ≡ false = ap (λ (n : List ℕ). bytes_eq n (codes "avro.codec")) name in
    ap (λ (b : Bool). if b then Some (or_else text p.content) else others) other ∙ e ∙ sym (ap (λ (b : Bool). if b then Some p.content else rest) other)
codec_at text p false rest others is e = ap (λ (r : Option (List ℕ)). if bytes_eq p.name (codes "avro.codec") then Some p.content else r) e

copied-codec : (text : Option (List ℕ)) (ps : List Property) → property (codes "avro.codec") (map (copied_property text) ps) ≡ property (codes "avro.codec") ps
copied-codec text [] = refl
copied-codec text (p ∷ ps) =
    codec_at text p (bytes_eq p.name (codes "avro.schema")) (property (codes "avro.codec") ps) (property (codes "avro.codec") (map (copied_property text) ps)) refl
    (copied-codec text ps)

-- ---- The metadata fit

copied-keys : (text : Option (List ℕ)) (ps : List Property) → keys_of (property_entries (map (copied_property text) ps)) ≡ keys_of (property_entries ps)
copied-keys text [] = refl
copied-keys text (p ∷ ps) = λ i. placed-name text (bytes_eq p.name (codes "avro.schema")) p i ∷ copied-keys text ps i

copied-count : (text : Option (List ℕ)) (ps : List Property) → entries_count (property_entries (map (copied_property text) ps)) ≡ entries_count (property_entries ps)
copied-count text [] = refl
copied-count text (p ∷ ps) = ap suc (copied-count text ps)

-- what is put in place of a text that is bytes is bytes
abbrev pub KeepsBytes : Option (List ℕ) → Type 0
KeepsBytes text = (content : List ℕ) → are_bytes content ≡ true → are_bytes (or_else text content) ≡ true

placed-bytes : (text : Option (List ℕ)) → KeepsBytes text → (test : Bool) (p : Property) → are_bytes p.content ≡ true → are_bytes (placed text test p).content ≡ true
placed-bytes text keeps true p h = keeps p.content h
placed-bytes text keeps false p h = h

copied-fit : (text : Option (List ℕ)) → KeepsBytes text → (ps : List Property) → entries_fit metadata_nodes Node.bytes (property_entries ps) ≡ true
    → entries_fit metadata_nodes Node.bytes (property_entries (map (copied_property text) ps)) ≡ true
copied-fit text keeps [] h = refl
copied-fit text keeps (p ∷ ps) h =
    let parts = and_parts (are_bytes p.content) (entries_fit metadata_nodes Node.bytes (property_entries ps)) h in
    and_from (are_bytes (copied_property text p).content) (entries_fit metadata_nodes Node.bytes (property_entries (map (copied_property text) ps)))
    (placed-bytes text keeps (bytes_eq p.name (codes "avro.schema")) p parts.0) (copied-fit text keeps ps parts.1)

-- the count and the keys
abbrev framed : ℕ → List (List ℕ) → Bool
framed count keys = is_count count && list_all is_text keys && are_distinct bytes_eq keys

metadata-fits : (text : Option (List ℕ)) → KeepsBytes text → (ps : List Property) → fits metadata_nodes (root_of metadata_nodes) (metadata_value ps) ≡ true
    → fits metadata_nodes (root_of metadata_nodes) (metadata_value (map (copied_property text) ps)) ≡ true
metadata-fits text keeps ps h =
    let es = property_entries ps in
    let ds = property_entries (map (copied_property text) ps) in
    let all = and_parts (framed (entries_count es) (keys_of es)) (entries_fit metadata_nodes Node.bytes es) h in
    and_from (framed (entries_count ds) (keys_of ds)) (entries_fit metadata_nodes Node.bytes ds)
    ((λ i. framed (copied-count text ps i) (copied-keys text ps i)) ∙ all.0) (copied-fit text keeps ps all.1)

-- ---- The header

pub header-copied : PlainEncodes → (job : Job) (target : List Node) (h : HeaderValue) (bytes : List ℕ) → IsHeader h bytes → KeepsBytes job.text
    → ((text : List ℕ) → DeclaresText text h.nodes → DeclaresText (or_else job.text text) target) → length (or_else job.sync h.sync) ≡ 16
    → IsHeader (header_for job target h) (copied_header job h)
header-copied encodes job target h bytes is keeps declares marked =
    let metadata = metadata_value (map (copied_property job.text) h.properties) in
    record {
      text = or_else job.text is.text;
      stands = copied-schema job.text h.properties is.text is.stands;
      declares = declares is.text is.declares;
      codec = ap is_plain_codec (copied-codec job.text h.properties) ∙ is.codec;
      metadata = plain metadata;
      spelled = encodes metadata_nodes 0 metadata refl (metadata-fits job.text keeps h.properties is.spelled.fitting);
      marker = marked;
      split = sym (append_assoc magic (plain metadata) (or_else job.sync h.sync));
    }
