-- Bytes are one file at most.
use Rattle.std.proofs.Common.{◌≡◌, ℕ, ◌+◌, pos, true, List, [], ◌∷◌, ◌++◌, length, refl, sym, ap, subst, ◌∙◌, arith, append_assoc, length-append, codes}
use Rattle.std.specs.List.{concat}
use Rattle.std.proofs.lemmas.Bool.{and_parts}
use Rattle.std.proofs.lemmas.List.{append_cancel_left}
use Rattle.std.proofs.lemmas.Option.{same_Some}
use Rattle.serde_json.specs.Data.{Data}
use Rattle.avro_zigzag.proofs.public.Spelling.{are_groups-some, one_spelling_lem}
use Rattle.avro_schema.specs.Value.{Value, Values, Entries, no_values, value, values_count}
use Rattle.avro_schema.specs.Node.{Node, root_of}
use Rattle.avro_schema.specs.Fits.{fits, each_fits}
use Rattle.avro_schema_json.specs.DeclaredSchema.{DeclaresSchema}
use Rattle.avro_schema_json.specs.DeclaredText.{DeclaresText}
use Rattle.avro_cursor.specs.Encoding.{EachSpelled}
use Rattle.avro_cursor.proofs.public.Fronts.{same_behind, same_from_pos, same_front}
use Rattle.avro_file.specs.File.{Property, HeaderValue, IsHeader, IsBlock, AreBlocks, IsFile, magic, metadata_nodes, metadata_value, property, property_entries}
use Rattle.avro_file.proofs.public.Known.{OneSchema, Prefix}

-- ---- The header

-- a text declares one schema at most
one_text : OneSchema → (text : List ℕ) (a b : List Node) → DeclaresText text a → DeclaresText text b → a ≡ b
one_text one text a b g h =
    let same : g.0 ≡ h.0 = same_Some g.0 h.0 (sym g.1.1 ∙ h.1.1) in
    one h.0 a b (subst (λ (tree : Data). DeclaresSchema tree a) same g.2) h.2

same_map : (es fs : Entries) → Value.map_of es ≡ Value.map_of fs → es ≡ fs
same_map es fs e = cc

same_properties : (ps qs : List Property) → property_entries ps ≡ property_entries qs → ps ≡ qs
same_properties [] [] e = refl
same_properties [] (q ∷ qs) e = absurd cc
same_properties (p ∷ ps) [] e = absurd cc
same_properties (p ∷ ps) (q ∷ qs) e =
    let name : p.name ≡ q.name = cc in
    let content : p.content ≡ q.content = cc in
    let tail : property_entries ps ≡ property_entries qs = cc in
    let rest = same_properties ps qs tail in
    λ i. record { name = name i; content = content i } ∷ rest i

header_spread : (bytes metadata sync x : List ℕ) → bytes ≡ magic ++ metadata ++ sync → bytes ++ x ≡ magic ++ (metadata ++ (sync ++ x))
header_spread bytes metadata sync x e =
    ap (λ (b : List ℕ). b ++ x) e ∙ append_assoc (magic ++ metadata) sync x ∙ append_assoc magic metadata (sync ++ x)

pub header_told : Prefix → OneSchema → (h k : HeaderValue) (a b x y : List ℕ) → IsHeader h a → IsHeader k b → a ++ x ≡ b ++ y → (h ≡ k) × (a ≡ b) × (x ≡ y)
header_told prefix one h k a b x y s t e =
    let joined : magic ++ (s.metadata ++ (h.sync ++ x)) ≡ magic ++ (t.metadata ++ (k.sync ++ y)) =
    sym (header_spread a s.metadata h.sync x s.split) ∙ e ∙ header_spread b t.metadata k.sync y t.split in
    let behind = append_cancel_left magic (s.metadata ++ (h.sync ++ x)) (t.metadata ++ (k.sync ++ y)) joined in
    let told = prefix metadata_nodes (root_of metadata_nodes) (metadata_value h.properties) (metadata_value k.properties) s.metadata t.metadata (h.sync ++ x) (k.sync ++ y)
    s.spelled t.spelled behind in
    let after = same_behind s.metadata t.metadata (h.sync ++ x) (k.sync ++ y) told.0 behind in
    let marks = same_front h.sync k.sync x y (s.marker ∙ sym t.marker) after in
    let properties = same_properties h.properties k.properties (same_map (property_entries h.properties) (property_entries k.properties) told.1) in
    let text : s.text ≡ t.text = same_Some s.text t.text (sym s.stands ∙ ap (property (codes "avro.schema")) properties ∙ t.stands) in
    let nodes = one_text one t.text h.nodes k.nodes (subst (λ (b : List ℕ). DeclaresText b h.nodes) text s.declares) t.declares in (
      λ i. record { nodes = nodes i; properties = properties i; sync = marks.0 i },
      s.split ∙ (λ i. magic ++ told.0 i ++ marks.0 i) ∙ sym t.split,
      marks.1,
    )

-- ---- The blocks

-- the bytes of data tell the data, of which there are as many
same_values : Prefix → (nodes : List Node) (vs ws : Values) (items others : List (List ℕ)) → values_count vs ≡ values_count ws
    → each_fits nodes (root_of nodes) vs ≡ true → each_fits nodes (root_of nodes) ws ≡ true → EachSpelled vs items → EachSpelled ws others
    → concat items ≡ concat others → vs ≡ ws
same_values prefix nodes no_values no_values items others n f g s t e = refl
same_values prefix nodes no_values (value w ws) items others n f g s t e = absurd (omega arith)
same_values prefix nodes (value v vs) no_values items others n f g s t e = absurd (omega arith)
same_values prefix nodes (value v vs) (value w ws) items others n f g s t e =
    let fit = and_parts (fits nodes (root_of nodes) v) (each_fits nodes (root_of nodes) vs) f in
    let fit' = and_parts (fits nodes (root_of nodes) w) (each_fits nodes (root_of nodes) ws) g in
    let joined : s.0 ++ concat s.1 ≡ t.0 ++ concat t.1 = sym (ap concat s.4) ∙ e ∙ ap concat t.4 in
    let told = prefix nodes (root_of nodes) v w s.0 t.0 (concat s.1) (concat t.1) (record { fitting = fit.0; spelled = s.2 }) (record { fitting = fit'.0; spelled = t.2 }) joined in
    let counts : values_count vs ≡ values_count ws = omega arith in
    let rest = same_values prefix nodes vs ws s.1 t.1 counts fit.1 fit'.1 s.3 t.3 (same_behind s.0 t.0 (concat s.1) (concat t.1) told.0 joined) in
    λ i. value (told.1 i) (rest i)

pub block_spread : (bytes count size body sync x : List ℕ) → bytes ≡ count ++ (size ++ (body ++ sync)) → bytes ++ x ≡ count ++ (size ++ (body ++ (sync ++ x)))
block_spread bytes count size body sync x e =
    ap (λ (b : List ℕ). b ++ x) e ∙ append_assoc count (size ++ (body ++ sync)) x
    ∙ ap (λ (b : List ℕ). count ++ b) (append_assoc size (body ++ sync) x ∙ ap (λ (b : List ℕ). size ++ b) (append_assoc body sync x))

pub block_told : Prefix → (h : HeaderValue) (vs ws : Values) (a b x y : List ℕ) → IsBlock h vs a → IsBlock h ws b → a ++ x ≡ b ++ y → (vs ≡ ws) × (x ≡ y)
block_told prefix h vs ws a b x y s t e =
    let body = concat s.items in
    let other = concat t.items in
    let joined : s.count ++ (s.size ++ (body ++ (h.sync ++ x))) ≡ t.count ++ (t.size ++ (other ++ (h.sync ++ y))) =
    sym (block_spread a s.count s.size body h.sync x s.split) ∙ e ∙ block_spread b t.count t.size other h.sync y t.split in
    let counts = one_spelling_lem (pos (values_count vs)) (pos (values_count ws)) s.count t.count (s.size ++ (body ++ (h.sync ++ x))) (t.size ++ (other ++ (h.sync ++ y)))
    s.counted.1 t.counted.1 joined in
    let sized = same_behind s.count t.count (s.size ++ (body ++ (h.sync ++ x))) (t.size ++ (other ++ (h.sync ++ y))) counts.0 joined in
    let sizes = one_spelling_lem (pos (length body)) (pos (length other)) s.size t.size (body ++ (h.sync ++ x)) (other ++ (h.sync ++ y)) s.sized.1 t.sized.1 sized in
    let bodied = same_behind s.size t.size (body ++ (h.sync ++ x)) (other ++ (h.sync ++ y)) sizes.0 sized in
    let bodies = same_front body other (h.sync ++ x) (h.sync ++ y) (same_from_pos (length body) (length other) sizes.1) bodied in (
      same_values prefix h.nodes vs ws s.items t.items (same_from_pos (values_count vs) (values_count ws) counts.1) s.fitting t.fitting s.spelled t.spelled bodies.0,
      append_cancel_left h.sync x y bodies.1,
    )

-- a block has bytes
pub block_some : (h : HeaderValue) (vs : Values) (a x : List ℕ) → IsBlock h vs a → a ++ x ≡ [] → ⊥
block_some h vs a x s e =
    let some = are_groups-some s.count s.counted.1.groups in
    let behind = s.size ++ (concat s.items ++ h.sync) in
    let none : length (a ++ x) ≡ 0 = ap length e in
    let sum : length (a ++ x) ≡ length a + length x = length-append a x in
    let front : length a ≡ length s.count + length behind = ap length s.split ∙ length-append s.count behind in
    omega (arith, some, none, sum, front)

same_blocks : Prefix → (h : HeaderValue) (blocks others : List Values) (bytes : List ℕ) → AreBlocks h blocks bytes → AreBlocks h others bytes → blocks ≡ others
same_blocks prefix h [] [] bytes s t = refl
same_blocks prefix h [] (c ∷ cs) bytes s (first, rest, is, more, e) = absurd (block_some h c first rest is (sym e ∙ s))
same_blocks prefix h (c ∷ cs) [] bytes (first, rest, is, more, e) t = absurd (block_some h c first rest is (sym e ∙ t))
same_blocks prefix h (b ∷ bs) (c ∷ cs) bytes (first, x, s, ss, e) (other, y, t, ts, f) =
    let told = block_told prefix h b c first other x y s t (sym e ∙ f) in
    let rest = same_blocks prefix h bs cs y (subst (AreBlocks h bs) told.1 ss) ts in
    λ i. told.0 i ∷ rest i

-- ---- The file

pub one_header_lem : Prefix → OneSchema → (h k : HeaderValue) (a b x y : List ℕ) → IsHeader h a → IsHeader k b → a ++ x ≡ b ++ y → (h ≡ k) × (a ≡ b)
one_header_lem prefix one h k a b x y s t e = let told = header_told prefix one h k a b x y s t e in (told.0, told.1)

pub one_file_lem : Prefix → OneSchema → (h k : HeaderValue) (blocks others : List Values) (bytes : List ℕ) → IsFile h blocks bytes → IsFile k others bytes
    → (h ≡ k) × (blocks ≡ others)
one_file_lem prefix one h k blocks others bytes s t =
    let told = header_told prefix one h k s.header t.header s.rest t.rest s.is_header t.is_header (sym s.split ∙ t.split) in
    let mine = subst (λ (g : HeaderValue). AreBlocks g blocks t.rest) told.0 (subst (AreBlocks h blocks) told.2 s.are_blocks) in
    (told.0, same_blocks prefix k blocks others t.rest mine t.are_blocks)
