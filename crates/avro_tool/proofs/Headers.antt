-- The members of the properties that are left, after one more was put; that no member is a float; and a header without a schema.
use Rattle.std.proofs.Common.{◌≡◌, ℕ, ◌+◌, ◌<◌, Bool, true, false, List, [], ◌∷◌, ◌++◌, length, get_or, drop, None, codes, String, Vec, Global, Ordering, Less, Equal, Greater, string_bytes, string_cmp, nat_cmp, rules, refl, sym, ap, subst, ◌∙◌, arith, append-nil, length-append}
use Rattle.std.proofs.lemmas.List.{drop_more}
use Rattle.std.specs.BTreeMap.{insert_entry}
use Rattle.std.specs.Cmp.Lexicographic.{slice_cmp}
use Rattle.std.specs.Ordering.{match_ordering}
use Rattle.std.specs.Prelude.{◌||◌, encode_utf8_all}
use Rattle.serde_json.specs.Data.{Data, string, Members, no_members, member, put}
use Rattle.serde_json.specs.View.{view, members_view}
use Rattle.serde_json.specs.Written.{has_float, members_have_float}
use Rattle.serde_json.specs.declared.value.Value.{Value, the_lemmas}
use Rattle.serde_json.proofs.Views.{Entry, members_view-insert_entry}
use Rattle.avro_file.specs.File.{Property, property, magic}
use Rattle.avro_file.specs.FileFault.{FileFault, in_header, no_schema}
use Rattle.avro_file.specs.HeaderFails.{HeaderFails, MetadataStands}
use Rattle.avro_file.specs.HeaderTaken.{TakesMetadata, TakesHeaderFault}
use Rattle.avro_file.specs.Parts.{properties_of}
use Rattle.avro_tool.specs.HeaderText.{put_properties}

pub view-String : (s : String Global) → view (Value.String s) ≡ string (string_bytes s)
view-String s = search (rules, the_lemmas)

pub put_next : (all : List (String Global × Vec ℕ Global)) (i : ℕ) (d : String Global × Vec ℕ Global) (es new : List Entry) (k t : String Global)
    → i < length all → d ≡ get_or all i d → string_bytes k ≡ string_bytes d.0 → string_bytes t ≡ encode_utf8_all d.1.items
    → new ≡ insert_entry string_cmp es k (Value.String t)
    → put_properties (properties_of (drop (i + 1) all)) (members_view new) ≡ put_properties (properties_of (drop i all)) (members_view es)
put_next all i d es new k t within got named shown is =
    let one : members_view new ≡ put (string_bytes k) (view (Value.String t)) (members_view es) = ap members_view is ∙ members_view-insert_entry es k (Value.String t) in
    let key = ap (λ (name : List ℕ). put name (view (Value.String t)) (members_view es)) named in
    let text = ap (λ (tree : Data). put (string_bytes d.0) tree (members_view es)) (view-String t ∙ ap string shown) in
    let here : drop i all ≡ d ∷ drop (i + 1) all = drop_more all i d within ∙ ap (λ (e : String Global × Vec ℕ Global). e ∷ drop (i + 1) all) (sym got) in
    ap (λ (ms : Members). put_properties (properties_of (drop (i + 1) all)) ms) (one ∙ key ∙ text)
    ∙ sym (ap (λ (l : List (String Global × Vec ℕ Global)). put_properties (properties_of l) (members_view es)) here)

or_right : (p q : Bool) → (p || q) ≡ false → q ≡ false
or_right true q h = absurd (cc)
or_right false q h = h

or_with : (p q r : Bool) → (p || q) ≡ false → r ≡ false → (p || r) ≡ false
or_with true q r h m = h
or_with false q r h m = m

placed : (o : Ordering) (k l t : List ℕ) (e : Data) (ms more : Members) → members_have_float (member l e ms) ≡ false → members_have_float more ≡ false
    → members_have_float (match_ordering o (member k (string t) (member l e ms)) (member l (string t) ms) (member l e more)) ≡ false
placed Less k l t e ms more h m = h
placed Equal k l t e ms more h m = or_right (has_float e) (members_have_float ms) h
placed Greater k l t e ms more h m = or_with (has_float e) (members_have_float ms) (members_have_float more) h m

put_text : (k t : List ℕ) (ms : Members) → members_have_float ms ≡ false → members_have_float (put k (string t) ms) ≡ false
put_text k t no_members h = refl
put_text k t (member l e ms) h = placed (slice_cmp nat_cmp k l) k l t e ms (put k (string t) ms) h (put_text k t ms (or_right (has_float e) (members_have_float ms) h))

-- all of the properties are texts
pub all_texts : (ps : List Property) (ms : Members) → members_have_float ms ≡ false → members_have_float (put_properties ps ms) ≡ false
all_texts [] ms h = h
all_texts (p ∷ ps) ms h = all_texts ps (put p.name (string (encode_utf8_all p.content)) ms) (put_text p.name (encode_utf8_all p.content) ms h)

-- metadata without a schema was taken
pub lacks_schema : {I : Type 0} (gives : I → List ℕ → I → Type 0) (ended : I → Type 0) (from to : I) (limit : ℕ) (all : List Property) (f : FileFault)
    → TakesMetadata gives from to limit all → (f ≡ in_header no_schema) × (property (codes "avro.schema") all ≡ None)
    → TakesHeaderFault gives ended from to limit f
lacks_schema gives ended from to limit all f m h =
    let long : length m.bytes ≡ 4 + length (m.metadata ++ m.sync) = ap length m.stands.split ∙ length-append magic (m.metadata ++ m.sync) in
    let parts = length-append m.metadata m.sync in
    let marker = m.marker in
    let within = m.within in record {
      bytes = m.bytes;
      taken = m.taken;
      stands = (
        no_schema,
        h.0,
        HeaderFails.schema_lacks all (record {
          metadata = m.metadata;
          sync = m.sync;
          rest = [];
          stands = subst (λ (rest : List ℕ). MetadataStands all m.bytes m.metadata rest) (sym (append-nil m.sync)) m.stands;
          marker = marker;
          within = omega (arith, long, parts, marker, within);
        }) h.1,
      );
    }
