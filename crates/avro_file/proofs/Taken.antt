-- Names and properties that are taken, and what stops them.
use Rattle.std.proofs.Common.{◌≡◌, ℕ, ◌+◌, ◌-◌, ◌^◌, ◌<◌, ◌≤◌, Bool, true, false, cond, ◌||◌, List, [], ◌∷◌, ◌++◌, length, take, drop, refl, sym, ap, subst, ◌∙◌, arith, append_assoc, append-nil, length-append, length-take-le, bytes_eq, get_or}
use Rattle.std.specs.Prelude.{String}
use Rattle.std.specs.declared.alloc.Global.{Global}
use Rattle.std.specs.BTreeSet.{BTreeSet, contains_text}
use Rattle.std.specs.List.{list_any}
use Rattle.std.specs.Str.{is_utf8}
use Rattle.std.specs.Cmp.Lexicographic.{nat_list_eq_equiv}
use Rattle.std.proofs.lemmas.Bool.{and_parts}
use Rattle.std.proofs.lemmas.List.Folds.{list_any-append}
use Rattle.std.proofs.lemmas.List.{length-drop, take-append-drop, drop-drop}
use Rattle.avro_schema.specs.Node.{Node}
use Rattle.avro_schema.specs.Fits.{is_count}
use Rattle.avro_schema.specs.Distinct.{are_distinct}
use Rattle.avro_schema.proofs.public.FitsParts.{is_count-below}
use Rattle.avro_cursor.specs.Encoding.{SpellsBytes}
use Rattle.avro_cursor.specs.Fault.{ReadFault, invalid_text, duplicate_key}
use Rattle.avro_cursor.specs.Breaks.{Left, ContentBreaks, KeyBreaks, EntryBreaks, BreaksWithin}
use Rattle.avro_cursor.proofs.public.Ranges.{is_count-from_below, bytes-below}
use Rattle.avro_file.specs.File.{Property, metadata_nodes}
use Rattle.avro_file.specs.FileFault.{FileFault, in_header, invalid_metadata}
use Rattle.avro_file.specs.Filled.{GrowsBy}
use Rattle.avro_file.specs.HeaderFails.{ContentWants, PropertyWants}
use Rattle.avro_file.specs.inside.HeaderParts.{Stretch, ContentFrom, AreNames, NameStands, names_of, left_after, PropertyBreaks, RunStops, PartStops, TakesName, TakesProperty, TakesProperties}
use Rattle.avro_file.proofs.Behind.{stops-whole, stops-as}
use Rattle.avro_file.proofs.PropertyRuns.{stretch_none, stretch_join, stretch_grown, names-append, run_none, run_push}

-- the content between two offsets, and the stretch of it with its length
pub content_stretch : (at start end : ℕ) (bytes : List ℕ) → ContentFrom at start end bytes
    → Stretch at (take (start - at) (drop at bytes) ++ take (end - start) (drop start bytes)) end bytes
content_stretch at start end bytes c =
    let number = take (start - at) (drop at bytes) in
    let content = take (end - start) (drop start bytes) in
    let long : length number ≡ start - at = length-take-le (start - at) (drop at bytes) (omega (arith, length-drop at bytes, c.begins, c.ordered, c.inside)) in
    let size : length content ≡ end - start = length-take-le (end - start) (drop start bytes) (omega (arith, length-drop start bytes, c.ordered, c.inside)) in
    let sum : start + (end - start) ≡ end = omega (arith, c.ordered) in
    let behind : drop start bytes ≡ content ++ drop end bytes =
    sym (take-append-drop (end - start) (drop start bytes)) ∙ ap (λ (r : List ℕ). content ++ r) (drop-drop (end - start) start bytes ∙ ap (λ (n : ℕ). drop n bytes) sum) in
    record {
      offset = omega (arith, long, size, c.begins, c.ordered, length-append number content);
      split = c.starts.split ∙ ap (λ (r : List ℕ). number ++ r) behind ∙ sym (append_assoc number content (drop end bytes));
      inside = c.inside;
    }

pub content_spelled : (at start end : ℕ) (bytes : List ℕ) → ContentFrom at start end bytes
    → SpellsBytes (take (end - start) (drop start bytes)) (take (start - at) (drop at bytes) ++ take (end - start) (drop start bytes))
content_spelled at start end bytes c = grind (arith, length-drop, length-take-le)

content_small : (at start end : ℕ) (bytes : List ℕ) → ContentFrom at start end bytes → length bytes < 2 ^ 62 → length (take (end - start) (drop start bytes)) < 2 ^ 63
content_small at start end bytes c small = grind (arith, length-drop, length-take-le)

-- ---- Names

names-added : (before after : BTreeSet (String Global)) (name : List ℕ) → ((word : List ℕ) → contains_text after word ≡ cond (bytes_eq name word) true (contains_text before word))
    → (names : List (List ℕ)) → AreNames before names → AreNames after (names ++ name ∷ [])
names-added before after name added names are word =
    added word ∙ by_cases (bytes_eq name word) (bytes_eq word name) (contains_text before word) (list_any (bytes_eq word) names) (nat_list_eq_equiv.symm word name) (are word)
    ∙ sym (list_any-append (bytes_eq word) names (name ∷ []))
  where
    by_cases : (here flipped old is : Bool) → flipped ≡ here → old ≡ is → cond here true old ≡ (is || (flipped || false))
    by_cases here flipped old is e h = grind arith

pub takes_name : (before after : BTreeSet (String Global)) (at start end : ℕ) (bytes name : List ℕ) → ContentFrom at start end bytes → length bytes < 2 ^ 62
    → name ≡ take (end - start) (drop start bytes) → is_utf8 name ≡ true → contains_text before name ≡ false
    → ((word : List ℕ) → contains_text after word ≡ cond (bytes_eq name word) true (contains_text before word))
    → TakesName before after at end bytes name
takes_name before after at start end bytes name c small is valid none added = record {
  front = take (start - at) (drop at bytes) ++ take (end - start) (drop start bytes);
  stretch = content_stretch at start end bytes c;
  stands = record {
    spelled = subst (λ (n : List ℕ). SpellsBytes n (take (start - at) (drop at bytes) ++ take (end - start) (drop start bytes))) (sym is) (content_spelled at start end bytes c);
    text = rw (is_count-from_below (length name) (subst (λ (n : List ℕ). length n < 2 ^ 63) (sym is) (content_small at start end bytes c small)), valid) refl;
  };
  fresh = λ names are. sym (are name) ∙ none;
  added = names-added before after name added;
}

-- a name that is not text, and one that stands before
pub no_text_stops : (limit at start end : ℕ) (ended : Type 0) (bytes content : List ℕ) (keys : List (List ℕ)) (f : FileFault) → ContentFrom at start end bytes → length bytes < 2 ^ 62
    → content ≡ take (end - start) (drop start bytes) → is_utf8 content ≡ false → f ≡ in_header (invalid_metadata (invalid_text start))
    → PartStops limit at ended bytes (KeyBreaks keys (2 ^ 63)) ContentWants f
no_text_stops limit at start end ended bytes content keys f c small is invalid told =
    let number = take (start - at) (drop at bytes) in
    let long : length number ≡ start - at = length-take-le (start - at) (drop at bytes) (omega (arith, length-drop at bytes, c.begins, c.ordered, c.inside)) in
    let offset : start ≡ at + length number = omega (arith, long, c.begins) in
    PartStops.broken (invalid_text (length number))
    (KeyBreaks.string_breaks (ContentBreaks.invalid (end - start) number (drop start bytes) c.starts (omega (arith, c.inside, small)) (omega (arith, length-drop start bytes, c.ordered, c.inside))
    (subst (λ (t : List ℕ). is_utf8 t ≡ false) is invalid)))
    (λ p q. cc) (told ∙ ap (λ (n : ℕ). in_header (invalid_metadata (invalid_text n))) offset)

pub twice_stops : (limit at start end : ℕ) (ended : Type 0) (bytes content : List ℕ) (names : BTreeSet (String Global)) (keys : List (List ℕ)) (f : FileFault)
    → ContentFrom at start end bytes → length bytes < 2 ^ 62 → content ≡ take (end - start) (drop start bytes) → is_utf8 content ≡ true → contains_text names content ≡ true
    → AreNames names keys → f ≡ in_header (invalid_metadata (duplicate_key at)) → PartStops limit at ended bytes (KeyBreaks keys (2 ^ 63)) ContentWants f
twice_stops limit at start end ended bytes content names keys f c small is valid has are told =
    let front = take (start - at) (drop at bytes) ++ take (end - start) (drop start bytes) in
    let short : length content < 2 ^ 63 = subst (λ (n : List ℕ). length n < 2 ^ 63) (sym is) (content_small at start end bytes c small) in
    PartStops.broken (duplicate_key 0)
    (KeyBreaks.twice content front (drop end bytes)
    (subst (λ (n : List ℕ). SpellsBytes n front) (sym is) (content_spelled at start end bytes c))
    (rw (is_count-from_below (length content) short, valid) refl) (omega (arith, short)) (content_stretch at start end bytes c).split (sym (are content) ∙ has))
    (λ p q. cc) (told ∙ ap (λ (n : ℕ). in_header (invalid_metadata (duplicate_key n))) (omega arith))

-- ---- One property

node_breaks : (count : ℕ) (bytes : List ℕ) (f : ReadFault) → 0 < count → ContentBreaks (λ content. true) (2 ^ 63) bytes f
    → BreaksWithin metadata_nodes 1 count (2 ^ 63) Node.bytes bytes f
node_breaks count bytes f some b = grind arith

pub name_stops : (limit at : ℕ) (ended : Type 0) (bytes : List ℕ) (left : Left) (f : FileFault)
    → PartStops limit at ended bytes (KeyBreaks left.keys (2 ^ 63)) ContentWants f → PartStops limit at ended bytes (PropertyBreaks left) (PropertyWants left) f
name_stops limit at ended bytes left f stops =
    stops-as limit at ended bytes (KeyBreaks left.keys (2 ^ 63)) ContentWants (PropertyBreaks left) (PropertyWants left) f
    (λ g b. EntryBreaks.key_breaks b) (λ g w. PropertyWants.in_name w) stops

pub value_stops : (limit at middle : ℕ) (ended : Type 0) (bytes name front : List ℕ) (left : Left) (f : FileFault) → Stretch at front middle bytes → NameStands name front
    → list_any (bytes_eq name) left.keys ≡ false → 0 < left.nodes
    → PartStops limit middle ended bytes (ContentBreaks (λ content. true) (2 ^ 63)) ContentWants f → PartStops limit at ended bytes (PropertyBreaks left) (PropertyWants left) f
value_stops limit at middle ended bytes name front left f stretch stands new some stops =
    let short : length name < 2 ^ 63 = is_count-below (length name) (and_parts (is_count (length name)) _ stands.text).0 in
    stops-whole limit at middle ended bytes front (ContentBreaks (λ content. true) (2 ^ 63)) ContentWants (PropertyBreaks left) (PropertyWants left) f stretch.offset stretch.split
    (λ rest g b. EntryBreaks.value_breaks name front stands.spelled stands.text (omega (arith, short)) new
    (record { rest = rest; fault = g; split = refl; breaks = node_breaks left.nodes rest g some b; moved = refl }))
    (λ rest g w. PropertyWants.in_value name front stands.spelled stands.text new (record { rest = rest; fault = g; split = refl; breaks = w; moved = refl }))
    stops

-- ---- Properties

pub properties_none : (left : Left) (names : BTreeSet (String Global)) (at : ℕ) (bytes : List ℕ) (ps : List Property) → at ≤ length bytes → are_distinct bytes_eq left.keys ≡ true
    → AreNames names left.keys → TakesProperties left names 0 at at bytes ps ps
properties_none left names at bytes ps inside distinct are = record {
  properties = [];
  front = [];
  stretch = stretch_none at bytes inside;
  counted = refl;
  run = run_none left distinct;
  pushed = sym (append-nil ps);
  named = subst (AreNames names) (sym (append-nil left.keys)) are;
}

pub properties_push : {I : Type 0} (gives : I → List ℕ → I → Type 0) (s t : I) (old new : List ℕ) (left : Left) (names then_names : BTreeSet (String Global)) (done at middle end : ℕ)
    (first before after : List Property) → GrowsBy gives s t old new → TakesProperties left names done at middle old first before
    → TakesProperty names then_names middle end new before after → TakesProperties left then_names (done + 1) at end new first after
properties_push gives s t old new left names then_names done at middle end first before after grown r p =
    let ps = r.properties in
    let q = p.property in
    let keys : (left.keys ++ names_of ps) ++ q.name ∷ [] ≡ left.keys ++ names_of (ps ++ q ∷ []) =
    append_assoc left.keys (names_of ps) (q.name ∷ []) ∙ ap (λ (ns : List (List ℕ)). left.keys ++ ns) (sym (names-append ps (q ∷ []))) in
    record {
      properties = ps ++ q ∷ [];
      front = r.front ++ p.front;
      stretch = stretch_join at middle end r.front p.front new (stretch_grown gives s t old new at middle r.front grown r.stretch) p.stretch;
      counted = length-append ps (q ∷ []) ∙ ap (λ (n : ℕ). n + 1) r.counted;
      run = run_push left ps q r.front p.front r.run p.is_property (p.fresh (left.keys ++ names_of ps) r.named);
      pushed = p.pushed ∙ ap (λ (qs : List Property). qs ++ q ∷ []) r.pushed ∙ append_assoc first ps (q ∷ []);
      named = subst (AreNames then_names) keys (p.added (left.keys ++ names_of ps) r.named);
    }

-- the next of them is stopped
pub next_stops : {I : Type 0} (gives : I → List ℕ → I → Type 0) (s t : I) (old new : List ℕ) (limit : ℕ) (ended : Type 0) (left : Left) (names : BTreeSet (String Global))
    (count done at middle : ℕ) (first before : List Property) (f : FileFault) → GrowsBy gives s t old new → (r : TakesProperties left names done at middle old first before) → done < count
    → PartStops limit middle ended new (PropertyBreaks (left_after left r.properties)) (PropertyWants (left_after left r.properties)) f
    → PartStops limit at ended new (RunStops PropertyBreaks left count) (RunStops PropertyWants left count) f
next_stops gives s t old new limit ended left names count done at middle first before f grown r few stops =
    let stretch = stretch_grown gives s t old new at middle r.front grown r.stretch in
    let fewer : length r.properties < count = omega (arith, r.counted, few) in
    stops-whole limit at middle ended new r.front (PropertyBreaks (left_after left r.properties)) (PropertyWants (left_after left r.properties))
    (RunStops PropertyBreaks left count) (RunStops PropertyWants left count) f stretch.offset stretch.split
    (λ rest g b. record { properties = r.properties; front = r.front; few = fewer; run = r.run; next = record { rest = rest; fault = g; split = refl; breaks = b; moved = refl } })
    (λ rest g b. record { properties = r.properties; front = r.front; few = fewer; run = r.run; next = record { rest = rest; fault = g; split = refl; breaks = b; moved = refl } })
    stops

-- a name as the first part of a property
pub content_key_stops : (limit at : ℕ) (ended : Type 0) (bytes : List ℕ) (keys : List (List ℕ)) (f : FileFault)
    → PartStops limit at ended bytes (ContentBreaks is_utf8 (2 ^ 63)) ContentWants f → PartStops limit at ended bytes (KeyBreaks keys (2 ^ 63)) ContentWants f
content_key_stops limit at ended bytes keys f stops =
    stops-as limit at ended bytes (ContentBreaks is_utf8 (2 ^ 63)) ContentWants (KeyBreaks keys (2 ^ 63)) ContentWants f (λ g b. KeyBreaks.string_breaks b) (λ g w. w) stops

-- a property after its name
pub takes_property : {I : Type 0} (gives : I → List ℕ → I → Type 0) (s t : I) (mid new : List ℕ) (names then_names : BTreeSet (String Global)) (at middle start end : ℕ)
    (name content : List ℕ) (before after : List Property) → GrowsBy gives s t mid new → TakesName names then_names at middle mid name → ContentFrom middle start end new
    → length new < 2 ^ 62 → content ≡ take (end - start) (drop start new) → ((i : ℕ) → get_or content i 0 < 2 ^ 8)
    → after ≡ before ++ record { name = name; content = content } ∷ [] → TakesProperty names then_names at end new before after
takes_property gives s t mid new names then_names at middle start end name content before after grown n c small is ranges pushed =
    let back = take (start - middle) (drop middle new) ++ take (end - start) (drop start new) in
    let short : length content < 2 ^ 63 = subst (λ (b : List ℕ). length b < 2 ^ 63) (sym is) (content_small middle start end new c small) in
    record {
      property = record { name = name; content = content };
      front = n.front ++ back;
      stretch = stretch_join at middle end n.front back new (stretch_grown gives s t mid new at middle n.front grown n.stretch) (content_stretch middle start end new c);
      is_property = record {
        name = n.front;
        content = back;
        named = n.stands;
        spelled = subst (λ (b : List ℕ). SpellsBytes b back) (sym is) (content_spelled middle start end new c);
        are_bytes = rw (is_count-from_below (length content) short, bytes-below content ranges) refl;
        split = refl;
      };
      pushed = pushed;
      fresh = n.fresh;
      added = n.added;
    }
