-- Properties of a header's metadata, one after another.
use Rattle.std.proofs.Common.{◌≡◌, ℕ, suc, ◌+◌, ◌-◌, ◌^◌, ◌≤◌, true, false, List, [], ◌∷◌, ◌++◌, length, drop, refl, sym, ap, subst, ◌∙◌, arith, append_assoc, append-nil, length-append, bytes_eq}
use Rattle.std.specs.List.{concat, list_any, list_all}
use Rattle.std.proofs.lemmas.Bool.{and_parts, and_from}
use Rattle.std.proofs.lemmas.List.Folds.{concat-append}
use Rattle.avro_schema.specs.Value.{Value, entries_size, entries_depth, entries_longest_blob, entries_count, keys_of}
use Rattle.avro_schema.specs.Node.{Node}
use Rattle.avro_schema.specs.Fits.{fits, entries_fit, is_count, is_text}
use Rattle.avro_schema.specs.Distinct.{are_distinct}
use Rattle.avro_schema.proofs.public.FitsParts.{is_count-below}
use Rattle.avro_cursor.specs.Encoding.{EntriesSpelled}
use Rattle.avro_cursor.specs.Breaks.{Left, EntriesAreWhole}
use Rattle.avro_binary.proofs.public.Distinct.{distinct-push}
use Rattle.avro_file.specs.File.{Property, property_entries, metadata_nodes}
use Rattle.avro_file.specs.Filled.{GrowsBy}
use Rattle.avro_file.specs.HeaderFails.{entry_limits}
use Rattle.avro_file.specs.inside.HeaderParts.{Stretch, names_of, IsProperty, EachProperty, PropertiesRun, left_after}
use Rattle.avro_file.proofs.Cut.{grown-behind}

-- ---- Stretches

pub stretch_none : (at : ℕ) (bytes : List ℕ) → at ≤ length bytes → Stretch at [] at bytes
stretch_none at bytes inside = record { offset = omega arith; split = refl; inside = inside }

pub stretch_join : (a b c : ℕ) (front back bytes : List ℕ) → Stretch a front b bytes → Stretch b back c bytes → Stretch a (front ++ back) c bytes
stretch_join a b c front back bytes p q = grind (arith, append_assoc, length-append)

pub stretch_grown : {I : Type 0} (gives : I → List ℕ → I → Type 0) (s t : I) (old new : List ℕ) (a b : ℕ) (front : List ℕ) → GrowsBy gives s t old new
    → Stretch a front b old → Stretch a front b new
stretch_grown gives s t old new a b front p q =
    let long : length new ≡ length old + length p.bytes = ap length p.grown ∙ length-append old p.bytes in
    record {
      offset = q.offset;
      split = grown-behind gives s t old new a p (omega (arith, q.offset, q.inside)) ∙ ap (λ (r : List ℕ). r ++ p.bytes) q.split
          ∙ append_assoc front (drop b old) p.bytes ∙ ap (λ (r : List ℕ). front ++ r) (sym (grown-behind gives s t old new b p q.inside));
      inside = omega (arith, long, q.inside);
    }

-- ---- Names

pub names-append : (ps qs : List Property) → names_of (ps ++ qs) ≡ names_of ps ++ names_of qs
names-append [] qs = refl
names-append (p ∷ ps) qs = ap (λ (ns : List (List ℕ)). p.name ∷ ns) (names-append ps qs)

-- ---- Properties

pub each-append : (ps qs : List Property) (items more : List (List ℕ)) → EachProperty ps items → EachProperty qs more → EachProperty (ps ++ qs) (items ++ more)
each-append [] qs items more s t = subst (λ (is : List (List ℕ)). EachProperty qs (is ++ more)) (sym s) t
each-append (p ∷ ps) qs items more s t = (s.0, s.1 ++ more, s.2, each-append ps qs s.1 more s.3 t, ap (λ (is : List (List ℕ)). is ++ more) s.4)

pub each-counted : (ps : List Property) (items : List (List ℕ)) → EachProperty ps items → length items ≡ length ps
each-counted [] items s = ap length s
each-counted (p ∷ ps) items s = ap length s.4 ∙ ap suc (each-counted ps s.1 s.3)

pub each-spelled : (ps : List Property) (items : List (List ℕ)) → EachProperty ps items → EntriesSpelled (property_entries ps) items
each-spelled [] items s = s
each-spelled (p ∷ ps) items s =
    (s.2.name, s.2.content, s.1, s.2.named.spelled, s.2.spelled, each-spelled ps s.1 s.3, s.4 ∙ ap (λ (first : List ℕ). first ∷ s.1) s.2.split)

pub each-texts : (ps : List Property) (items : List (List ℕ)) → EachProperty ps items → list_all is_text (keys_of (property_entries ps)) ≡ true
each-texts [] items s = refl
each-texts (p ∷ ps) items s = and_from (is_text p.name) (list_all is_text (keys_of (property_entries ps))) s.2.named.text (each-texts ps s.1 s.3)

pub each-fit : (ps : List Property) (items : List (List ℕ)) → EachProperty ps items → entries_fit metadata_nodes Node.bytes (property_entries ps) ≡ true
each-fit [] items s = refl
each-fit (p ∷ ps) items s =
    and_from (fits metadata_nodes Node.bytes (Value.bytes p.content)) (entries_fit metadata_nodes Node.bytes (property_entries ps)) s.2.are_bytes (each-fit ps s.1 s.3)

each-short : (ps : List Property) (items : List (List ℕ)) → EachProperty ps items → entries_longest_blob (property_entries ps) ≤ 2 ^ 63
each-short [] items s = omega arith
each-short (p ∷ ps) items s =
    let name = is_count-below (length p.name) (and_parts (is_count (length p.name)) _ s.2.named.text).0 in
    let content = is_count-below (length p.content) (and_parts (is_count (length p.content)) _ s.2.are_bytes).0 in
    let rest = each-short ps s.1 s.3 in
    omega (arith, name, content, rest)

pub entries-counted : (ps : List Property) → entries_count (property_entries ps) ≡ length ps
entries-counted [] = refl
entries-counted (p ∷ ps) = ap suc (entries-counted ps)

entries-size : (ps : List Property) → entries_size (property_entries ps) ≡ length ps
entries-size [] = refl
entries-size (p ∷ ps) = omega (arith, entries-size ps)

entries-depth : (ps : List Property) → entries_depth (property_entries ps) ≤ 1
entries-depth [] = omega arith
entries-depth (p ∷ ps) = let rest = entries-depth ps in omega arith

pub keys-names : (ps : List Property) → keys_of (property_entries ps) ≡ names_of ps
keys-names [] = refl
keys-names (p ∷ ps) = ap (λ (ns : List (List ℕ)). p.name ∷ ns) (keys-names ps)

-- ---- Runs

pub run_none : (left : Left) → are_distinct bytes_eq left.keys ≡ true → PropertiesRun left [] []
run_none left h = record { items = []; each = refl; bytes_are = refl; distinct = ap (are_distinct bytes_eq) (append-nil left.keys) ∙ h }

pub run_push : (left : Left) (ps : List Property) (p : Property) (bytes first : List ℕ) → PropertiesRun left ps bytes → IsProperty p first
    → list_any (bytes_eq p.name) (left.keys ++ names_of ps) ≡ false → PropertiesRun left (ps ++ p ∷ []) (bytes ++ first)
run_push left ps p bytes first run is fresh =
    let keys : left.keys ++ names_of (ps ++ p ∷ []) ≡ (left.keys ++ names_of ps) ++ p.name ∷ [] =
    ap (λ (ns : List (List ℕ)). left.keys ++ ns) (names-append ps (p ∷ [])) ∙ sym (append_assoc left.keys (names_of ps) (p.name ∷ [])) in
    record {
      items = run.items ++ first ∷ [];
      each = each-append ps (p ∷ []) run.items (first ∷ []) run.each (first, [], is, refl, refl);
      bytes_are = ap (λ (r : List ℕ). r ++ first) run.bytes_are ∙ ap (λ (r : List ℕ). concat run.items ++ r) (sym (append-nil first)) ∙ sym (concat-append run.items (first ∷ []));
      distinct = ap (are_distinct bytes_eq) keys ∙ distinct-push (left.keys ++ names_of ps) p.name run.distinct fresh;
    }

pub run_whole : (left : Left) (ps : List Property) (bytes : List ℕ) → PropertiesRun left ps bytes → length ps ≤ left.nodes
    → EntriesAreWhole metadata_nodes entry_limits Node.bytes left (length ps) bytes (left_after left ps)
run_whole left ps bytes run few = record {
  entries = property_entries ps;
  items = run.items;
  counted = entries-counted ps;
  texts = each-texts ps run.items run.each;
  distinct = ap (λ (ns : List (List ℕ)). are_distinct bytes_eq (left.keys ++ ns)) (keys-names ps) ∙ run.distinct;
  fitting = each-fit ps run.items run.each;
  spelled = each-spelled ps run.items run.each;
  bytes_are = run.bytes_are;
  deep = entries-depth ps;
  many = omega (arith, entries-size ps, few);
  long = each-short ps run.items run.each;
  leaves = λ i. record { nodes = left.nodes - sym (entries-size ps) i; keys = left.keys ++ sym (keys-names ps) i };
}
