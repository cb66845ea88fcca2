-- What the test of a match says.
use Rattle.std.proofs.Common.{◌≡◌, ℕ, suc, true, false, ◌&&◌, List, refl, subst}
use Rattle.std.specs.Prelude.{◌==◌}
use Rattle.std.proofs.lemmas.Bool.{and_parts, both_ways, eqb-true}
use Rattle.avro_name.specs.Name.{Name}
use Rattle.avro_schema.specs.Node.{Node, node_at}
use Rattle.avro_compare.specs.Match.{are_alike, Matches, match_within, writer_union, reader_union, nulls, booleans, ints, longs, int_to_long, bytes_alike, strings, string_to_bytes, bytes_to_string, arrays, maps, records, enums, fixeds}

fixed_pair : (writer reader : List Node) (a b : Name) (a_aliases b_aliases : List Name) (n m : ℕ) → (are_alike a b b_aliases && n == m) ≡ true
    → Matches writer reader (Node.fixed a a_aliases n) (Node.fixed b b_aliases m)
fixed_pair writer reader a b a_aliases b_aliases n m h =
    let parts = and_parts (are_alike a b b_aliases) (n == m) h in
    subst (λ (k : ℕ). Matches writer reader (Node.fixed a a_aliases n) (Node.fixed b b_aliases k)) (eqb-true n m parts.1) (fixeds parts.0)

-- nodes that pass the test match, however deep it looks
pub match_within-sound : (steps : ℕ) (writer reader : List Node) (w r : Node) → match_within steps writer reader w r ≡ true → Matches writer reader w r
match_within-sound steps writer reader (Node.union ids) r h = writer_union
match_within-sound steps writer reader w (Node.union ids) h = reader_union
match_within-sound steps writer reader Node.null Node.null h = nulls
match_within-sound steps writer reader Node.boolean Node.boolean h = booleans
match_within-sound steps writer reader Node.int Node.int h = ints
match_within-sound steps writer reader Node.int Node.long h = int_to_long
match_within-sound steps writer reader Node.long Node.long h = longs
match_within-sound steps writer reader Node.bytes Node.bytes h = bytes_alike
match_within-sound steps writer reader Node.bytes Node.string h = bytes_to_string
match_within-sound steps writer reader Node.string Node.string h = strings
match_within-sound steps writer reader Node.string Node.bytes h = string_to_bytes
match_within-sound (suc steps) writer reader (Node.array a) (Node.array b) h = arrays (match_within-sound steps writer reader (node_at writer a) (node_at reader b) h)
match_within-sound (suc steps) writer reader (Node.map_of a) (Node.map_of b) h = maps (match_within-sound steps writer reader (node_at writer a) (node_at reader b) h)
match_within-sound steps writer reader (Node.record_of a a_aliases fs) (Node.record_of b b_aliases gs) h = records h
match_within-sound steps writer reader (Node.enum a a_aliases xs x) (Node.enum b b_aliases ys y) h = enums h
match_within-sound steps writer reader (Node.fixed a a_aliases n) (Node.fixed b b_aliases m) h = fixed_pair writer reader a b a_aliases b_aliases n m h
match_within-sound steps writer reader w r h = absurd (both_ways false refl h)
