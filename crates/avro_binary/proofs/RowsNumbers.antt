-- A test of whether bytes spell a number, for rows to compute.
use Rattle.std.proofs.Common.{◌≡◌, refl, ℕ, ℤ, Bool, true, ◌&&◌, List, ◌++◌, length, ◌==◌, nat_le}
use Rattle.std.proofs.lemmas.Bool.{and_parts, eqb-true, leb-true}
use Rattle.avro_zigzag.specs.Number.{zigzag, are_groups, groups_value, AreGroups, is_long}
use Rattle.avro_cursor.specs.Breaks.{StartsWithLong}

-- the bytes are groups of the number's zig-zag number, and not too many
abbrev pub is_spelling : ℕ → ℤ → List ℕ → Bool
is_spelling most v bytes = are_groups bytes && groups_value bytes == zigzag v && nat_le (length bytes) most

-- the bytes spell the number, by the test
pub spells : {most : ℕ} (v : ℤ) (bytes : List ℕ) → is_spelling most v bytes ≡ true → AreGroups most (zigzag v) bytes
spells {most = most} v bytes e =
    let all = and_parts (are_groups bytes && groups_value bytes == zigzag v) (nat_le (length bytes) most) e in
    let two = and_parts (are_groups bytes) (groups_value bytes == zigzag v) all.0 in
    record { groups = two.0; value = eqb-true _ _ two.1; few = leb-true _ _ all.1 }

-- a long at the front
pub starts_with : (v : ℤ) (number rest : List ℕ) → is_spelling 10 v number ≡ true → is_long v ≡ true → StartsWithLong v (number ++ rest) number rest
starts_with v number rest e within = record { spelled = spells v number e; in_range = within; split = refl }
