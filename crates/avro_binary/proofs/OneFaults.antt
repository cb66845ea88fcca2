-- Bytes have at most one fault, as a node of a schema and within limits.
use Rattle.std.proofs.Common.{◌≡◌, ◌⊎◌, inl, inr, ℕ, zero, suc, ◌-◌, ◌^◌, ◌<◌, ◌≤◌, pos, true, List, [], ◌∷◌, ◌++◌, length, sym, ap, ◌∙◌, subst, length-append, arith}
use Rattle.std.specs.List.{concat}
use Rattle.std.specs.Str.{is_utf8}
use Rattle.avro_zigzag.proofs.public.Spelling.{one_spelling_lem}
use Rattle.avro_schema.specs.Value.{Values, values_size}
use Rattle.avro_schema.specs.Node.{Node, node_at, field_ids}
use Rattle.avro_schema.specs.Fits.{fields_fit, LimitValues}
use Rattle.avro_schema.specs.WellFormed.{is_schema}
use Rattle.avro_cursor.specs.Fault.{ReadFault}
use Rattle.avro_cursor.specs.Breaks.{ChildBreaks, IndexBreaks, BranchBreaks, FieldsBreak, ItemsAreWhole, EntriesAreWhole, EntryBreaks, NodeBreaks, BreaksWithin, Breaks}
use Rattle.avro_schema.proofs.public.Choices.{HasFewChoices, HasFewChoices-from_is_schema}
use Rattle.avro_binary.proofs.Front.{fields_same, fields_told}
use Rattle.avro_cursor.proofs.public.Fronts.{same_front, same_behind, same_from_pos}
use Rattle.avro_binary.proofs.NoFront.{none_within, fields_none}
use Rattle.avro_binary.proofs.NoFrontItems.{NoneAt}
use Rattle.avro_binary.proofs.NoFrontParts.{index_none}
use Rattle.avro_binary.proofs.OneFaultBlocks.{compared, blocks_one}
use Rattle.avro_binary.proofs.OneFaultItems.{OneAt, values_one, entries_one}
use Rattle.avro_cursor.proofs.public.Behind.{same_moved}
use Rattle.avro_cursor.proofs.public.ElementLaws.{int_part, long_part, boolean_part, fixed_part, content_part, index_part}

-- ---- Lists that are one

-- what is after as many
same_middle : (a b r s : List ℕ) (x y : ℕ) → a ++ x ∷ r ≡ b ++ y ∷ s → length a ≡ length b → (a ≡ b) × (x ≡ y)
same_middle a b r s x y e l = let same = same_front a b (x ∷ r) (y ∷ s) l e in let behind = same.1 in (same.0, cc)

-- what is after fewer is among more
begins : (a b : List ℕ) (x y : ℕ) (r s : List ℕ) → a ++ x ∷ r ≡ b ++ y ∷ s → length a < length b → (between : List ℕ) × (b ≡ a ++ x ∷ between)
begins a [] x y r s e l = absurd (omega arith)
begins [] (q ∷ b) x y r s e l = (b, cc)
begins (p ∷ a) (q ∷ b) x y r s e l =
    let tail : a ++ x ∷ r ≡ b ++ y ∷ s = cc in
    let rest = begins a b x y r s tail (omega arith) in
    let others = rest.1 in
    (rest.0, cc)

-- ---- Unions

branch_below : (before : List ℕ) (branch : ℕ) (after ids : List ℕ) → ids ≡ before ++ branch ∷ after → length before < length ids
branch_below before branch after ids e = omega (arith, ap length e, length-append before (branch ∷ after))

union_one : (nodes : List Node) (left : LimitValues) (child : ChildBreaks) (ids bytes : List ℕ) (f g : ReadFault) → ((p : ℕ) → OneAt (λ c. child c (node_at nodes p)))
    → length ids ≤ 2 ^ 31 → IndexBreaks (length ids) bytes f ⊎ BranchBreaks nodes left child ids bytes f
    → IndexBreaks (length ids) bytes g ⊎ BranchBreaks nodes left child ids bytes g → f ≡ g
union_one nodes left child ids bytes f g one few (inl b) (inl c) = (index_part (length ids)).one_fault bytes f g b c
union_one nodes left child ids bytes f g one few (inl b) (inr c) =
    absurd (index_none (length ids) bytes f (length c.before) c.number c.breaks.rest b (branch_below c.before c.branch c.after ids c.ids_are) few c.spelled c.breaks.split)
union_one nodes left child ids bytes f g one few (inr b) (inl c) =
    absurd (index_none (length ids) bytes g (length b.before) b.number b.breaks.rest c (branch_below b.before b.branch b.after ids b.ids_are) few b.spelled b.breaks.split)
union_one nodes left child ids bytes f g one few (inr b) (inr c) =
    let joined = sym b.breaks.split ∙ c.breaks.split in
    let number = one_spelling_lem (pos (length b.before)) (pos (length c.before)) b.number c.number b.breaks.rest c.breaks.rest b.spelled c.spelled joined in
    let rests = same_behind b.number c.number b.breaks.rest c.breaks.rest number.0 joined in
    let branch = (same_middle b.before c.before b.after c.after b.branch c.branch (sym b.ids_are ∙ c.ids_are) (same_from_pos (length b.before) (length c.before) number.1)).1 in
    let there =
    subst (λ (p : ℕ). child left.nodes (node_at nodes p) c.breaks.rest b.breaks.fault) branch
    (subst (λ (r : List ℕ). child left.nodes (node_at nodes b.branch) r b.breaks.fault) rests b.breaks.breaks) in
    same_moved f g b.breaks.fault c.breaks.fault b.number c.number b.breaks.moved c.breaks.moved number.0
    (one c.branch left.nodes c.breaks.rest b.breaks.fault c.breaks.fault there c.breaks.breaks)

-- ---- Records

module _ (nodes : List Node) (left : LimitValues) (child : ChildBreaks) (none : (p : ℕ) → NoneAt (Unit {0}) nodes (node_at nodes p) left.depth left.blob (λ c. child c (node_at nodes p))) (one : (p : ℕ) → OneAt (λ c. child c (node_at nodes p))) (ids bytes : List ℕ) where
  -- no field breaks before another that breaks
  earlier_none : (f g : ReadFault) (b : FieldsBreak nodes left child ids bytes f) (c : FieldsBreak nodes left child ids bytes g) → length b.before < length c.before → ⊥
  earlier_none f g b c below =
      let between = begins b.before c.before b.field c.field b.after c.after (sym b.ids_are ∙ c.ids_are) below in
      fields_none (Unit {0}) nodes left.depth left.blob child b.before b.field between.0 b.values c.values b.items c.items left.nodes b.breaks.rest c.breaks.rest b.breaks.fault none
      b.fitting b.spelled (subst (λ (ps : List ℕ). fields_fit nodes ps c.values ≡ true) between.1 c.fitting) c.spelled (λ _. (c.deep, c.many, c.long)) b.breaks.breaks (λ _. tt)
      (sym b.breaks.split ∙ c.breaks.split)

  record_one : (f g : ReadFault) (b : FieldsBreak nodes left child ids bytes f) (c : FieldsBreak nodes left child ids bytes g)
      → (length b.before < length c.before) ⊎ (length c.before < length b.before) ⊎ (length b.before ≡ length c.before) → f ≡ g
  record_one f g b c (inl below) = absurd (earlier_none f g b c below)
  record_one f g b c (inr (inl above)) = absurd (earlier_none g f c b above)
  record_one f g b c (inr (inr equal)) =
      let joined = sym b.breaks.split ∙ c.breaks.split in
      let middle = same_middle b.before c.before b.after c.after b.field c.field (sym b.ids_are ∙ c.ids_are) equal in
      let fitting = subst (λ (ps : List ℕ). fields_fit nodes ps b.values ≡ true) middle.0 b.fitting in
      let same = fields_same nodes c.before b.values c.values b.items c.items b.breaks.rest c.breaks.rest (fields_told nodes c.before b.values fitting) fitting c.fitting b.spelled c.spelled joined in
      let rests = same_behind (concat b.items) (concat c.items) b.breaks.rest c.breaks.rest same.0 joined in
      let there =
      subst (λ (p : ℕ). child (left.nodes - values_size c.values) (node_at nodes p) c.breaks.rest b.breaks.fault) middle.1
      (subst (λ (vs : Values). child (left.nodes - values_size vs) (node_at nodes b.field) c.breaks.rest b.breaks.fault) same.1
      (subst (λ (r : List ℕ). child (left.nodes - values_size b.values) (node_at nodes b.field) r b.breaks.fault) rests b.breaks.breaks)) in
      same_moved f g b.breaks.fault c.breaks.fault (concat b.items) (concat c.items) b.breaks.moved c.breaks.moved same.0
      (one c.field (left.nodes - values_size c.values) c.breaks.rest b.breaks.fault c.breaks.fault there c.breaks.breaks)

-- ---- Each kind

node_one : (nodes : List Node) (left : LimitValues) (child : ChildBreaks) (n : Node) (bytes : List ℕ) (f g : ReadFault)
    → ((p : ℕ) → NoneAt (Unit {0}) nodes (node_at nodes p) left.depth left.blob (λ c. child c (node_at nodes p))) → ((p : ℕ) → OneAt (λ c. child c (node_at nodes p)))
    → HasFewChoices n → NodeBreaks nodes left child n bytes f → NodeBreaks nodes left child n bytes g → f ≡ g
node_one nodes left child Node.null bytes f g none one few b c = absurd b
node_one nodes left child Node.boolean bytes f g none one few b c = boolean_part.one_fault bytes f g b c
node_one nodes left child Node.int bytes f g none one few b c = int_part.one_fault bytes f g b c
node_one nodes left child Node.long bytes f g none one few b c = long_part.one_fault bytes f g b c
node_one nodes left child Node.bytes bytes f g none one few b c = (content_part (λ content. true) left.blob).one_fault bytes f g b c
node_one nodes left child Node.string bytes f g none one few b c = (content_part is_utf8 left.blob).one_fault bytes f g b c
node_one nodes left child (Node.array id) bytes f g none one few b c =
    let n = node_at nodes id in
    blocks_one (ItemsAreWhole nodes left n) (λ state. child state.nodes n) (values_one nodes n left (λ q. child q n) (none id) (one id)) b g c
node_one nodes left child (Node.map_of id) bytes f g none one few b c =
    let n = node_at nodes id in
    blocks_one (EntriesAreWhole nodes left n) (EntryBreaks left child n) (entries_one nodes n left child (none id) (one id)) b g c
node_one nodes left child (Node.union ids) bytes f g none one few b c = union_one nodes left child ids bytes f g one few b c
node_one nodes left child (Node.record_of name aliases fields) bytes f g none one few b c =
    record_one nodes left child none one (field_ids fields) bytes f g b c (compared (length b.before) (length c.before))
node_one nodes left child (Node.enum name aliases symbols default) bytes f g none one few b c = (index_part (length symbols)).one_fault bytes f g b c
node_one nodes left child (Node.fixed name aliases count) bytes f g none one few b c = (fixed_part count left.blob).one_fault bytes f g b c

-- bytes that break as a node have one fault
pub one_within : (nodes : List Node) (few : (p : ℕ) → HasFewChoices (node_at nodes p)) (blob depth : ℕ) (n : Node) → HasFewChoices n
    → OneAt (λ c rest g. BreaksWithin nodes depth c blob n rest g)
one_within nodes few blob zero n h c bytes f g x y = x ∙ sym y
one_within nodes few blob (suc depth) n h zero bytes f g x y = x ∙ sym y
one_within nodes few blob (suc depth) n h (suc c) bytes f g x y =
    let left : LimitValues = record { depth = depth; nodes = c; blob = blob } in
    node_one nodes left (λ q m r k. BreaksWithin nodes depth q blob m r k) n bytes f g (λ p. none_within (Unit {0}) nodes few blob depth (node_at nodes p) (few p))
    (λ p. one_within nodes few blob depth (node_at nodes p) (few p)) h x y

-- so of a node of a schema
pub one_fault_lem : (nodes : List Node) (limits : LimitValues) (id : ℕ) (bytes : List ℕ) (f g : ReadFault) → is_schema nodes ≡ true → Breaks nodes limits (node_at nodes id) bytes f
    → Breaks nodes limits (node_at nodes id) bytes g → f ≡ g
one_fault_lem nodes limits id bytes f g formed b c =
    let few = HasFewChoices-from_is_schema nodes formed in one_within nodes few limits.blob limits.depth (node_at nodes id) (few id) limits.nodes bytes f g b c
