-- Leaves whose encodings are copied.
use Rattle.std.proofs.Common.{◌≡◌, ℕ, ℤ, pos, true, ◌||◌, List, [], ◌++◌, length, Option, Some, None, Ok, refl, sym, ap, ◌∙◌, subst}
use Rattle.std.proofs.lemmas.Bool.{false≢true}
use Rattle.std.proofs.lemmas.List.{append-nil}
use Rattle.avro_zigzag.specs.Number.{number_bytes}
use Rattle.avro_zigzag.proofs.public.Spelling.{number_bytes-from_spelling}
use Rattle.avro_schema.specs.Value.{Value}
use Rattle.avro_schema.specs.Node.{Node, symbols_of}
use Rattle.avro_schema.specs.Fits.{is_int_node, is_long_node, is_bytes_node, is_string_node}
use Rattle.avro_schema.proofs.public.FitsKind.{FitsKind}
use Rattle.avro_cursor.specs.Encoding.{Spells, SpellsBytes, plain, plain_bytes}
use Rattle.avro_compare.specs.Resolve.{bytes_as, int_as, resolve, string_as}
use Rattle.avro_resolve.specs.Copied.{IsCopied, IsAsSpelled, BeginsShortest, begins_with_number, is_as_written}

-- what the reader's node takes of a leaf
int_taken : (i : ℤ) (m : Node) → (u : Value) × (int_as i m ≡ Ok u) × (plain u ≡ number_bytes i)
int_taken i Node.long = (Value.long i, refl, refl)
int_taken i _ = (Value.int i, refl, refl)

string_taken : (t : List ℕ) (m : Node) → (u : Value) × (string_as t m ≡ Ok u) × (plain u ≡ plain_bytes t)
string_taken t Node.bytes = (Value.bytes t, refl, refl)
string_taken t _ = (Value.string t, refl, refl)

bytes_taken : (b : List ℕ) (m : Node) → is_bytes_node m ≡ true → bytes_as b m ≡ Ok (Value.bytes b)
bytes_taken b Node.string h = absurd (false≢true h)
bytes_taken b _ h = refl

-- an enum is not copied
no_symbols : (n m : Node) → is_as_written n m ≡ true → symbols_of n ≡ None
no_symbols (Node.enum name aliases symbols default) m h = absurd (false≢true h)
no_symbols _ m h = refl

none_some : {A : Type 0} {x : A} {o : Option A} → o ≡ None → o ≡ Some x → ⊥
none_some e f = cc

-- which encodings begin with a number
number_int : (m : Node) → (is_int_node m || is_long_node m) ≡ true → begins_with_number m ≡ true
number_int Node.null h = absurd (false≢true h)
number_int Node.boolean h = absurd (false≢true h)
number_int (Node.fixed name aliases size) h = absurd (false≢true h)
number_int _ h = refl

number_long : (m : Node) → is_long_node m ≡ true → begins_with_number m ≡ true
number_long Node.null h = absurd (false≢true h)
number_long Node.boolean h = absurd (false≢true h)
number_long (Node.fixed name aliases size) h = absurd (false≢true h)
number_long _ h = refl

number_bytes_node : (m : Node) → is_bytes_node m ≡ true → begins_with_number m ≡ true
number_bytes_node Node.null h = absurd (false≢true h)
number_bytes_node Node.boolean h = absurd (false≢true h)
number_bytes_node (Node.fixed name aliases size) h = absurd (false≢true h)
number_bytes_node _ h = refl

number_string : (m : Node) → (is_string_node m || is_bytes_node m) ≡ true → begins_with_number m ≡ true
number_string Node.null h = absurd (false≢true h)
number_string Node.boolean h = absurd (false≢true h)
number_string (Node.fixed name aliases size) h = absurd (false≢true h)
number_string _ h = refl

module _ (writer : List Node) (n m : Node) (kinds : is_as_written n m ≡ true) where
  written : (k : Node) → n ≡ k → is_as_written k m ≡ true
  written k e = subst (λ (x : Node). is_as_written x m ≡ true) e kinds

  -- what a copied datum is for the reader has its plain encoding
  pub copied_value : (reader : List Node) (v : Value) → IsCopied writer reader n m → FitsKind writer n v → (u : Value) × (resolve writer reader n m v ≡ Ok u) × (plain u ≡ plain v)
  copied_value reader Value.null c k = (Value.null, c.leads (λ q. Ok Value.null), refl)
  copied_value reader (Value.boolean b) c k = (Value.boolean b, c.leads (λ q. Ok (Value.boolean b)), refl)
  copied_value reader (Value.int i) c k = let t = int_taken i m in (t.0, c.leads (int_as i) ∙ t.1, t.2)
  copied_value reader (Value.long i) c k = (Value.long i, c.leads (λ q. Ok (Value.long i)), refl)
  copied_value reader (Value.bytes b) c k = (Value.bytes b, c.leads (bytes_as b) ∙ bytes_taken b m (written Node.bytes k.0), refl)
  copied_value reader (Value.string t) c k = let s = string_taken t m in (s.0, c.leads (string_as t) ∙ s.1, s.2)
  copied_value reader (Value.array vs) c k = absurd (false≢true (written (Node.array k.id) k.is_array))
  copied_value reader (Value.map_of es) c k = absurd (false≢true (written (Node.map_of k.id) k.is_map))
  copied_value reader (Value.union j v) c k = absurd (false≢true (written (Node.union k.ids) k.is_union))
  copied_value reader (Value.record_of vs) c k = absurd (false≢true (written (Node.record_of k.name k.aliases k.fields) k.is_record))
  copied_value reader (Value.enum j) c k = absurd (none_some (no_symbols n m kinds) k.1)
  copied_value reader (Value.fixed b) c k = (Value.fixed b, c.leads (λ q. Ok (Value.fixed b)), refl)

  measured : (content b : List ℕ) → SpellsBytes content b → BeginsShortest b → b ≡ plain_bytes content
  measured content b s shortest =
      s.2 ∙ ap (λ (front : List ℕ). front ++ content) (number_bytes-from_spelling (pos (length content)) s.0 (shortest 10 (pos (length content)) s.0 content s.1 s.2))

  -- its encoding is plain, where the number that it begins with is in its shortest spelling
  pub copied_spelling : (v : Value) (b : List ℕ) → FitsKind writer n v → Spells v b → IsAsSpelled m b → b ≡ plain v
  copied_spelling Value.null b k s short = s
  copied_spelling (Value.boolean x) b k s short = s
  copied_spelling (Value.int i) b k s short = number_bytes-from_spelling i b (short (number_int m (written Node.int k.0)) 5 i b [] s (sym (append-nil b)))
  copied_spelling (Value.long i) b k s short = number_bytes-from_spelling i b (short (number_long m (written Node.long k.0)) 10 i b [] s (sym (append-nil b)))
  copied_spelling (Value.bytes x) b k s short = measured x b s (short (number_bytes_node m (written Node.bytes k.0)))
  copied_spelling (Value.string t) b k s short = measured t b s (short (number_string m (written Node.string k.0)))
  copied_spelling (Value.array vs) b k s short = absurd (false≢true (written (Node.array k.id) k.is_array))
  copied_spelling (Value.map_of es) b k s short = absurd (false≢true (written (Node.map_of k.id) k.is_map))
  copied_spelling (Value.union j v) b k s short = absurd (false≢true (written (Node.union k.ids) k.is_union))
  copied_spelling (Value.record_of vs) b k s short = absurd (false≢true (written (Node.record_of k.name k.aliases k.fields) k.is_record))
  copied_spelling (Value.enum j) b k s short = absurd (none_some (no_symbols n m kinds) k.1)
  copied_spelling (Value.fixed x) b k s short = s
