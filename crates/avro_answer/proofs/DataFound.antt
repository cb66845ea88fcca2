-- What is found at the front of bytes.
use Rattle.std.proofs.Common.{◌≡◌, ◌∙◌, ℕ, ◌≤◌, true, inl, inr, List, ◌++◌, length, take, drop, Option, Some, None, Result, Ok, Err, refl, sym, ap, arith}
use Rattle.std.proofs.lemmas.List.{take-append-drop, length-take-le}
use Rattle.std.specs.Prelude.{option_map, IfOk}
use Rattle.std.specs.Option.{IfSome}
use Rattle.std.specs.Result.{IfErr}
use Rattle.avro_schema.specs.Value.{Value}
use Rattle.avro_schema.specs.Node.{Node, node_at, root_of}
use Rattle.avro_schema.specs.Fits.{LimitValues, is_within}
use Rattle.avro_schema.specs.WellFormed.{is_schema}
use Rattle.avro_schema.specs.Seen.{value_of}
use Rattle.avro_schema.specs.declared.datum.Datum.{Datum}
use Rattle.avro_cursor.specs.Breaks.{Breaks}
use Rattle.avro_cursor.specs.Encoding.{Encodes}
use Rattle.avro_cursor.specs.Fault.{ReadFault}
use Rattle.avro_cursor.specs.Seen.{read_fault}
use Rattle.avro_cursor.specs.declared.error.ReadError.{ReadError}
use Rattle.avro_binary.specs.Reading.{ReadsExactly}
use Rattle.avro_compare.specs.Resolve.{Resolved}
use Rattle.avro_compare.specs.Seen.{fault_of}
use Rattle.avro_compare.specs.declared.error.Fault.{Fault}
use Rattle.avro_resolve.specs.Reading.{ReadsAs}
use Rattle.avro_resolve.specs.Seen.{IfUnread, IfUnresolved}
use Rattle.avro_resolve.specs.declared.error.ReadResolveError.{ReadResolveError}
use Rattle.avro_display.specs.DisplayTree.{display_text}
use Rattle.avro_answer.specs.DataRead.{fault_found, IsDatumTold}
use Rattle.avro_answer.specs.ReadAnswer.{Found, datum, broken, unresolved, BeginsWith, IsAtFront, IsFound, IsAllFound, datum_text, nodes_for, read_as}
use Rattle.avro_answer.specs.declared.form.Form.{Form}
use Rattle.avro_answer.specs.inside.AtFront.{IsDisplayed}
use Rattle.avro_answer.specs.inside.DatumParts.{text_around}

pub same_ok : {A B : Type 0} (r : Result A B) (a b : A) → r ≡ Ok a → r ≡ Ok b → a ≡ b
same_ok r a b g h = cc

same_err : {A B : Type 0} (r : Result A B) (a b : B) → r ≡ Err a → r ≡ Err b → a ≡ b
same_err r a b g h = cc

same_datum : (u w : Value) (m n : ℕ) → u ≡ w → m ≡ n → datum u m ≡ datum w n
same_datum u w m n g h = cc

around_display : (form : Form) (nodes : List Node) (u : Value) (len : ℕ) → text_around form (display_text nodes (root_of nodes) u) len ≡ datum_text form nodes u len
around_display Form.Text nodes u len = refl
around_display Form.Json nodes u len = refl

-- what stands at the front of data of a schema is all that is found
abbrev pub OnlyFound : List Node → Type 0
OnlyFound writer = (reader : Option (List Node)) (limits : LimitValues) (bytes : List ℕ) (found : Found)
    → IsAtFront writer reader limits bytes found → IsAllFound writer reader limits 0 bytes found

-- the laws of encodings and of faults
abbrev pub OnePrefix : Type 0
OnePrefix = (nodes : List Node) (n : Node) (v w : Value) (a b x y : List ℕ) → Encodes nodes n v a → Encodes nodes n w b → a ++ x ≡ b ++ y → (a ≡ b) × (v ≡ w)

abbrev pub FaultOrWithin : Type 0
FaultOrWithin = (nodes : List Node) (limits : LimitValues) (id : ℕ) (bytes : List ℕ) (f : ReadFault) (v : Value) (front rest : List ℕ) → is_schema nodes ≡ true
    → Breaks nodes limits (node_at nodes id) bytes f → Encodes nodes (node_at nodes id) v front → is_within limits v ≡ true → bytes ≡ front ++ rest → ⊥

abbrev pub OneFault : Type 0
OneFault = (nodes : List Node) (limits : LimitValues) (id : ℕ) (bytes : List ℕ) (f g : ReadFault) → is_schema nodes ≡ true
    → Breaks nodes limits (node_at nodes id) bytes f → Breaks nodes limits (node_at nodes id) bytes g → f ≡ g

module _ (one_prefix : OnePrefix) (fault_or_within : FaultOrWithin) (one_fault : OneFault) (writer : List Node) (good : is_schema writer ≡ true)
    (reader : Option (List Node)) (limits : LimitValues) (bytes : List ℕ) where
  -- bytes begin with one datum
  one_datum : (v w : Value) (m n : ℕ) → BeginsWith writer limits bytes v m → BeginsWith writer limits bytes w n → (v ≡ w) × (m ≡ n)
  one_datum v w m n b d =
      let same = one_prefix writer (root_of writer) v w b.front d.front b.rest d.rest b.encoded d.encoded (sym b.parted ∙ d.parted) in
      (same.1, b.length_is ∙ ap length same.0 ∙ sym d.length_is)

  no_fault : (v : Value) (m : ℕ) (fault : ReadFault) → BeginsWith writer limits bytes v m → Breaks writer limits (root_of writer) bytes fault → ⊥
  no_fault v m fault b breaks = fault_or_within writer limits 0 bytes fault v b.front b.rest good breaks b.encoded b.within b.parted

  one_read : (v w : Value) (r s : Resolved) → v ≡ w → read_as writer reader v ≡ r → read_as writer reader w ≡ s → r ≡ s
  one_read v w r s e g h = sym g ∙ ap (read_as writer reader) e ∙ h

  alone : (found other : Found) → IsAtFront writer reader limits bytes found → IsAtFront writer reader limits bytes other → other ≡ found
  alone (datum u m) (datum w n) (v, b, reads) (x, d, others) =
      let same = one_datum x v n m d b in
      let e = one_read x v (Ok w) (Ok u) same.0 others reads in
      same_datum w u n m (same_ok (Ok w) w u refl e) same.1
  alone (datum u m) (broken fault) (v, b, reads) breaks = absurd (no_fault v m fault b breaks)
  alone (datum u m) (unresolved fault) (v, b, reads) (x, n, d, others) =
      let e = one_read x v (Err fault) (Ok u) (one_datum x v n m d b).0 others reads in absurd cc
  alone (broken fault) (datum w n) breaks (x, d, others) = absurd (no_fault x n fault d breaks)
  alone (broken fault) (broken other) breaks others = ap broken (one_fault writer limits 0 bytes other fault good others breaks)
  alone (broken fault) (unresolved other) breaks (x, n, d, others) = absurd (no_fault x n fault d breaks)
  alone (unresolved fault) (datum w n) (v, m, b, reads) (x, d, others) =
      let e = one_read x v (Ok w) (Err fault) (one_datum x v n m d b).0 others reads in absurd cc
  alone (unresolved fault) (broken other) (v, m, b, reads) breaks = absurd (no_fault v m other b breaks)
  alone (unresolved fault) (unresolved other) (v, m, b, reads) (x, n, d, others) =
      let e = one_read x v (Err other) (Err fault) (one_datum x v n m d b).0 others reads in
      ap unresolved (same_err (Err other) other fault refl e)

  -- what stands at the front is all that is found
  pub one_found : (found : Found) → IsAtFront writer reader limits bytes found → IsAllFound writer reader limits 0 bytes found
  one_found found there = record { there = inr (omega arith, there); alone = others }
    where
      others : (other : Found) → IsFound writer reader limits 0 bytes other → other ≡ found
      others other (inl (few, _)) = absurd (omega (arith, few))
      others other (inr (_, at)) = alone found other there at

module _ (writer : List Node) (reader : Option (List Node)) (limits : LimitValues) (bytes : List ℕ) where
  -- the text of a datum by its display
  pub displayed_text : (form : Form) (len : ℕ) (display : List ℕ) → IsDisplayed writer reader limits bytes len display
      → IsDatumTold writer reader limits form 0 bytes (text_around form display len)
  displayed_text form len display h = record {
    value = h.value;
    len = len;
    is_found = h.is_found;
    told = ap (λ d. text_around form d len) h.told ∙ around_display form (nodes_for writer reader) h.value len;
  }

  -- and by what is found
  pub found_told : (form : Form) (len : ℕ) (u : Value) → IsAllFound writer reader limits 0 bytes (datum u len)
      → IsDatumTold writer reader limits form 0 bytes (text_around form (display_text (nodes_for writer reader) (root_of (nodes_for writer reader)) u) len)
  found_told form len u h = record { value = u; len = len; is_found = h; told = around_display form (nodes_for writer reader) u len }

  -- the datum that is read where one is found
  pub datum_read : (r : Datum × ℕ) → ReadsExactly writer (root_of writer) limits bytes (Ok r)
      → (u : Value) (len : ℕ) → IsAllFound writer reader limits 0 bytes (datum u len) → read_as writer reader (value_of r.0) ≡ Ok u
  datum_read r h u len all = by_place all.there
    where
      by_place : IsFound writer reader limits 0 bytes (datum u len) → read_as writer reader (value_of r.0) ≡ Ok u
      by_place (inl (few, _)) = absurd (omega (arith, few))
      by_place (inr (_, (v, b, reads))) = ap (read_as writer reader) (h.begins v b.front b.rest b.encoded b.within b.parted).0 ∙ reads

module _ (writer : List Node) (all : OnlyFound writer) (limits : LimitValues) (bytes : List ℕ) where
  at_front : (v : Value) (len : ℕ) → len ≤ length bytes → Encodes writer (root_of writer) v (take len bytes) → is_within limits v ≡ true → BeginsWith writer limits bytes v len
  at_front v len in_bytes encoded within = record {
    front = take len bytes;
    rest = drop len bytes;
    parted = sym (take-append-drop len bytes);
    encoded = encoded;
    within = within;
    length_is = sym (length-take-le len bytes in_bytes);
  }

  -- a datum as it is
  pub plain_is_found : (v : Value) (len : ℕ) → len ≤ length bytes → Encodes writer (root_of writer) v (take len bytes) → is_within limits v ≡ true
      → IsAllFound writer None limits 0 bytes (datum v len)
  plain_is_found v len in_bytes encoded within = all None limits bytes (datum v len) (v, at_front v len in_bytes encoded within, refl)

  pub plain_is_displayed : (v : Value) (len : ℕ) → len ≤ length bytes → Encodes writer (root_of writer) v (take len bytes) → is_within limits v ≡ true
      → IsDisplayed writer None limits bytes len (display_text writer (root_of writer) v)
  plain_is_displayed v len in_bytes encoded within = record { value = v; is_found = plain_is_found v len in_bytes encoded within; told = refl }

  -- the fault of the bytes
  pub fault_is_found : (reader : Option (List Node)) (o : Option ReadFault) → IfSome o (Breaks writer limits (root_of writer) bytes)
      → IfSome (option_map broken o) (IsAllFound writer reader limits 0 bytes)
  fault_is_found reader None h = tt
  fault_is_found reader (Some fault) h = all reader limits bytes (broken fault) h

  module _ (reader : List Node) where
    begins : (len : ℕ) (resolved : Resolved) (r : ReadsAs writer reader limits bytes len resolved) → BeginsWith writer limits bytes r.datum len
    begins len resolved r = at_front r.datum len r.in_bytes r.encoded r.within

    -- what is read for a reader
    pub read_is_found : (len : ℕ) (u : Value) → ReadsAs writer reader limits bytes len (Ok u) → IsAllFound writer (Some reader) limits 0 bytes (datum u len)
    read_is_found len u r = all (Some reader) limits bytes (datum u len) (r.datum, begins len (Ok u) r, r.resolves)

    -- its display
    pub read_is_displayed : (stands : List ℕ → Type 0) (nodes : List Node) → nodes ≡ reader → {E : Type 0} (result : Result ℕ E)
        → IfOk result (λ len. (u : Value) × ReadsAs writer reader limits bytes len (Ok u) × stands (display_text nodes (root_of nodes) u))
        → IfOk result (λ len. (display : List ℕ) × IsDisplayed writer (Some reader) limits bytes len display × stands display)
    read_is_displayed stands nodes same (Ok len) (u, r, here) = (
      display_text nodes (root_of nodes) u,
      record { value = u; is_found = read_is_found len u r; told = ap (λ ns. display_text ns (root_of ns) u) same },
      here,
    )
    read_is_displayed stands nodes same (Err e) h = tt

    -- why it is refused
    unresolved_is_found : (f : Fault) (len : ℕ) → ReadsAs writer reader limits bytes len (Err (fault_of f)) → IsAllFound writer (Some reader) limits 0 bytes (unresolved (fault_of f))
    unresolved_is_found f len r = all (Some reader) limits bytes (unresolved (fault_of f)) (r.datum, len, begins len (Err (fault_of f)) r, r.resolves)

    pub refusal_is_found : (e : ReadResolveError)
        → ((f : Fault) → e ≡ ReadResolveError.Resolve f → (len : ℕ) × ReadsAs writer reader limits bytes len (Err (fault_of f)))
        → ((x : ReadError) → e ≡ ReadResolveError.Read x → IfSome (read_fault x) (Breaks writer limits (root_of writer) bytes))
        → IfSome (fault_found e) (IsAllFound writer (Some reader) limits 0 bytes)
    refusal_is_found (ReadResolveError.Resolve f) g h = let p = g f refl in unresolved_is_found f p.0 p.1
    refusal_is_found (ReadResolveError.Read e) g h = fault_is_found (Some reader) (read_fault e) (h e refl)

    -- the same of a result
    pub refusals_are_found : {A : Type 0} (result : Result A ReadResolveError)
        → IfUnresolved result (λ f. (len : ℕ) × ReadsAs writer reader limits bytes len (Err (fault_of f)))
        → IfUnread result (λ e. IfSome (read_fault e) (Breaks writer limits (root_of writer) bytes))
        → IfErr result (λ e. IfSome (fault_found e) (IsAllFound writer (Some reader) limits 0 bytes))
    refusals_are_found (Ok a) g h = tt
    refusals_are_found (Err (ReadResolveError.Resolve f)) g h = unresolved_is_found f g.0 g.1
    refusals_are_found (Err (ReadResolveError.Read e)) g h = fault_is_found (Some reader) (read_fault e) h
