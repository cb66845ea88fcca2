-- Bytes that were read through a cursor were read exactly.
use Rattle.std.proofs.Common.{◌≡◌, ℕ, ◌≤◌, true, List, ◌++◌, length, take, Result, Ok, Err, Option, Some, None, refl, sym, ap, ◌∙◌, subst, arith, rules, tests, length-append}
use Rattle.std.specs.Prelude.{nat_le}
use Rattle.std.specs.Option.{IfSome}
use Rattle.std.proofs.Math.Seq.{take-append_seam}
use Rattle.avro_schema.specs.Value.{Value, size, depth, longest_blob}
use Rattle.avro_schema.specs.Node.{Node, node_at}
use Rattle.avro_schema.specs.Fits.{LimitValues, is_within}
use Rattle.avro_schema.specs.WellFormed.{is_schema}
use Rattle.avro_schema.specs.declared.datum.Datum.{Datum}
use Rattle.avro_cursor.specs.Encoding.{Encodes}
use Rattle.avro_cursor.specs.Fault.{ReadFault, limit_exceeded, behind}
use Rattle.avro_cursor.specs.Breaks.{Breaks}
use Rattle.avro_cursor.specs.Seen.{read_fault, UnlessOutOfMemory}
use Rattle.avro_binary.specs.Reading.{BuildsExactly, ReadsExactly, WalksExactly}
use Rattle.avro_cursor.specs.CursorValue.{CursorValue}
use Rattle.avro_binary.specs.CursorReads.{FindsValue, ReadsNode, IsSeenAs}
use Rattle.avro_cursor.specs.declared.error.ReadError.{ReadError}
use Rattle.avro_cursor.proofs.public.Behind.{behind-none}
use Rattle.avro_cursor.proofs.public.KeySteps.{as_error, unless_reported}
use Rattle.avro_binary.proofs.Front.{one_front}
use Rattle.avro_binary.proofs.NoFront.{no_front_of_fault, no_front_within}
use Rattle.avro_binary.proofs.OneFaults.{one_fault_lem}

-- a cursor at the front of bytes
abbrev pub front_of : List ℕ → LimitValues → CursorValue
front_of bytes limits = record { bytes = bytes; offset = 0; depth = limits.depth; nodes = limits.nodes; blob = limits.blob }

pub within-from : (limits : LimitValues) (v : Value) → depth v ≤ limits.depth → size v ≤ limits.nodes → longest_blob v ≤ limits.blob → is_within limits v ≡ true
within-from limits v d n b =
    let deep : nat_le (depth v) limits.depth ≡ true = search (rules, tests) in
    let many : nat_le (size v) limits.nodes ≡ true = search (rules, tests) in
    let long : nat_le (longest_blob v) limits.blob ≡ true = search (rules, tests) in
    rw (deep, many, long) refl

module _ (nodes : List Node) (formed : is_schema nodes ≡ true) (id : ℕ) (limits : LimitValues) (bytes : List ℕ) where
  -- the front that was passed
  pub record FrontIs (v : Value) (len : ℕ) : Type 0 where
    pub front : List ℕ
    pub rest : List ℕ
    pub split : bytes ≡ front ++ rest
    pub length_is : len ≡ length front
    pub encoded : Encodes nodes (node_at nodes id) v front
    pub within : is_within limits v ≡ true

  pub front_is : (v : Value) (after : CursorValue) → FindsValue nodes (node_at nodes id) (front_of bytes limits) after v → FrontIs v after.offset
  front_is v after found = record {
    front = found.front;
    rest = after.bytes;
    split = found.moves.split;
    length_is = let p = found.moves.offset in omega arith;
    encoded = found.encoded;
    within = within-from limits v found.deep (let m = found.many in omega arith) found.long;
  }

  front-taken : (v : Value) (len : ℕ) (is : FrontIs v len) → take len bytes ≡ is.front
  front-taken v len is = (λ i. take (is.length_is i) (is.split i)) ∙ take-append_seam is.front is.rest

  front-inside : (v : Value) (len : ℕ) → FrontIs v len → len ≤ length bytes
  front-inside v len is = let l = is.length_is in omega (arith, ap length is.split, length-append is.front is.rest)

  -- no other datum is there
  front-only : (v : Value) (len : ℕ) (is : FrontIs v len) (w : Value) (front rest : List ℕ) → Encodes nodes (node_at nodes id) w front → bytes ≡ front ++ rest
      → (is.front ≡ front) × (v ≡ w)
  front-only v len is w front rest encoded split =
      one_front nodes (node_at nodes id) v w is.front front is.rest rest is.encoded encoded (sym is.split ∙ split)

  front-whole : (v : Value) (len : ℕ) → FrontIs v len → (f : ReadFault) → Breaks nodes limits (node_at nodes id) bytes f → ⊥
  front-whole v len is f b = no_front_within nodes limits id bytes f v is.front is.rest formed b is.encoded is.within is.split

  -- what an error says about the bytes
  abbrev pub Told : Option ReadFault → Type 0
  Told fault = IfSome fault (λ g. (f : ReadFault) × Breaks nodes limits (node_at nodes id) bytes f × (g ≡ behind 0 f))

  abbrev FaultIs : Option ReadFault → Type 0
  FaultIs fault = IfSome fault (Breaks nodes limits (node_at nodes id) bytes)

  told-breaks : (fault : Option ReadFault) → Told fault → FaultIs fault
  told-breaks None t = tt
  told-breaks (Some g) t = subst (Breaks nodes limits (node_at nodes id) bytes) (sym (t.2 ∙ sym (behind-none t.0))) t.1

  told-none : (fault : Option ReadFault) → Told fault
      → IfSome fault (λ f. (f ≡ limit_exceeded → ⊥) → (v : Value) (front rest : List ℕ) → Encodes nodes (node_at nodes id) v front → bytes ≡ front ++ rest → ⊥)
  told-none None t = tt
  told-none (Some g) t = λ no_limit v front rest encoded split. no_front_of_fault nodes limits id bytes g v front rest formed (told-breaks (Some g) t) no_limit encoded split

  -- an error that tells nothing says that memory ran out
  silent : (A : Type 0) (P : Type 0) (e : ReadError) → read_fault e ≡ None → UnlessOutOfMemory (as_error {A = A} e) P
  silent A P ReadError.OutOfMemory h = tt
  silent A P _ h = absurd cc

  reported : (A : Type 0) (e : ReadError) (fault : Option ReadFault) → read_fault e ≡ fault → Told fault → (f : ReadFault) → Breaks nodes limits (node_at nodes id) bytes f
      → UnlessOutOfMemory (as_error {A = A} e) (read_fault e ≡ Some f)
  reported A e None is t f b = silent A (read_fault e ≡ Some f) e is
  reported A e (Some g) is t f b =
      unless_reported A e g (read_fault e ≡ Some f) is
      (is ∙ ap (λ (h : ReadFault). Some h) (one_fault_lem nodes limits id bytes g f formed (told-breaks (Some g) t) b))

  stays_out : (A : Type 0) (P : Type 0) (e : ReadError) (fault : Option ReadFault) → read_fault e ≡ fault → Told fault → (v : Value) (front rest : List ℕ)
      → Encodes nodes (node_at nodes id) v front → is_within limits v ≡ true → bytes ≡ front ++ rest → UnlessOutOfMemory (as_error {A = A} e) P
  stays_out A P e None is t v front rest encoded within split = silent A P e is
  stays_out A P e (Some g) is t v front rest encoded within split =
      absurd (no_front_within nodes limits id bytes g v front rest formed (told-breaks (Some g) t) encoded within split)

  -- ---- From the cursor's call

  module _ {R : Type 0} {stands : R → Value → Type 0} (before after : CursorValue) (at_front : before ≡ front_of bytes limits) where
    moved_front : (result : Result R ReadError) → ReadsNode stands nodes (node_at nodes id) before after result
        → ReadsNode stands nodes (node_at nodes id) (front_of bytes limits) after result
    moved_front result reads = subst (λ (b : CursorValue). ReadsNode stands nodes (node_at nodes id) b after result) at_front reads

    pub built : (r : R) (len : ℕ) → len ≡ after.offset → ReadsNode stands nodes (node_at nodes id) before after (Ok r)
        → BuildsExactly stands nodes (node_at nodes id) limits bytes (Ok (r, len))
    built r len at_end reads =
        let found = (moved_front (Ok r) reads).found in
        let v = found.0 in
        let is = subst (λ (n : ℕ). FrontIs v n) (sym at_end) (front_is v after found.1) in record {
          found = (v, found.2, front-inside v len is, subst (Encodes nodes (node_at nodes id) v) (sym (front-taken v len is)) is.encoded, is.within);
          begins = λ w front rest encoded within split.
              let same = front-only v len is w front rest encoded split in
              (subst (stands r) same.1 found.2, is.length_is ∙ ap (λ (q : List ℕ). length q) same.0);
          refused = tt;
          breaks = λ f b. front-whole v len is f b;
          no_front = tt;
        }

    pub build_refused : (e : ReadError) → ReadsNode stands nodes (node_at nodes id) before after (Err e)
        → BuildsExactly stands nodes (node_at nodes id) limits bytes (Err e)
    build_refused e reads =
        let t = (moved_front (Err e) reads).refused in record {
          found = tt;
          begins = λ v front rest encoded within split. stays_out (R × ℕ) ⊥ e (read_fault e) refl t v front rest encoded within split;
          refused = told-breaks (read_fault e) t;
          breaks = λ f b. reported (R × ℕ) e (read_fault e) refl t f b;
          no_front = told-none (read_fault e) t;
        }

-- ---- A result that is the datum, and one that is a length alone

abbrev as_length : ℕ → Result ℕ ReadError
as_length n = Ok n

-- an error is one of any result
other_answer : (A B : Type 0) (e : ReadError) (P Q : Type 0) → (P → Q) → UnlessOutOfMemory (as_error {A = A} e) P → UnlessOutOfMemory (as_error {A = B} e) Q
other_answer A B ReadError.OutOfMemory P Q step h = tt
other_answer A B _ P Q step h = step h

module _ (nodes : List Node) (n : Node) (limits : LimitValues) (bytes : List ℕ) where
  -- a result that stands for a datum stands for it in each weaker way
  pub weakened : {R : Type 0} {stands others : R → Value → Type 0} (result : Result (R × ℕ) ReadError) → ((r : R) (v : Value) → stands r v → others r v)
      → BuildsExactly stands nodes n limits bytes result → BuildsExactly others nodes n limits bytes result
  weakened (Ok r) weaker b = record {
    found = (b.found.0, weaker r.0 b.found.0 b.found.1, b.found.2, b.found.3, b.found.4);
    begins = λ v front rest encoded within split. let h = b.begins v front rest encoded within split in (weaker r.0 v h.0, h.1);
    refused = tt;
    breaks = b.breaks;
    no_front = b.no_front;
  }
  weakened (Err e) weaker b = record { found = tt; begins = b.begins; refused = b.refused; breaks = b.breaks; no_front = b.no_front }

  pub decoded : (result : Result (Datum × ℕ) ReadError) → BuildsExactly IsSeenAs nodes n limits bytes result → ReadsExactly nodes n limits bytes result
  decoded (Ok r) b =
      let seen = b.found.1 in record {
        found = (
          b.found.2,
          subst (λ (v : Value). Encodes nodes n v (take r.1 bytes)) (sym seen) b.found.3,
          subst (λ (v : Value). is_within limits v ≡ true) (sym seen) b.found.4,
        );
        begins = b.begins;
        refused = tt;
        breaks = b.breaks;
        no_front = tt;
      }
  decoded (Err e) b = record { found = tt; begins = b.begins; refused = b.refused; breaks = b.breaks; no_front = b.no_front }

  module _ {R : Type 0} {stands : R → Value → Type 0} where
    pub walked : (r : R) (len : ℕ) → BuildsExactly stands nodes n limits bytes (Ok (r, len)) → WalksExactly nodes n limits bytes (Ok len)
    walked r len b = record {
      found = (b.found.0, b.found.2, b.found.3, b.found.4);
      begins = λ v front rest encoded within split. ap (λ (k : ℕ). as_length k) (b.begins v front rest encoded within split).1;
      refused = tt;
      breaks = b.breaks;
      no_front = tt;
    }

    pub walk_refused : (e : ReadError) → BuildsExactly stands nodes n limits bytes (Err e) → WalksExactly nodes n limits bytes (Err e)
    walk_refused e b = record {
      found = tt;
      begins = λ v front rest encoded within split. other_answer (R × ℕ) ℕ e ⊥ (as_error {A = ℕ} e ≡ as_length (length front)) absurd (b.begins v front rest encoded within split);
      refused = b.refused;
      breaks = λ f h. other_answer (R × ℕ) ℕ e (read_fault e ≡ Some f) (read_fault e ≡ Some f) (λ is. is) (b.breaks f h);
      no_front = b.no_front;
    }
