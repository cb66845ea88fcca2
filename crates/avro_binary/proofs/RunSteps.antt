-- A call that reads items one by one: one more item, and one that breaks.
use Rattle.std.proofs.Common.{◌≡◌, ℕ, ◌<◌, true, List, [], ◌∷◌, ◌++◌, length, Option, Some, None, refl, sym, ap, ◌∙◌, subst, append_assoc, append-nil, length-append, arith}
use Rattle.std.specs.Prelude.{bytes_eq}
use Rattle.std.specs.Option.{IfSome}
use Rattle.std.specs.List.{concat}
use Rattle.std.proofs.lemmas.List.Folds.{concat-append}
use Rattle.avro_schema.specs.Value.{Value}
use Rattle.avro_schema.specs.Node.{Node}
use Rattle.avro_schema.specs.Fits.{LimitValues}
use Rattle.avro_schema.specs.Distinct.{are_distinct}
use Rattle.avro_cursor.specs.Fault.{ReadFault, behind}
use Rattle.avro_cursor.specs.Breaks.{BreaksWithin, KeyBreaks, key_breaks, value_breaks as value_of_entry_breaks}
use Rattle.avro_cursor.specs.Seen.{read_fault}
use Rattle.avro_cursor.specs.CursorValue.{CursorValue, Passes}
use Rattle.avro_cursor.specs.Elements.{IsKey}
use Rattle.avro_binary.specs.CursorReads.{Moves, FindsValue, ReportsFault, left_at, ValuesRun, EntriesRun, value_breaks, entry_breaks, FindsRun, RunBreaks}
use Rattle.avro_cursor.specs.declared.error.ReadError.{ReadError}
use Rattle.avro_cursor.proofs.public.ElementLaws.{is_text-from_string}
use Rattle.avro_cursor.proofs.public.Behind.{behind-add}
use Rattle.avro_binary.proofs.RunLaws.{Kind}
use Rattle.avro_binary.proofs.public.Distinct.{distinct-push}

-- ---- Moves

pub moves-none : (at : CursorValue) → Moves at [] at
moves-none at = record { split = refl; offset = omega arith; depth = refl; blob = refl }

pub moves-passed : (before after : CursorValue) (front : List ℕ) → Passes before front after → Moves before front after
moves-passed before after front p = record { split = p.split; offset = p.offset; depth = p.depth; blob = p.blob }

pub moves-join : (a b c : CursorValue) (front more : List ℕ) → Moves a front b → Moves b more c → Moves a (front ++ more) c
moves-join a b c front more m k = record {
  split = m.split ∙ ap (λ (rest : List ℕ). front ++ rest) k.split ∙ sym (append_assoc front more c.bytes);
  offset = let p = m.offset in let q = k.offset in omega (arith, length-append front more);
  depth = k.depth ∙ m.depth;
  blob = k.blob ∙ m.blob;
}

pub moves-same : (a b : CursorValue) (front same : List ℕ) → front ≡ same → Moves a front b → Moves a same b
moves-same a b front same e m = subst (λ (f : List ℕ). Moves a f b) e m

-- ---- Faults after bytes

pub some_map : {A : Type 0} (o : Option A) (P Q : A → Type 0) → ((x : A) → P x → Q x) → IfSome o P → IfSome o Q
some_map None P Q f p = p
some_map (Some x) P Q f p = f x p

-- a fault of the bytes after others is one of those
pub report_moved : (a b : CursorValue) (front : List ℕ) (e : ReadError) (P Q : List ℕ → ReadFault → Type 0) → Moves a front b
    → ((f : ReadFault) → P b.bytes f → Q a.bytes (behind (length front) f)) → ReportsFault P b e → ReportsFault Q a e
report_moved a b front e P Q m step reported =
    some_map (read_fault e) (λ fault. (f : ReadFault) × P b.bytes f × (fault ≡ behind b.offset f)) (λ fault. (f : ReadFault) × Q a.bytes f × (fault ≡ behind a.offset f))
    (λ fault r. (
      behind (length front) r.0,
      step r.0 r.1,
      r.2 ∙ ap (λ (p : ℕ). behind p r.0) m.offset ∙ behind-add a.offset (length front) r.0,
    )) reported

-- the same of bytes in place
pub report_same : (a : CursorValue) (e : ReadError) (P Q : List ℕ → ReadFault → Type 0) → ((f : ReadFault) → P a.bytes f → Q a.bytes f)
    → ReportsFault P a e → ReportsFault Q a e
report_same a e P Q step reported =
    some_map (read_fault e) (λ fault. (f : ReadFault) × P a.bytes f × (fault ≡ behind a.offset f)) (λ fault. (f : ReadFault) × Q a.bytes f × (fault ≡ behind a.offset f))
    (λ fault r. (r.0, step r.0 r.1, r.2)) reported

-- what breaks within limits breaks within the same limits
pub breaks_within-same : (nodes : List Node) (d d' c b b' : ℕ) (n : Node) (bytes : List ℕ) (f : ReadFault) → d ≡ d' → b ≡ b'
    → BreaksWithin nodes d c b n bytes f → BreaksWithin nodes d' c b' n bytes f
breaks_within-same nodes d d' c b b' n bytes f p q h =
    subst (λ (depth : ℕ). BreaksWithin nodes depth c b' n bytes f) p (subst (λ (blob : ℕ). BreaksWithin nodes d c blob n bytes f) q h)

-- ---- Runs

module _ {E : Type 0} (kind : Kind E) where
  pub run_none : (at : CursorValue) (keys : List (List ℕ)) → kind.ready (left_at at keys) → FindsRun kind.run at at keys keys []
  run_none at keys h = record { items = []; stand = kind.laws.none (left_at at keys) h; moves = moves-none at }

  module _ {a b : CursorValue} {keys then_keys : List (List ℕ)} {xs : List E} (found : FindsRun kind.run a b keys then_keys xs) where
    -- one more item
    pub run_push : (c : CursorValue) (last_keys : List (List ℕ)) (x : E) (item : List ℕ) → kind.run (left_at b then_keys) (x ∷ []) (item ∷ []) (left_at c last_keys)
        → Moves b item c → FindsRun kind.run a c keys last_keys (xs ++ x ∷ [])
    run_push c last_keys x item one moves = record {
      items = found.items ++ item ∷ [];
      stand = kind.laws.joins (left_at a keys) (left_at b then_keys) (left_at c last_keys) xs (x ∷ []) found.items (item ∷ []) found.stand one;
      moves = moves-same a c (concat found.items ++ item) (concat (found.items ++ item ∷ []))
          (sym (concat-append found.items (item ∷ []) ∙ ap (λ (q : List ℕ). concat found.items ++ q) (append-nil item)))
          (moves-join a b c (concat found.items) item found.moves moves);
    }

    -- the next item breaks
    pub run_breaks : (count : ℕ) (e : ReadError) → length xs < count → ReportsFault (kind.item_breaks (left_at b then_keys)) b e
        → ReportsFault (RunBreaks kind.run kind.item_breaks (left_at a keys) count) a e
    run_breaks count e few reported =
        report_moved a b (concat found.items) e (kind.item_breaks (left_at b then_keys)) (RunBreaks kind.run kind.item_breaks (left_at a keys) count) found.moves
        (λ f h. record {
          xs = xs;
          items = found.items;
          then_left = left_at b then_keys;
          few = few;
          stand = found.stand;
          next = record { rest = b.bytes; fault = f; split = found.moves.split; breaks = h; moved = refl };
        }) reported

-- one item of an array
module _ (nodes : List Node) (limits : LimitValues) (n : Node) where
  pub value_run : (b c : CursorValue) (keys : List (List ℕ)) (v : Value) (found : FindsValue nodes n b c v) → limits.depth ≡ b.depth → limits.blob ≡ b.blob
      → ValuesRun nodes limits n (left_at b keys) (v ∷ []) (found.front ∷ []) (left_at c keys)
  value_run b c keys v found d l = record {
    fitting = rw (found.encoded.fitting) refl;
    spelled = (found.front, [], found.encoded.spelled, refl, refl);
    deep = let h = found.deep in omega arith;
    many = let h = found.many in omega arith;
    long = let h = found.long in omega arith;
    keys = refl;
  }

  pub value_report : (b : CursorValue) (keys : List (List ℕ)) (e : ReadError) → limits.depth ≡ b.depth → limits.blob ≡ b.blob
      → ReportsFault (BreaksWithin nodes b.depth b.nodes b.blob n) b e → ReportsFault (value_breaks nodes limits n (left_at b keys)) b e
  value_report b keys e d l reported =
      report_same b e (BreaksWithin nodes b.depth b.nodes b.blob n) (value_breaks nodes limits n (left_at b keys))
      (λ f h. breaks_within-same nodes b.depth limits.depth b.nodes b.blob limits.blob n b.bytes f (sym d) (sym l) h) reported

  -- one entry of a map
  pub entry_run : (a b c : CursorValue) (keys : List (List ℕ)) (key front : List ℕ) (v : Value) (found : FindsValue nodes n b c v) → are_distinct bytes_eq keys ≡ true
      → IsKey keys a.blob key front → Passes a front b → limits.depth ≡ a.depth → limits.blob ≡ a.blob
      → EntriesRun nodes limits n (left_at a keys) ((key, v) ∷ []) ((front ++ found.front) ∷ []) (left_at c (keys ++ key ∷ []))
  entry_run a b c keys key front v found distinct is passes d l = record {
    texts = rw (is_text-from_string a.blob key front is.0) refl;
    distinct = distinct-push keys key distinct is.1;
    fitting = rw (found.encoded.fitting) refl;
    spelled = (front, found.front, [], is.0.spelled, found.encoded.spelled, refl, refl);
    deep = let h = found.deep in let p = passes.depth in omega arith;
    many = let h = found.many in let p = passes.nodes in omega arith;
    long = let h = found.long in let p = passes.blob in let w = is.0.within in omega arith;
    keys = refl;
  }

  -- the key of an entry breaks, or its value after the key
  pub key_report : (a : CursorValue) (keys : List (List ℕ)) (e : ReadError) → limits.blob ≡ a.blob → ReportsFault (KeyBreaks keys a.blob) a e
      → ReportsFault (entry_breaks nodes limits n (left_at a keys)) a e
  key_report a keys e l reported =
      report_same a e (KeyBreaks keys a.blob) (entry_breaks nodes limits n (left_at a keys))
      (λ f h. key_breaks (subst (λ (blob : ℕ). KeyBreaks keys blob a.bytes f) (sym l) h)) reported

  pub entry_report : (a b : CursorValue) (keys : List (List ℕ)) (key front : List ℕ) (e : ReadError) → IsKey keys a.blob key front → Passes a front b
      → limits.depth ≡ a.depth → limits.blob ≡ a.blob → ReportsFault (BreaksWithin nodes b.depth b.nodes b.blob n) b e
      → ReportsFault (entry_breaks nodes limits n (left_at a keys)) a e
  entry_report a b keys key front e is passes d l reported =
      report_moved a b front e (BreaksWithin nodes b.depth b.nodes b.blob n) (entry_breaks nodes limits n (left_at a keys)) (moves-passed a b front passes)
      (λ f h. value_of_entry_breaks key front is.0.spelled (is_text-from_string a.blob key front is.0) (let w = is.0.within in omega arith) is.1 (record {
        rest = b.bytes;
        fault = f;
        split = passes.split;
        breaks = subst (λ (left : ℕ). BreaksWithin nodes limits.depth left limits.blob n b.bytes f) passes.nodes
            (breaks_within-same nodes b.depth limits.depth b.nodes b.blob limits.blob n b.bytes f (passes.depth ∙ sym d) (passes.blob ∙ sym l) h);
        moved = refl;
      })) reported
