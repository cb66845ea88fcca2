-- The data of a block, one by one.
use Rattle.std.proofs.Common.{◌≡◌, ℕ, suc, ◌+◌, ◌^◌, ◌<◌, ◌≤◌, true, false, ◌&&◌, List, [], ◌∷◌, ◌++◌, length, take, drop, Option, Some, None, Ok, Err, refl, sym, ap, subst, ◌∙◌, arith, append_assoc, append-nil}
use Rattle.std.specs.Prelude.{option_map}
use Rattle.std.specs.List.{concat}
use Rattle.std.specs.Option.{IfSome}
use Rattle.std.proofs.lemmas.Bool.{and_parts, false≢true}
use Rattle.std.proofs.lemmas.List.{take-append-drop, length-take-le, length-drop}
use Rattle.std.proofs.lemmas.List.Folds.{concat-append}
use Rattle.std.proofs.Math.Seq.{take-add}
use Rattle.std.proofs.lemmas.Option.{same_Some, none-some}
use Rattle.avro_schema.specs.Value.{Value, Values, no_values, value, values_count}
use Rattle.avro_schema.specs.Node.{Node, root_of}
use Rattle.avro_schema.specs.Seen.{values_from}
use Rattle.avro_schema.specs.Fits.{LimitValues, fits, each_fits, is_within}
use Rattle.avro_cursor.specs.Encoding.{EachSpelled, Encodes, Spells, plain_values}
use Rattle.avro_cursor.specs.Fault.{ReadFault, behind}
use Rattle.avro_cursor.specs.Breaks.{Breaks}
use Rattle.avro_cursor.specs.Seen.{read_fault}
use Rattle.avro_binary.proofs.public.Zipped.{zipped-push}
use Rattle.avro_compare.specs.Resolve.{Resolved}
use Rattle.avro_compare.specs.Seen.{fault_of}
use Rattle.avro_resolve.specs.declared.error.ReadResolveError.{ReadResolveError}
use Rattle.avro_file.specs.BlockFails.{BlockReading, DataAreWhole, DataFail, IsNotTooMuch, datum_fault, each_within, DatumStands}
use Rattle.avro_file.specs.Copied.{EachResolved}
use Rattle.avro_file.specs.DataRead.{IsDataFault, StandForData}
use Rattle.avro_file.specs.DatumRead.{MakesOf, PlaceFits, ReadsDatum, error_fault}
use Rattle.avro_file.specs.FileFault.{FileFault, in_block, bytes_left, unresolved_datum}
use Rattle.avro_file.proofs.Places.{breaks_inside}

-- ---- One more datum after others

abbrev pub add : Values → Value → Values
add no_values v = value v no_values
add (value w vs) v = value w (add vs v)

pub values_from-add : (vs : List Value) (v : Value) → values_from (vs ++ v ∷ []) ≡ add (values_from vs) v
values_from-add [] v = refl
values_from-add (w ∷ vs) v = ap (value w) (values_from-add vs v)

count-add : (vs : Values) (v : Value) → values_count (add vs v) ≡ suc (values_count vs)
count-add no_values v = refl
count-add (value w vs) v = ap suc (count-add vs v)

fit-add : (nodes : List Node) (n : Node) (vs : Values) (v : Value) → each_fits nodes n vs ≡ true → fits nodes n v ≡ true → each_fits nodes n (add vs v) ≡ true
fit-add nodes n no_values v h fit = ap (λ b. b && true) fit
fit-add nodes n (value w vs) v h fit =
    let parts = and_parts (fits nodes n w) (each_fits nodes n vs) h in
    ap (λ b. b && each_fits nodes n (add vs v)) parts.0 ∙ fit-add nodes n vs v parts.1 fit

within-add : (limits : LimitValues) (vs : Values) (v : Value) → each_within limits vs ≡ true → is_within limits v ≡ true → each_within limits (add vs v) ≡ true
within-add limits no_values v h within = ap (λ b. b && true) within
within-add limits (value w vs) v h within =
    let parts = and_parts (is_within limits w) (each_within limits vs) h in
    ap (λ b. b && each_within limits (add vs v)) parts.0 ∙ within-add limits vs v parts.1 within

spelled-add : (vs : Values) (items : List (List ℕ)) (v : Value) (bytes : List ℕ) → EachSpelled vs items → Spells v bytes
    → EachSpelled (add vs v) (items ++ bytes ∷ [])
spelled-add no_values items v bytes h spelled = (bytes, [], spelled, refl, ap (λ xs. xs ++ bytes ∷ []) h)
spelled-add (value w vs) items v bytes h spelled =
    (h.0, h.1 ++ bytes ∷ [], h.2, spelled-add vs h.1 v bytes h.3 spelled, ap (λ xs. xs ++ bytes ∷ []) h.4)

resolved-add : (resolve : Value → Resolved) (vs us : Values) (v u : Value) → EachResolved resolve vs us → resolve v ≡ Ok u
    → EachResolved resolve (add vs v) (add us u)
resolved-add resolve no_values us v u h made = (u, no_values, made, refl, ap (λ xs. add xs u) h)
resolved-add resolve (value w vs) us v u h made =
    (h.0, add h.1 u, h.2, resolved-add resolve vs h.1 v u h.3 made, ap (λ xs. add xs u) h.4)

-- ---- Data that stand whole

pub whole-none : (r : BlockReading) → DataAreWhole r 0 [] no_values
whole-none r = record {
  values = no_values;
  items = [];
  counted = refl;
  fitting = refl;
  spelled = refl;
  bytes_are = refl;
  within = refl;
  resolved = refl;
  small = λ _. omega arith;
}

pub whole-more : (r : BlockReading) (done : ℕ) (front bytes : List ℕ) (us : Values) (v u : Value) → DataAreWhole r done front us
    → Encodes r.nodes (root_of r.nodes) v bytes → is_within r.limits.datum v ≡ true → r.resolve v ≡ Ok u → IsNotTooMuch r (plain_values (add us u))
    → DataAreWhole r (suc done) (front ++ bytes) (add us u)
whole-more r done front bytes us v u whole encoded within made small = record {
  values = add whole.values v;
  items = whole.items ++ bytes ∷ [];
  counted = count-add whole.values v ∙ ap suc whole.counted;
  fitting = fit-add r.nodes (root_of r.nodes) whole.values v whole.fitting encoded.fitting;
  spelled = spelled-add whole.values whole.items v bytes whole.spelled encoded.spelled;
  bytes_are = ap (λ xs. xs ++ bytes) whole.bytes_are ∙ ap (λ xs. concat whole.items ++ xs) (sym (append-nil bytes))
      ∙ sym (concat-append whole.items (bytes ∷ []));
  within = within-add r.limits.datum whole.values v whole.within within;
  resolved = resolved-add r.resolve whole.values us v u whole.resolved made;
  small = small;
}

-- where nothing is copied, nothing is too much
pub not_copied : (r : BlockReading) (bytes : List ℕ) → r.copied ≡ false → IsNotTooMuch r bytes
not_copied r bytes alone = λ copied. absurd (false≢true (sym alone ∙ copied))

-- what is made of the next datum stands after what was made
pub stand-more : {O : Type 0} (stands : O → Value → Type 0) (r : BlockReading) (done start len : ℕ) (body : List ℕ) (outs : List O) (out : O)
    → r.copied ≡ false → StandForData stands r done (take start body) outs
    → (u : Value) × stands out u × MakesOf r.nodes r.limits.datum r.resolve (drop start body) len (Ok u)
    → StandForData stands r (done + 1) (take (start + len) body) (outs ++ out ∷ [])
stand-more stands r done start len body outs out alone before found =
    let u = found.0 in
    let made = found.2 in
    let next = take len (drop start body) in
    let whole = whole-more r done (take start body) next (values_from before.values) made.datum u before.whole made.encoded made.within made.resolves (not_copied r _ alone) in
    let one : suc done ≡ done + 1 = omega arith in
    record {
      values = before.values ++ u ∷ [];
      whole = subst (λ us. DataAreWhole r (done + 1) (take (start + len) body) us) (sym (values_from-add before.values u))
          (subst (λ n. DataAreWhole r n (take (start + len) body) (add (values_from before.values) u)) one
          (subst (λ front. DataAreWhole r (suc done) front (add (values_from before.values) u)) (sym (take-add start len body)) whole));
      stand = zipped-push stands outs before.values out u before.stand found.1;
    }

-- what is made of data that fit fits too, where that holds of each
pub each-fit : (nodes target : List Node) (resolve : Value → Resolved) (vs us : Values)
    → ((v u : Value) → fits nodes (root_of nodes) v ≡ true → resolve v ≡ Ok u → fits target (root_of target) u ≡ true)
    → each_fits nodes (root_of nodes) vs ≡ true → EachResolved resolve vs us → each_fits target (root_of target) us ≡ true
each-fit nodes target resolve no_values us law fit e = ap (each_fits target (root_of target)) e
each-fit nodes target resolve (value v vs) us law fit (first, others, made, more, e) =
    let parts = and_parts (fits nodes (root_of nodes) v) (each_fits nodes (root_of nodes) vs) fit in
    ap (each_fits target (root_of target)) e ∙ ap (λ b. b && each_fits target (root_of target) others) (law v first parts.0 made)
    ∙ each-fit nodes target resolve vs others law parts.1 more

-- ---- Faults

-- a datum that is not an encoding, after data that are whole
data_break : (r : BlockReading) (number count m start : ℕ) (body : List ℕ) (us : Values) (g : ReadFault) (f : FileFault) → m < count → start ≤ length body
    → DataAreWhole r m (take start body) us → Breaks r.nodes r.limits.datum (root_of r.nodes) (drop start body) g
    → Some (in_block number (datum_fault m (behind start g))) ≡ Some f → IsDataFault r number count body f
data_break r number count m start body us g f few inside whole breaks is = (
  datum_fault m (behind start g),
  sym (same_Some _ _ is),
  DataFail.datum_breaks m (take start body) us (behind start g) few whole
      (record {
        rest = drop start body;
        fault = g;
        split = sym (take-append-drop start body);
        breaks = breaks;
        moved = ap (λ n. behind n g) (sym (length-take-le start body inside));
      }) refl,
)

-- the datum after data that are whole, of which something was made
pub datum_stands : (r : BlockReading) (start len : ℕ) (body : List ℕ) (outcome : Resolved) (made : MakesOf r.nodes r.limits.datum r.resolve (drop start body) len outcome)
    → DatumStands r (take start body) body made.datum
datum_stands r start len body outcome made = record {
  bytes = take len (drop start body);
  rest = drop len (drop start body);
  encoded = made.encoded;
  within = made.within;
  split = sym (take-append-drop start body) ∙ ap (λ rest. take start body ++ rest) (sym (take-append-drop len (drop start body)))
      ∙ sym (append_assoc (take start body) (take len (drop start body)) (drop len (drop start body)));
}

pub datum_fails : {O : Type 0} (stands : O → Value → Type 0) (r : BlockReading) (number count m start : ℕ) (body : List ℕ) (us : Values) (e : ReadResolveError) (f : FileFault)
    → m < count → start ≤ length body → DataAreWhole r m (take start body) us
    → ReadsDatum stands r.nodes r.limits.datum r.resolve (drop start body) (Err e) → error_fault number m start e ≡ Some f → IsDataFault r number count body f
datum_fails stands r number count m start body us (ReadResolveError.Read e) f few inside whole reads is = go (read_fault e) reads.refused is
  where
    go : (told : Option ReadFault) → IfSome told (Breaks r.nodes r.limits.datum (root_of r.nodes) (drop start body))
        → option_map (λ g. in_block number (datum_fault m (behind start g))) told ≡ Some f → IsDataFault r number count body f
    go None breaks is = absurd (none-some f is)
    go (Some g) breaks is = data_break r number count m start body us g f few inside whole breaks is
datum_fails stands r number count m start body us (ReadResolveError.Resolve e) f few inside whole reads is =
    let len = reads.faulty.0 in
    let made = reads.faulty.1 in (
      unresolved_datum m (fault_of e),
      sym (same_Some _ _ is),
      DataFail.datum_unresolved m (take start body) us made.datum (fault_of e) few whole
          (datum_stands r start len body _ made) made.resolves,
    )

-- what is said of a schema, limits and bytes goes over to the same ones
pub same_said : (P : List Node → LimitValues → List ℕ → Type 0) (ns ms : List Node) (l k : LimitValues) (xs ys : List ℕ) → ns ≡ ms → l ≡ k → xs ≡ ys
    → P ns l xs → P ms k ys
same_said P ns ms l k xs ys p q e h = subst (λ n. P n k ys) p (subst (λ a. P ns a ys) q (subst (λ b. P ns l b) e h))

-- the offset of its fault is among the data
pub datum_place : {O : Type 0} (stands : O → Value → Type 0) (nodes : List Node) (limits : LimitValues) (resolve : Value → Resolved) (start : ℕ) (bytes : List ℕ) (e : ReadResolveError)
    → ReadsDatum stands nodes limits resolve bytes (Err e) → start + length bytes < 2 ^ 64 → PlaceFits start e
datum_place stands nodes limits resolve start bytes e reads small = grind (arith, breaks_inside)

-- no data are made of no bytes
pub stand-none : {O : Type 0} (stands : O → Value → Type 0) (r : BlockReading) (outs : List O) → outs ≡ [] → StandForData stands r 0 [] outs
stand-none stands r outs none = grind (arith, whole-none)

-- bytes after all data
pub data_left : (r : BlockReading) (number count start : ℕ) (body : List ℕ) (us : Values) (f : FileFault) → DataAreWhole r count (take start body) us → start < length body
    → Some (in_block number bytes_left) ≡ Some f → IsDataFault r number count body f
data_left r number count start body us f whole more is = (
  bytes_left,
  sym (same_Some _ _ is),
  DataFail.some_left (take start body) (drop start body) us whole (sym (take-append-drop start body)) (omega (arith, more, length-drop start body)),
)

-- one datum more, of which nothing is made
pub walk-more : (r : BlockReading) (done start len : ℕ) (body : List ℕ) (us : Values) → r.copied ≡ false → DataAreWhole r done (take start body) us
    → (u : Value) × Unit {0} × MakesOf r.nodes r.limits.datum r.resolve (drop start body) len (Ok u)
    → (vs : Values) × DataAreWhole r (done + 1) (take (start + len) body) vs
walk-more r done start len body us alone before found =
    let u = found.0 in
    let made = found.2 in
    let whole = whole-more r done (take start body) (take len (drop start body)) us made.datum u before made.encoded made.within made.resolves (not_copied r _ alone) in
    let one : suc done ≡ done + 1 = omega arith in (
      add us u,
      subst (λ n. DataAreWhole r n (take (start + len) body) (add us u)) one
          (subst (λ front. DataAreWhole r (suc done) front (add us u)) (sym (take-add start len body)) whole),
    )
