-- The lines of data, one after another, as they are held and put.
use Rattle.std.proofs.Common.{◌≡◌, ℕ, suc, ◌+◌, ◌<◌, ◌≤◌, false, List, [], ◌++◌, length, take, drop, Result, refl, sym, ap, subst, ◌∙◌, arith, append_assoc, append-nil}
use Rattle.std.specs.Prelude.{MatchResult}
use Rattle.std.proofs.Math.Seq.{take-add}
use Rattle.std.specs.List.{concat}
use Rattle.std.proofs.lemmas.List.{length-drop, take_all, take_at, take-append-drop}
use Rattle.std.proofs.lemmas.Result.{MatchResult-weaker}
use Rattle.avro_schema.specs.Node.{Node}
use Rattle.avro_schema.specs.Value.{Value, Values, no_values}
use Rattle.avro_file.specs.BlockFails.{BlockReading, DataAreWhole}
use Rattle.avro_file.specs.declared.error.CopyError.{CopyError}
use Rattle.avro_file.proofs.public.Data.{add, not_copied, whole-more}
use Rattle.avro_file.proofs.public.Known.{Prefix}
use Rattle.avro_lines.specs.Lines.{line_of, lines_of}
use Rattle.avro_lines.specs.inside.DataShown.{FirstStops, HasShown, HoldsMore, HoldsNext, Puts, PutsOr, PutsSome, ShowsFirst, Stands, first_of, text_of}
use Rattle.avro_lines.proofs.Firsts.{first-split, lines-count, lines-first, made-count, text-add}
use Rattle.avro_lines.proofs.Parts.{part-longer, part-out, puts-after, puts-more, puts-out, puts-still}

-- one datum more is whole
pub whole-next : (r : BlockReading) (done start len : ℕ) (body : List ℕ) (us : Values) (u : Value) → r.copied ≡ false
    → DataAreWhole r done (take start body) us → Stands r (drop start body) len u → DataAreWhole r (done + 1) (take (start + len) body) (add us u)
whole-next r done start len body us u alone before made =
    let whole = whole-more r done (take start body) (take len (drop start body)) us made.datum u before made.encoded made.within made.resolves (not_copied r _ alone) in
    let one : suc done ≡ done + 1 = omega arith in
    subst (λ (n : ℕ). DataAreWhole r n (take (start + len) body) (add us u)) one
    (subst (λ (front : List ℕ). DataAreWhole r (suc done) front (add us u)) (sym (take-add start len body)) whole)

-- it ends inside
pub next-inside : (r : BlockReading) (start len : ℕ) (body : List ℕ) (u : Value) → start ≤ length body → Stands r (drop start body) len u → start + len ≤ length body
next-inside r start len body u inside made = omega (arith, inside, made.in_bytes, length-drop start body)

pub holds-none : (r : BlockReading) (nodes : List Node) (some : Values) (done : ℕ) (front text : List ℕ) → DataAreWhole r done front some
    → HoldsMore r nodes some done front text text
holds-none r nodes some done front text whole = record {
  made = some;
  whole = whole;
  more = [];
  lines = sym (append-nil (text_of nodes some));
  held = sym (append-nil text);
}

pub holds-more : (r : BlockReading) (nodes : List Node) (some : Values) (done start len : ℕ) (body before text after : List ℕ) → r.copied ≡ false
    → HoldsMore r nodes some done (take start body) before text → HoldsNext r nodes (drop start body) len text after
    → HoldsMore r nodes some (done + 1) (take (start + len) body) before after
holds-more r nodes some done start len body before text after alone had next =
    let line = line_of nodes next.datum in
    record {
      made = add had.made next.datum;
      whole = whole-next r done start len body had.made next.datum alone had.whole next.stands;
      more = had.more ++ line;
      lines = text-add nodes had.made next.datum ∙ ap (λ (b : List ℕ). b ++ line) had.lines ∙ append_assoc (text_of nodes some) had.more line;
      held = next.held ∙ ap (λ (b : List ℕ). b ++ line) had.held ∙ append_assoc before had.more line;
    }

-- what was held before is cut off again
pub cut-off : (r : BlockReading) (nodes : List Node) (some : Values) (done count : ℕ) (front before after : List ℕ) → count ≡ length before
    → HoldsMore r nodes some done front before after → take count after ≡ before
cut-off r nodes some done count front before after is had = ap (take count) had.held ∙ take_at before had.more count (sym is)

-- all lines of data that are all of a block
whole-first : (r : BlockReading) (nodes : List Node) (count : ℕ) (body : List ℕ) (made : Values) → DataAreWhole r count body made → text_of nodes made ≡ first_of nodes count made
whole-first r nodes count body made whole =
    let all : length (lines_of nodes made) ≡ count = lines-count nodes made ∙ made-count r.resolve whole.values made whole.resolved ∙ whole.counted in
    ap concat (sym (take_all count (lines_of nodes made) (omega (arith, all))))

-- the first data of a block, when they are as many as are wanted
pub all-first : Prefix → (r : BlockReading) (nodes : List Node) (all count done start : ℕ) (body : List ℕ) (us made : Values) → done ≡ count → count ≤ all
    → DataAreWhole r all body us → DataAreWhole r done (take start body) made → text_of nodes made ≡ first_of nodes count us
all-first prefix r nodes all count done start body us made same few whole front =
    let inside : done ≤ all = omega (arith, same, few) in
    lines-first prefix r nodes all done body (take start body) (drop start body) us made inside whole front (sym (take-append-drop start body))
    ∙ ap (λ (n : ℕ). first_of nodes n us) same

module _ {O : Type 0} (keeps : O → List ℕ → O → Type 0) (failures : O → ℕ) where
  -- more lines are held
  pub shown-held : (r : BlockReading) (nodes : List Node) (some : Values) (done : ℕ) (front : List ℕ) (s t : O) (held left after : List ℕ)
      → Puts keeps failures s held (text_of nodes some) t left → HoldsMore r nodes some done front left after → HasShown keeps failures r nodes done front s held t after
  shown-held r nodes some done front s t held left after puts more = record {
    made = more.made;
    whole = more.whole;
    lines = subst (λ (b : List ℕ). Puts keeps failures s held b t after) (sym more.lines) (puts-more keeps failures s t held (text_of nodes some) left more.more after puts more.held);
  }

  -- the lines that are held of a block's first data
  pub shown-first : ((s : O) → keeps s [] s) → (r : BlockReading) (nodes : List Node) (done : ℕ) (front : List ℕ) (s : O) (held after : List ℕ)
      → HoldsMore r nodes no_values done front held after → HasShown keeps failures r nodes done front s held s after
  shown-first none r nodes done front s held after more =
      shown-held r nodes no_values done front s s held held after (puts-still keeps failures none s held held refl) more

  module _ (chain : (s t u : O) (front back : List ℕ) → keeps s front t → keeps t back u → keeps s (front ++ back) u) where
    -- the line of the next datum was put, and more are held
    pub shown-more : (r : BlockReading) (nodes : List Node) (done start size to end : ℕ) (body : List ℕ) (u : Value) (s t v : O) (held left text after : List ℕ) → r.copied ≡ false
        → HasShown keeps failures r nodes done (take start body) s held t left → Stands r (drop start body) size u
        → Puts keeps failures t left (line_of nodes u) v text
        → ((some : Values) → DataAreWhole r (done + 1) (take (start + size) body) some → HoldsMore r nodes some to (take end body) text after)
        → HasShown keeps failures r nodes to (take end body) s held v after
    shown-more r nodes done start size to end body u s t v held left text after alone had stands puts more =
        let whole = whole-next r done start size body had.made u alone had.whole stands in
        let both = subst (λ (b : List ℕ). Puts keeps failures s held b v text) (sym (text-add nodes had.made u))
        (puts-after keeps failures chain s t v held (text_of nodes had.made) left (line_of nodes u) text had.lines puts) in
        shown-held r nodes (add had.made u) to (take end body) s v held text after both (more (add had.made u) whole)

  module _ (stuck : O → Type 0) where
    -- a part of the next line was put
    pub shown-part : Prefix → (r : BlockReading) (nodes : List Node) (all count done start size : ℕ) (body : List ℕ) (us : Values) (u : Value) (s t : O) (held left : List ℕ) (made : Values) (e : CopyError)
        → r.copied ≡ false → done < count → count ≤ all → DataAreWhole r all body us → DataAreWhole r done (take start body) made → Stands r (drop start body) size u
        → PutsSome keeps failures stuck s held (text_of nodes made ++ line_of nodes u) t left e → PutsSome keeps failures stuck s held (first_of nodes count us) t left e
    shown-part prefix r nodes all count done start size body us u s t held left made e alone less few whole front stands part =
        let next = whole-next r done start size body made u alone front stands in
        let inside : done + 1 ≤ all = omega (arith, less, few) in
        let fewer : done + 1 ≤ count = omega (arith, less) in
        let lines = lines-first prefix r nodes all (done + 1) body (take (start + size) body) (drop (start + size) body) us (add made u) inside whole next (sym (take-append-drop (start + size) body)) in
        subst (λ (b : List ℕ). PutsSome keeps failures stuck s held b t left e) (sym (first-split nodes (done + 1) count us fewer))
        (part-longer keeps failures stuck s t held (first_of nodes (done + 1) us) _ left e
        (subst (λ (b : List ℕ). PutsSome keeps failures stuck s held b t left e) (sym (text-add nodes made u) ∙ lines) part))

    -- the block was walked over, and its first lines were put or are held, or a part of them
    pub shown-walked : {A : Type 0} (r : BlockReading) (nodes : List Node) (number all count : ℕ) (body : List ℕ) (s t : O) (held left : List ℕ) (made : Values) (result : Result A CopyError)
        → DataAreWhole r all body made → PutsOr keeps failures stuck s held (first_of nodes count made) t left result
        → MatchResult result (λ _. ShowsFirst keeps failures r nodes all count body s held t left) (FirstStops keeps failures stuck r nodes number all count body s held t left)
    shown-walked r nodes number all count body s t held left made result whole puts =
        MatchResult-weaker result puts (λ _ lines. record { made = made; whole = whole; lines = lines }) (λ e some. FirstStops.cut made whole some)

    -- all lines of a block were held, and go out
    pub shown-whole : {A : Type 0} → ((s t u : O) (front back : List ℕ) → keeps s front t → keeps t back u → keeps s (front ++ back) u)
        → (r : BlockReading) (nodes : List Node) (number count done start : ℕ) (body : List ℕ) (s t v : O) (held text left : List ℕ) (result : Result A CopyError)
        → done ≡ count → start ≡ length body → HasShown keeps failures r nodes done (take start body) s held t text
        → MatchResult result (λ _. Puts keeps failures t text [] v left) (λ e. (e ≡ CopyError.OutputFailed) × PutsSome keeps failures stuck t text [] v left e)
        → MatchResult result (λ _. ShowsFirst keeps failures r nodes count count body s held v left) (FirstStops keeps failures stuck r nodes number count count body s held v left)
    shown-whole chain r nodes number count done start body s t v held text left result same all had out =
        let front : take start body ≡ body = ap (λ (n : ℕ). take n body) all ∙ take_all (length body) body (omega arith) in
        let whole = subst (λ (n : ℕ). DataAreWhole r n body had.made) same (subst (λ (b : List ℕ). DataAreWhole r done b had.made) front had.whole) in
        let lines = subst (λ (b : List ℕ). Puts keeps failures s held b t text) (whole-first r nodes count body had.made whole) had.lines in
        shown-walked r nodes number count count body s v held left had.made result whole
        (MatchResult-weaker result out (λ _ more. puts-out keeps failures chain s t v held (first_of nodes count had.made) text left lines more)
        (λ e more. part-out keeps failures stuck chain s t v held (first_of nodes count had.made) text left e lines more.1))
