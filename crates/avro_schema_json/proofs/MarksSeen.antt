-- The marks of JSON as those of its parts are kept.
use Rattle.avro_schema_json.proofs.Words.{◌≡◌, [], ℕ, zero, suc, ◌+◌, true, List, ◌∷◌, ◌++◌, length, length-append, Option, Some, None, get_or, refl, sym, ap, subst, ◌∙◌, ◌<◌, ◌⊎◌, inl, inr, arith, unwrap_or, none-some, same_Some, Node, Data, get_item, view, items_view, Tree, get_item_within, place_of, Covers, part_at, IsPartUnder, IsSetOf, IsMarked, marked, Stays, ArePartsMarked, Label, Numbered, IsStep, AreParents, IsWithin, Parents, has_parent_of, label_of, has_place, Follows, LeadsTo, AreSteps, KeepsEither, Mark}
use Rattle.std.specs.Prelude.{slice_get, Result, Ok, Err, IfOk}
use Rattle.avro_schema_json.specs.inside.Parents.{number_of}
use Rattle.avro_schema_json.specs.inside.Sets.{row_at, KeepsRows}
use Rattle.avro_schema_json.specs.inside.Tables.{AreTables}
use Rattle.avro_schema_json.specs.declared.defaults.parts.Marks.{Marks}
use Rattle.avro_schema_json.specs.declared.defaults.sets.Sets.{Sets}
use Rattle.avro_schema_json.specs.declared.defaults.steps.Memo.{Memo}
use Rattle.avro_schema_json.specs.declared.defaults.tables.Tables.{Tables}
use Rattle.avro_schema_json.proofs.CoversSeen.{array-covered, object-covered}
use Rattle.avro_schema_json.proofs.EachSeen.{append-before, append-at}

-- ---- one mark

pub marked-set : (nodes : List Node) (last : ℕ) (marks : Marks) (d : Data) (m : Mark) → IsMarked nodes last marks d m → IsSetOf nodes last marks.memo.sets d m.set
marked-set nodes last marks d m (marked set ends parts) = set

pub still-marked : (nodes : List Node) (last : ℕ) (before after : Marks) (d : Data) (m : Mark) → Stays before after → IsMarked nodes last before d m
    → IsMarked nodes last after d m
still-marked nodes last before after d m stays (marked set ends parts) =
    marked (set.0, stays.rows m.set set.0 set.1, set.2) (omega (arith, ends, stays.longer))
    (λ j e p below here at. still-marked nodes last before after e p stays
    (parts j e p below here (sym (stays.marks (m.parts + j) (omega (arith, ends, below))) ∙ at)))

-- ---- what stays

pub stays-twice : (one two three : Marks) → Stays one two → Stays two three → Stays one three
stays-twice one two three first second = record {
  rows = λ n row at. second.rows n row (first.rows n row at);
  longer = omega (arith, first.longer, second.longer);
  marks = λ i below. second.marks i (omega (arith, below, first.longer)) ∙ first.marks i below;
}

pub stays-appended : (before after : Marks) (ps : List Mark) → KeepsRows before.memo.sets after.memo.sets → after.all.items ≡ before.all.items ++ ps → Stays before after
stays-appended before after ps kept appended = grind (arith, append-before, length-append)

-- ---- marks of parts

pushed : (ps : List Mark) (p : Mark) (i : ℕ) (q : Mark) → slice_get (ps ++ p ∷ []) i ≡ Some q → (slice_get ps i ≡ Some q) ⊎ ((length ps ≡ i) × (p ≡ q))
pushed [] p zero q h = inr (refl, cc)
pushed [] p (suc i) q h = inl h
pushed (x ∷ ps) p zero q h = inl h
pushed (x ∷ ps) p (suc i) q h = elim (pushed ps p i q h) [
  | inl before ↦ inl before
  | inr last ↦ inr (ap suc last.0, last.1)
]

-- one more part
pub parts-push : (nodes : List Node) (last : ℕ) (before after : Marks) (d : Data) (ps : List Mark) (p : Mark) (e : Data) → Stays before after
    → ArePartsMarked nodes last before d ps → part_at (length ps) d ≡ Some e → IsMarked nodes last after e p → ArePartsMarked nodes last after d (ps ++ p ∷ [])
parts-push nodes last before after d ps p e stays good here this = grind (arith, pushed, same_Some, still-marked)

-- what holds parts
pub whole-marked : (nodes : List Node) (last : ℕ) (before after : Marks) (d : Data) (row : List ℕ) (ps : List Mark) (m : Mark) → Stays before after
    → after.all.items ≡ before.all.items ++ ps → row_at after.memo.sets m.set ≡ Some row → m.parts ≡ length before.all.items → m.count ≡ length ps
    → Covers nodes last d row → ArePartsMarked nodes last before d ps → IsMarked nodes last after d m
whole-marked nodes last before after d row ps m stays appended found first count covers parts =
    marked (row, found, covers) (rw appended (omega (arith, length-append before.all.items ps, first, count)))
    (λ j e p below here at. still-marked nodes last before after e p stays
    (parts j e p here (sym (append-at before.all.items ps m.parts j first) ∙ ap (λ xs. slice_get xs (m.parts + j)) (sym appended) ∙ at)))

-- what is so of JSON while its parts are marked one after another
pub record Gathers (tables : Tables) (d : Data) (start now : Marks) (first row : List ℕ) (ps : List Mark) : Type 0 where
  pub steps : AreSteps tables.parents now.memo
  pub stays : Stays start now
  pub covers : (nodes : List Node) → AreTables nodes tables → Covers nodes tables.last d first → Covers nodes tables.last d row
  pub parts : (nodes : List Node) → AreTables nodes tables → ArePartsMarked nodes tables.last now d ps

pub gathers-none : (tables : Tables) (d : Data) (marks : Marks) (row : List ℕ) → AreSteps tables.parents marks.memo
    → Gathers tables d marks marks row row []
gathers-none tables d marks row steps = grind (arith, none-some)

pub gathers-next : (tables : Tables) (d e : Data) (start now after : Marks) (memo : Memo) (first row next : List ℕ) (ps : List Mark) (mark : Mark) (label : ℕ)
    → Gathers tables d start now first row ps → Stays now after → ((nodes : List Node) → AreTables nodes tables → IsMarked nodes tables.last after e mark)
    → AreSteps tables.parents memo → KeepsRows after.memo.sets memo.sets
    → ((nodes : List Node) (f g : Data) → AreTables nodes tables → IsPartUnder tables.labels label f g → IsSetOf nodes tables.last after.memo.sets g mark.set
    → Covers nodes tables.last f row → Covers nodes tables.last f next)
    → IsPartUnder tables.labels label d e → part_at (length ps) d ≡ Some e → Gathers tables d start (record { memo = memo; all = after.all }) first next (ps ++ mark ∷ [])
gathers-next tables d e start now after memo first row next ps mark label so stays this steps kept keeps under here = record {
  steps = steps;
  stays = stays-twice start now later so.stays later_stays;
  covers = λ nodes are begun. keeps nodes d e are under (marked-set nodes tables.last after e mark (this nodes are)) (so.covers nodes are begun);
  parts = λ nodes are. parts-push nodes tables.last now later d ps mark e later_stays (so.parts nodes are) here
      (still-marked nodes tables.last after later e mark memo_stays (this nodes are));
}
  where
    later : Marks
    later = record { memo = memo; all = after.all }

    memo_stays : Stays after later
    memo_stays = record { rows = kept; longer = omega arith; marks = λ i below. refl }

    later_stays : Stays now later
    later_stays = stays-twice now after later stays memo_stays

pub gathered : {E : Type 0} (r : Result Mark E) (tables : Tables) (d : Data) (start now after : Marks) (first row words : List ℕ) (ps qs : List Mark)
    → Gathers tables d start now first words ps → row ≡ words → qs ≡ ps
    → IfOk r (λ mark. (nodes : List Node) (last : ℕ) (f : Data) → Covers nodes last f row → ArePartsMarked nodes last now f qs → IsMarked nodes last after f mark)
    → IfOk r (λ mark. (nodes : List Node) → AreTables nodes tables → Covers nodes tables.last d first → IsMarked nodes tables.last after d mark)
gathered (Ok m) tables d start now after first row words ps qs so same equal all = λ nodes are begun.
    all nodes tables.last d (subst (Covers nodes tables.last d) (sym same) (so.covers nodes are begun)) (subst (ArePartsMarked nodes tables.last now d) (sym equal) (so.parts nodes are))
gathered (Err e) tables d start now after first row words ps qs so same equal all = tt

-- what a row covers is marked
pub covered-marked : {E : Type 0} (r : Result Mark E) (tables : Tables) (after : Marks) (d e : Data) (row : List ℕ) → d ≡ e
    → ((nodes : List Node) → AreTables nodes tables → Covers nodes tables.last d row)
    → IfOk r (λ mark. (nodes : List Node) → AreTables nodes tables → Covers nodes tables.last e row → IsMarked nodes tables.last after e mark)
    → IfOk r (λ mark. (nodes : List Node) → AreTables nodes tables → IsMarked nodes tables.last after d mark)
covered-marked r tables after d e row same covers all = grind arith

-- an item at an index
pub item-at : (xs ys : List Tree) (i j : ℕ) (x : Tree) → xs ≡ ys → j ≡ i → i < length xs → x ≡ get_or xs i x → get_item j (items_view ys) ≡ Some (view x)
item-at xs ys i j x same number below at = grind (arith, get_item_within)

-- ---- steps

-- the parents of what a row has
stepped : (nodes : List Node) (last : ℕ) (labels : Numbered) (parents : Parents) (label : Label) (k : ℕ) (row found : List ℕ)
    → AreParents nodes last labels parents → number_of labels label ≡ Some k → Follows parents k row found → IsStep nodes last label row found
stepped nodes last labels parents label k row found are is follows = λ x t y part own there.
    let parent = are x label t y part own in
    let number_is : parent.0 ≡ k = same_Some parent.0 k (sym parent.1 ∙ is) in
    follows (place_of last y) (place_of last x) there
    (subst (λ (q : ℕ). has_parent_of parents (place_of last y) q (place_of last x)) number_is parent.2)

-- they cover what holds a part
part-covered : (nodes : List Node) (tables : Tables) (d e : Data) (number : ℕ) (row found : List ℕ) → AreTables nodes tables → IsPartUnder tables.labels number d e
    → Covers nodes tables.last e row → Follows tables.parents number row found → Follows tables.parents 1 row found → Covers nodes tables.last d found
part-covered nodes tables (Data.array ds) e number row found are under covers here maps =
    array-covered nodes tables.last ds under.0 e row found under.2 covers
    (stepped nodes tables.last tables.labels tables.parents Label.items 0 row found are.parents refl (subst (λ (k : ℕ). Follows tables.parents k row found) under.1 here))
part-covered nodes tables (Data.object ms) e number row found are under covers here maps =
    object-covered nodes tables.last ms under.0 e row found under.2 covers
    (stepped nodes tables.last tables.labels tables.parents Label.values 1 row found are.parents refl maps) (by (label_of tables.labels under.0) refl under.1)
  where
    by : (o : Option ℕ) → label_of tables.labels under.0 ≡ o → number ≡ unwrap_or o 1 → IsStep nodes tables.last (Label.named under.0) row found
    by None none is = λ x t y part own there.
        let parent = are.parents x (Label.named under.0) t y part own in absurd (none-some parent.0 (sym none ∙ parent.1))
    by (Some k) label is =
        stepped nodes tables.last tables.labels tables.parents (Label.named under.0) k row found are.parents label (subst (λ (q : ℕ). Follows tables.parents q row found) is here)
part-covered nodes tables _ e number row found are under covers here maps = absurd under

-- a step leads on, whatever the row of its set is called
follows-in : (parents : Parents) (sets : Sets) (label s n : ℕ) (row either : List ℕ) → row_at sets s ≡ Some row → (leads : LeadsTo parents sets label s n)
    → IsWithin leads.1 either → Follows parents label row either
follows-in parents sets label s n row either at leads within = λ y p there has.
    within p (leads.4 y p (subst (λ (r : List ℕ). has_place r y ≡ true) (same_Some row leads.0 (sym at ∙ leads.2)) there) has)

-- what holds a part is among the parents of its set, or among the maps
pub either-covered : (nodes : List Node) (tables : Tables) (d e : Data) (number s u m : ℕ) (before after : Sets) (old new : List ℕ) → AreTables nodes tables
    → IsPartUnder tables.labels number d e → IsSetOf nodes tables.last before e s → KeepsRows before after → LeadsTo tables.parents after number s u
    → LeadsTo tables.parents after 1 s m
    → ((first second : List ℕ) → row_at after u ≡ Some first → row_at after m ≡ Some second → KeepsEither old first second new)
    → Covers nodes tables.last d old → Covers nodes tables.last d new
either-covered nodes tables d e number s u m before after old new are under set kept here maps keeps covers = λ k h.
    let at = kept s set.0 set.1 in
    let both = keeps here.1 maps.1 here.3 maps.3 in
    both.3 (place_of tables.last k) (covers k h)
    (part-covered nodes tables d e number set.0 both.0 are under set.2 (follows-in tables.parents after number s u set.0 both.0 at here both.1)
    (follows-in tables.parents after 1 s m set.0 both.0 at maps both.2) k h)

-- a step leads on as sets come
pub leads-on : (parents : Parents) (before after : Sets) (label s n : ℕ) → KeepsRows before after → LeadsTo parents before label s n → LeadsTo parents after label s n
leads-on parents before after label s n kept leads = (leads.0, leads.1, kept s leads.0 leads.2, kept n leads.1 leads.3, leads.4)

pub steps-stay : (parents : Parents) (memo : Memo) (after : Sets) → KeepsRows memo.sets after → AreSteps parents memo
    → AreSteps parents (record { sets = after; steps = memo.steps })
steps-stay parents memo after kept good = grind arith
