-- Members that are put one by one.
use Rattle.std.proofs.Common.{◌≡◌, ◌∙◌, List, ℕ, ◌≤◌, ◌-◌, ◌^◌, min, [], ◌∷◌, ◌++◌, Bool, true, false, sym, ap, subst, arith, append_assoc}
use Rattle.std.specs.Option.{IfSome, IfNone}
use Rattle.std.specs.Prelude.{codes, is_some, string_bytes, Option, Some, None}
use Rattle.serde_json.specs.Data.{Data, number, object, unsigned, Members, no_members, member}
use Rattle.serde_json.specs.Written.{comma_if, compact_text, members_text}
use Rattle.avro_schema.specs.Seen.{value_of}
use Rattle.avro_schema.specs.Value.{size}
use Rattle.avro_display.specs.Table.{head_text}
use Rattle.avro_judge.specs.Answered.{IfRefuted}
use Rattle.avro_judge.specs.declared.verdict.Refutation.{Refutation}
use Rattle.avro_judge.specs.declared.verdict.Verdict.{Verdict}
use Rattle.avro_answer.specs.JsonAnswer.{json_line}
use Rattle.avro_answer.specs.declared.json_object.JsonObject.{JsonObject}
use Rattle.avro_answer.specs.inside.JsonText.{PutsMember, PutsMembers}

in_text : (before after : List ℕ) (later : Bool) (key : List ℕ) (d : Data) (rest : Members) → after ≡ before ++ (comma_if later ++ (head_text key ++ compact_text d))
    → after ++ members_text true rest ≡ before ++ members_text later (member key d rest)
in_text before after later key d rest e = rw e (simp append_assoc)

-- a member is members
pub as_members : (old new : JsonObject) (key : List ℕ) (d : Data) → PutsMember old key (compact_text d) new → PutsMembers old (λ (rest : Members). member key d rest) new
as_members old new key d (put, later) = (λ rest. in_text (string_bytes old.text) (string_bytes new.text) old.later key d rest put, later)

-- members after members
pub then_members : (old middle new : JsonObject) (first next : Members → Members) → PutsMembers old first middle → PutsMembers middle next new
    → PutsMembers old (λ (rest : Members). first (next rest)) new
then_members old middle new first next (put, later) (put_next, later_next) = (
  λ rest. put_next rest ∙ (ap (λ (l : Bool). string_bytes middle.text ++ members_text l (next rest)) later ∙ put (next rest)),
  later_next,
)

-- all members of an object, and its end
pub whole : (empty full : JsonObject) (more : Members → Members) → string_bytes empty.text ≡ 123 ∷ [] → empty.later ≡ false → PutsMembers empty more full
    → string_bytes full.text ++ 125 ∷ [] ≡ compact_text (object (more no_members))
whole empty full more text later (put, _) =
    put no_members ∙ (ap (λ (l : Bool). string_bytes empty.text ++ members_text l (more no_members)) later ∙ ap (λ (t : List ℕ). t ++ members_text false (more no_members)) text)

-- the line of an object whose members were put
pub line_is : (empty full : JsonObject) (more : Members → Members) (line : List ℕ) → string_bytes empty.text ≡ 123 ∷ [] → empty.later ≡ false → PutsMembers empty more full
    → line ≡ string_bytes full.text ++ 125 ∷ 10 ∷ [] → line ≡ json_line (object (more no_members))
line_is empty full more line text later put is =
    is ∙ (sym (append_assoc (string_bytes full.text) (125 ∷ []) (10 ∷ [])) ∙ ap (λ (t : List ℕ). t ++ 10 ∷ []) (whole empty full more text later put))

-- a key, and the value and the end that come after it
pub in_front : (before after : List ℕ) (later : Bool) (key : List ℕ) (d : Data) → after ≡ before ++ (comma_if later ++ (head_text key ++ []))
    → (after ++ compact_text d) ++ 125 ∷ [] ≡ before ++ members_text later (member key d no_members)
in_front before after later key d e = rw e (simp append_assoc)

-- members, and then the key of the last one
pub then_key : (old middle new : JsonObject) (more : Members → Members) (key : List ℕ) (d : Data) → PutsMembers old more middle → PutsMember middle key [] new
    → (string_bytes new.text ++ compact_text d) ++ 125 ∷ [] ≡ string_bytes old.text ++ members_text old.later (more (member key d no_members))
then_key old middle new more key d (put, later) (opened, _) =
    in_front (string_bytes middle.text) (string_bytes new.text) middle.later key d opened
    ∙ (ap (λ (l : Bool). string_bytes middle.text ++ members_text l (member key d no_members)) later ∙ put (member key d no_members))

-- an object whose members were put, and the text of a verdict's datum before its end
pub front_is : (empty full new : JsonObject) (more : Members → Members) (rest : Members) (datum : List ℕ) → string_bytes empty.text ≡ 123 ∷ [] → empty.later ≡ false
    → PutsMembers empty more full → (string_bytes new.text ++ datum) ++ 125 ∷ [] ≡ string_bytes full.text ++ members_text full.later rest
    → (string_bytes new.text ++ datum) ++ (125 ∷ 10 ∷ []) ≡ json_line (object (more rest))
front_is empty full new more rest datum text later (put, now) last =
    sym (append_assoc (string_bytes new.text ++ datum) (125 ∷ []) (10 ∷ []))
    ∙ ap (λ (t : List ℕ). t ++ 10 ∷ []) (last
    ∙ (ap (λ (l : Bool). string_bytes full.text ++ members_text l rest) now
    ∙ (put rest
    ∙ (ap (λ (l : Bool). string_bytes empty.text ++ members_text l (more rest)) later
    ∙ ap (λ (t : List ℕ). t ++ members_text false (more rest)) text))))

-- a member whose value has this text
pub of_value : (old new : JsonObject) (key value other : List ℕ) → value ≡ other → PutsMember old key value new → PutsMember old key other new
of_value old new key value other e (put, later) = (put ∙ ap (λ (v : List ℕ). string_bytes old.text ++ (comma_if old.later ++ (head_text key ++ v))) e, later)

-- one more member
pub one_more : (old middle new : JsonObject) (more : Members → Members) (key : List ℕ) (d : Data) → PutsMembers old more middle → PutsMember middle key (compact_text d) new
    → PutsMembers old (λ (rest : Members). more (member key d rest)) new
one_more old middle new more key d puts put = then_members old middle new more (λ (rest : Members). member key d rest) puts (as_members middle new key d put)

-- the number of nodes, and the key of the datum
pub nodes_then : (old middle new : JsonObject) (n m : ℕ) (d : Data) → n ≡ m → PutsMember old (codes "nodes") (compact_text (number (unsigned n))) middle
    → PutsMember middle (codes "datum") [] new
    → (string_bytes new.text ++ compact_text d) ++ 125 ∷ []
    ≡ string_bytes old.text ++ members_text old.later (member (codes "nodes") (number (unsigned m)) (member (codes "datum") d no_members))
nodes_then old middle new n m d e put opened =
    then_key old middle new (λ (rest : Members). member (codes "nodes") (number (unsigned n)) rest) (codes "datum") d
    (as_members old middle (codes "nodes") (number (unsigned n)) put) opened
    ∙ ap (λ k. string_bytes old.text ++ members_text old.later (member (codes "nodes") (number (unsigned k)) (member (codes "datum") d no_members))) e

-- the number of nodes of the datum of a no is exact
pub size_fits : (v : Verdict) (r : Refutation) (n : ℕ) → v ≡ Verdict.Refuted r → IfRefuted v (λ (x : Refutation). size (value_of x.datum) ≤ 2 ^ 64 - 1)
    → n ≡ min (size (value_of r.datum)) (2 ^ 64 - 1) → n ≡ size (value_of r.datum)
size_fits v r n e small is =
    let fits : size (value_of r.datum) ≤ 2 ^ 64 - 1 = subst (λ w. IfRefuted w (λ (x : Refutation). size (value_of x.datum) ≤ 2 ^ 64 - 1)) e small in
    omega (arith, is, fits)

-- whether there is an approval is whether the sets are closed
pub confirmed_is : {A : Type 0} (o : Option A) (closed : Bool) → IfSome o (λ _. closed ≡ true) → IfNone o (closed ≡ false) → is_some o ≡ closed
confirmed_is (Some x) closed told refused = sym told
confirmed_is None closed told refused = sym refused
