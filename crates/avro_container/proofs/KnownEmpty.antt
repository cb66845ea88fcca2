-- There is one datum at most without bytes, so that it is had where there merely is one.
use mathlib.Core.Logic.{∥∥₁_elim}
use mathlib.Core.HLevel.{Σ_prop_path}
use Rattle.std.proofs.Common.{◌≡◌, ℕ, true, List, [], ◌++◌, Option, Some, None, Ok, Err, refl, sym, ap, subst, ◌∙◌, arith, append-nil}
use Rattle.std.proofs.Props.{props}
use Rattle.std.proofs.lemmas.Grind.{merely}
use Rattle.std.proofs.lemmas.Option.{same_Some, none-some}
use Rattle.std.specs.Coded.{codes}
use Rattle.std.specs.Option.{IfSome, ForSome}
use Rattle.avro_schema.specs.Value.{Value}
use Rattle.avro_schema.specs.Node.{Node, node_at, root_of}
use Rattle.avro_schema.specs.Fits.{fits, is_within}
use Rattle.avro_schema.specs.WellFormed.{is_schema}
use Rattle.avro_cursor.specs.Encoding.{Encodes, Spells, plain}
use Rattle.avro_compare.specs.Resolve.{Resolved}
use Rattle.avro_file.specs.BlockFails.{BlockReading}
use Rattle.avro_file.specs.NoBytes.{PacksNoBytes}

-- the two laws of encodings
abbrev pub Prefix : Type 0
Prefix = (nodes : List Node) (n : Node) (v w : Value) (a b x y : List ℕ) → Encodes nodes n v a → Encodes nodes n w b → a ++ x ≡ b ++ y → (a ≡ b) × (v ≡ w)

abbrev pub PlainEncodes : Type 0
PlainEncodes = (nodes : List Node) (id : ℕ) (v : Value) → is_schema nodes ≡ true → fits nodes (node_at nodes id) v ≡ true → Encodes nodes (node_at nodes id) v (plain v)

-- the plain encoding of what is made, where something is
abbrev plain_made : Resolved → Option (List ℕ)
plain_made (Ok u) = Some (plain u)
plain_made (Err e) = None

made_is : (made : Resolved) (packed : List ℕ) → plain_made made ≡ Some packed → (u : Value) × (packed ≡ plain u) × (made ≡ Ok u)
made_is (Ok u) packed e = (u, sym (same_Some _ _ e), refl)
made_is (Err f) packed e = absurd (none-some packed e)

-- it is the datum without bytes, by equations alone
abbrev IsEmpty : BlockReading → List ℕ → Value → Type 0
IsEmpty r packed v =
    (fits r.nodes (root_of r.nodes) v ≡ true) × (plain v ≡ []) × (is_within r.limits.datum v ≡ true) × (plain_made (r.resolve v) ≡ Some packed)

IsEmpty-prop : (r : BlockReading) (packed : List ℕ) (v : Value) → IsProp (IsEmpty r packed v)
IsEmpty-prop r packed v = hlevel (codes, props)

same-empty : Prefix → PlainEncodes → (r : BlockReading) (packed : List ℕ) (v w : Value) → is_schema r.nodes ≡ true → IsEmpty r packed v → IsEmpty r packed w → v ≡ w
same-empty prefix law r packed v w formed p q =
    (prefix r.nodes (root_of r.nodes) v w (plain v) (plain w) [] [] (law r.nodes 0 v formed p.0) (law r.nodes 0 w formed q.0)
    (ap (λ b. b ++ []) (p.1 ∙ sym q.1))).1

pub known : Prefix → PlainEncodes → (r : BlockReading) (packed : List ℕ) → is_schema r.nodes ≡ true → ∥ PacksNoBytes r packed ∥₁ → PacksNoBytes r packed
known prefix law r packed formed mere =
    let empty : (v : Value) × IsEmpty r packed v =
    ∥∥₁_elim mere (λ x y. Σ_prop_path (IsEmpty-prop r packed) (same-empty prefix law r packed x.0 y.0 formed x.1 y.1))
    (λ p.
    let v = p.2.datum in
    let short : [] ≡ plain v = (prefix r.nodes (root_of r.nodes) v v [] (plain v) (plain v) [] p.2.encoded (law r.nodes 0 v formed p.2.encoded.fitting)
    (sym (append-nil (plain v)))).0 in
    (v, (p.2.encoded.fitting, sym short, p.2.within, ap plain_made p.2.resolves ∙ ap Some (sym p.1)))) in
    let made = made_is (r.resolve empty.0) packed empty.1.3 in
    let whole = law r.nodes 0 empty.0 formed empty.1.0 in (
      made.0,
      made.1,
      record {
        datum = empty.0;
        in_bytes = omega arith;
        encoded = record { fitting = empty.1.0; spelled = subst (λ b. Spells empty.0 b) empty.1.1 whole.spelled };
        within = empty.1.2;
        resolves = made.2;
      },
    )

pub known-some : Prefix → PlainEncodes → {T : Type 0} (items : T → List ℕ) (r : BlockReading) (o : Option T) → is_schema r.nodes ≡ true
    → ForSome o (λ unit. ∥ PacksNoBytes r (items unit) ∥₁) → IfSome o (λ unit. PacksNoBytes r (items unit))
known-some prefix law items r None formed h = tt
known-some prefix law items r (Some unit) formed h = known prefix law r (items unit) formed (h unit refl)

pub merely-some : {T : Type 0} (items : T → List ℕ) (r : BlockReading) (o : Option T) → IfSome o (λ unit. PacksNoBytes r (items unit))
    → ForSome o (λ unit. ∥ PacksNoBytes r (items unit) ∥₁)
merely-some items r None h = λ unit is. absurd (none-some unit is)
merely-some items r (Some one) h = λ unit is. merely (subst (λ u. PacksNoBytes r (items u)) (same_Some _ _ is) h)
