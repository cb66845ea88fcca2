-- What was written of a datum that goes into a branch of a union.
use Rattle.std.proofs.Common.{◌≡◌, ◌++◌, ◌∙◌, ℕ, List, Option, Some, None, ap, refl, subst, sym, false}
use Rattle.std.specs.Prelude.{Result, Ok, Err, IfOk}
use Rattle.std.proofs.lemmas.Bool.{true≢false}
use Rattle.avro_schema.specs.Node.{Node}
use Rattle.avro_schema.specs.Value.{Value}
use Rattle.avro_cursor.specs.Encoding.{plain}
use Rattle.avro_packed.specs.Appended.{Holds, branch_bytes}
use Rattle.avro_packed.specs.declared.written.Written.{Written}
use Rattle.avro_binary.specs.Places.{MayBeAt, alone, branch_place, in_branch, is_union}
use Rattle.avro_binary.specs.declared.place.Place.{Place}

pub plain_in : (into : Option ℕ) (v : Value) → branch_bytes into ++ plain v ≡ plain (in_branch into v)
plain_in None v = refl
plain_in (Some k) v = refl

-- a datum of a node that may be at a place
pub holds_at : {E : Type 0} (r : Result Written E) (out : List ℕ) (n : Node) (at : Place) (v : Value)
    → IfOk r (λ w. Holds out w (branch_bytes at.branch ++ plain v)) → IfOk r (λ w. MayBeAt n at → Holds out w (plain (in_branch at.branch v)))
holds_at (Ok w) out n at v h = λ may. subst (λ (bytes : List ℕ). Holds out w bytes) (plain_in at.branch v) h
holds_at (Err e) out n at v h = tt

-- the value of a branch was put behind its index, so that it is its union's datum
pub holds_union : (out : List ℕ) (w : Written) (n : Node) (ids : List ℕ) (k id : ℕ) (at : Place) (v : Value) → is_union n ≡ false
    → (MayBeAt n (branch_place k id) → Holds out w (plain (in_branch (Some k) v))) → MayBeAt (Node.union ids) at → Holds out w (plain (in_branch at.branch (Value.union k v)))
holds_union out w n ids k id at v none holds may =
    subst (λ (b : Option ℕ). Holds out w (plain (in_branch b (Value.union k v)))) (sym (may refl)) (holds (λ is. absurd (true≢false (sym is ∙ none))))

-- the datum is in no union
pub holds_alone : (out : List ℕ) (w : Written) (n : Node) (at : Place) (id : ℕ) (v : Value) → at ≡ alone id
    → (MayBeAt n at → Holds out w (plain (in_branch at.branch v))) → Holds out w (plain v)
holds_alone out w n at id v is stands =
    let none : at.branch ≡ None = ap (λ (p : Place). p.branch) is in
    subst (λ (b : Option ℕ). Holds out w (plain (in_branch b v))) none (stands (λ _. none))
