-- How the parts of a declaration are read.
use Rattle.avro_schema_json.proofs.Words.{◌≡◌, ℕ, true, false, List, [], Option, Some, None, refl, arith, subst, ◌⊎◌, inl, inr, IsErrOf, is_some, ok_or, Result, Ok, Err, Contains, append-nil, Name, name_of, SchemaError, name_faults, Known, id_of, sym, ◌∙◌, codes, Data, Members, get_member, name_from, name_in, text_in, reference, State, made_at, IsRead, IsRefusal, beginning_faults}

-- ---- references

pub reference-read : (word enclosing : List ℕ) (s : State) (name : Name) (id : ℕ) → name_of word enclosing ≡ Some name
    → id_of name s.known ≡ Some id → IsRead (made_at (reference word) enclosing s) s s id
reference-read word enclosing s name id is known = grind (arith, append-nil)

pub reference-unknown : (word enclosing : List ℕ) (s : State) (name : Name) → name_of word enclosing ≡ Some name
    → id_of name s.known ≡ None → Contains (made_at (reference word) enclosing s).faults SchemaError.UnknownName
reference-unknown word enclosing s name is unknown = rw (is, unknown) (0, omega arith, refl)

-- ---- results that are a model's, or want memory

pub ok-or_memory : {A : Type 0} (x : A) (model : Result A SchemaError) → IsErrOf (Ok x) SchemaError.OutOfMemory ⊎ (Ok x ≡ model) → model ≡ Ok x
ok-or_memory x model h = grind arith

pub some-from_ok_or : {A : Type 0} (o : Option A) (x : A) (e : SchemaError) → ok_or o e ≡ Ok x → o ≡ Some x
some-from_ok_or o x e h = grind arith

pub not_some : {A : Type 0} (o : Option A) → is_some o ≡ false → o ≡ None
not_some o h = grind arith

-- ---- beginnings of definitions

-- a definition is named by its members
pub named-by : (enclosing : List ℕ) (ms : Members) (namespace : Option Data) (text : Option (List ℕ)) (named : Result Name SchemaError) → namespace ≡ get_member (codes "namespace") ms
    → text ≡ text_in (codes "name") ms → name_from enclosing namespace text ≡ named → name_in enclosing ms ≡ named
named-by enclosing ms namespace text named n t is = (λ j. name_from enclosing (sym n j) (sym t j)) ∙ is

-- it is refused as its name is
pub beginning-unnamed : (before : State) (said named : Result Name SchemaError) (e : SchemaError) → said ≡ named
    → IsErrOf {T = Name} (Err e) SchemaError.OutOfMemory ⊎ (Err e ≡ said) → IsRefusal (beginning_faults before named) e
beginning-unnamed before said named e is h = elim h [
  | inl full ↦ inl (same full)
  | inr at ↦ subst (λ (r : Result Name SchemaError). IsRefusal (beginning_faults before r) e) (at ∙ is) (inr (0, omega arith, refl))
]
  where
    same : IsErrOf {T = Name} (Err e) SchemaError.OutOfMemory → e ≡ SchemaError.OutOfMemory
    same full = grind arith

pub name_faults-new : (name : Name) (known : Known) → id_of name known ≡ None → name_faults name known ≡ []
name_faults-new name known h = rw h refl

pub name_faults-known : (name : Name) (known : Known) → is_some (id_of name known) ≡ true
    → Contains (name_faults name known) SchemaError.DuplicateName
name_faults-known name known h = rw h (0, omega arith, refl)

pub beginning-known : (before : State) (named : Result Name SchemaError) (name : Name) → named ≡ Ok name
    → is_some (id_of name before.known) ≡ true → IsRefusal (beginning_faults before named) SchemaError.DuplicateName
beginning-known before named name is h = grind (arith, name_faults-known)
