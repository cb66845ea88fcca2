-- Defaults as they are read part by part.
use Rattle.avro_schema_json.proofs.Words.{◌≡◌, ℕ, zero, suc, ◌+◌, ◌<◌, ◌≤◌, List, [], ◌∷◌, ◌++◌, length, drop, arith, add-one, Option, Some, None, option_map, option_and_then, get_or, refl, ap, ◌∙◌, sym, drop_more, Node, node_at, value_of, values_of, entries_of, ids_of, Value, Values, no_values, value, Entries, no_entries, entry, NodeId, Data, by_first_fit, first_fit, default_of, own_default, without_defaults, all_without_defaults, KeptNode as RawNode}
use Rattle.std.specs.Prelude.{String, string_bytes}
use Rattle.std.specs.declared.alloc.Global.{Global}
use Rattle.avro_schema.specs.Node.{branches_of}
use Rattle.avro_schema.specs.declared.datum.Datum.{Datum}

-- the node of an id
pub node_at-raws : (raws : List RawNode) (i : ℕ) (other : RawNode) → without_defaults other ≡ Node.null → without_defaults (get_or raws i other) ≡ node_at (all_without_defaults raws) i
node_at-raws [] i other h = h
node_at-raws (r ∷ raws) zero other h = refl
node_at-raws (r ∷ raws) (suc i) other h = node_at-raws raws i other h

-- a default is that of the node itself, or of a branch
default_of-own : (nodes : List Node) (d : Data) (n : Node) → default_of nodes d n ≡ by_first_fit nodes n (own_default nodes d)
default_of-own nodes Data.null n = refl
default_of-own nodes _ n = refl

pub default-no_union : (nodes : List Node) (d : Data) (n : Node) → branches_of n ≡ None → default_of nodes d n ≡ own_default nodes d n
default-no_union nodes d n h = default_of-own nodes d n ∙ rw h refl

pub default-union : (nodes : List Node) (d : Data) (n : Node) (ids : List ℕ) → branches_of n ≡ Some ids
    → default_of nodes d n ≡ first_fit nodes (own_default nodes d) 0 ids
default-union nodes d n ids h = default_of-own nodes d n ∙ rw h refl

-- the first branch, wherever the JSON is a default of it
pub default-first_branch : (nodes : List Node) (d : Data) (n : Node) (id : ℕ) (others : List ℕ) (v : Value) → branches_of n ≡ Some (id ∷ others)
    → branches_of (node_at nodes id) ≡ None → default_of nodes d (node_at nodes id) ≡ Some v → default_of nodes d n ≡ Some (Value.union 0 v)
default-first_branch nodes d n id others v has plain is = grind (arith, default-no_union, default-union)

-- ---- branches in turn

pub drop_past : {A : Type 0} (xs : List A) (i : ℕ) → length xs ≤ i → drop i xs ≡ []
drop_past [] zero h = refl
drop_past [] (suc i) h = refl
drop_past (x ∷ xs) zero h = absurd (omega arith)
drop_past (x ∷ xs) (suc i) h = drop_past xs i (omega arith)

drop_ids : (ids : List NodeId) (i : ℕ) (id : NodeId) → i < length ids → id ≡ get_or ids i id → ids_of (drop i ids) ≡ id.0 ∷ ids_of (drop (suc i) ids)
drop_ids ids i id below at = grind (arith, add-one, drop_more)

-- a branch that the JSON does not fit
pub branch_next : (nodes : List Node) (d : Data) (ids : List NodeId) (i : ℕ) (id : NodeId) (all : Option Value) → i < length ids → id ≡ get_or ids i id
    → first_fit nodes (own_default nodes d) i (ids_of (drop i ids)) ≡ all → own_default nodes d (node_at nodes id.0) ≡ None
    → first_fit nodes (own_default nodes d) (i + 1) (ids_of (drop (i + 1) ids)) ≡ all
branch_next nodes d ids i id all below at whole none = grind (arith, add-one, drop_ids)

-- values after others
abbrev pub after_values : List Datum → Values → Values
after_values [] vs = vs
after_values (d ∷ ds) vs = value (value_of d) (after_values ds vs)

abbrev pub after_entries : List (String Global × Datum) → Entries → Entries
after_entries [] es = es
after_entries (e ∷ es) rest = entry (string_bytes e.0) (value_of e.1) (after_entries es rest)

after_values-push : (ds : List Datum) (d : Datum) (vs : Values) → after_values ds (value (value_of d) vs) ≡ after_values (ds ++ d ∷ []) vs
after_values-push [] d vs = refl
after_values-push (e ∷ ds) d vs = ap (value (value_of e)) (after_values-push ds d vs)

after_values-none : (ds : List Datum) → after_values ds no_values ≡ values_of ds
after_values-none [] = refl
after_values-none (d ∷ ds) = ap (value (value_of d)) (after_values-none ds)

after_entries-push : (es : List (String Global × Datum)) (e : String Global × Datum) (rest : Entries)
    → after_entries es (entry (string_bytes e.0) (value_of e.1) rest) ≡ after_entries (es ++ e ∷ []) rest
after_entries-push [] e rest = refl
after_entries-push (f ∷ es) e rest = ap (entry (string_bytes f.0) (value_of f.1)) (after_entries-push es e rest)

after_entries-none : (es : List (String Global × Datum)) → after_entries es no_entries ≡ entries_of es
after_entries-none [] = refl
after_entries-none (e ∷ es) = ap (entry (string_bytes e.0) (value_of e.1)) (after_entries-none es)

-- one more value is read
pub value_step : (all : Option Values) (done : List Datum) (d : Datum) (first : Option Value) (rest : Option Values)
    → option_map (after_values done) (option_and_then (λ v. option_map (value v) rest) first) ≡ all → Some (value_of d) ≡ first
    → option_map (after_values (done ++ d ∷ [])) rest ≡ all
value_step all done d first rest whole is = grind (arith, after_values-push)

-- one is not a default
pub value_stop : (all : Option Values) (done : List Datum) (first : Option Value) (rest : Option Values)
    → option_map (after_values done) (option_and_then (λ v. option_map (value v) rest) first) ≡ all → None ≡ first → None ≡ all
value_stop all done first rest whole is = let w = rw (← is) at whole in w

-- none is left
pub values_end : (all : Option Values) (done : List Datum) (rest : Option Values) → option_map (after_values done) rest ≡ all → rest ≡ Some no_values
    → Some (values_of done) ≡ all
values_end all done rest whole none = let w = rw none at whole in ap Some (sym (after_values-none done)) ∙ w

pub entry_step : (all : Option Entries) (done : List (String Global × Datum)) (k : String Global) (d : Datum) (first : Option Value) (rest : Option Entries)
    → option_map (after_entries done) (option_and_then (λ v. option_map (entry (string_bytes k) v) rest) first) ≡ all → Some (value_of d) ≡ first
    → option_map (after_entries (done ++ (k, d) ∷ [])) rest ≡ all
entry_step all done k d first None whole is = let w = rw (← is) at whole in w
entry_step all done k d first (Some es) whole is = let w = rw (← is) at whole in ap Some (sym (after_entries-push done (k, d) es)) ∙ w

pub entries_end : (all : Option Entries) (done : List (String Global × Datum)) (rest : Option Entries) → option_map (after_entries done) rest ≡ all
    → rest ≡ Some no_entries → Some (entries_of done) ≡ all
entries_end all done rest whole none = let w = rw none at whole in ap Some (sym (after_entries-none done)) ∙ w
