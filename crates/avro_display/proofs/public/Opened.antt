-- What is opened, as lemmas for whoever opens parts of other data.
use Rattle.std.proofs.Common.{◌≡◌, ℕ, suc, List, [], ◌∷◌, ◌++◌, length, false, Some, refl, sym, ap, ◌∙◌, append_assoc}
use Rattle.std.specs.Prelude.{String}
use Rattle.std.specs.Global.{Vec}
use Rattle.std.specs.declared.alloc.Global.{Global}
use Rattle.json.specs.Print.{quoted}
use Rattle.avro_schema.specs.Node.{Node}
use Rattle.avro_schema.specs.Seen.{entries_of, value_of, values_of, view_step}
use Rattle.avro_schema.specs.Value.{Value, Entries, no_entries, entry, entries_count, keys_of}
use Rattle.avro_schema.specs.declared.datum.Datum.TheOpen.{Datum-F}
use Rattle.avro_schema.specs.declared.datum.Datum.TheViews as view
use Rattle.avro_schema.specs.declared.datum.Datum.TheVariants as variants
use Rattle.avro_schema.specs.declared.datum.Datum.TheFolds.{fold-roll-Datum}
use Rattle.avro_schema.specs.declared.datum.Datum.{Datum}
use Rattle.serde_json.specs.Data.{Data, member, no_members}
use Rattle.serde_json.specs.Written.{compact_text, members_text}
use Rattle.avro_display.specs.DisplayTree.{branch_key, branch_tree}
use Rattle.avro_display.specs.Table.{head_text, opening_of}

pub value_of-Array : (v : Vec Datum) → value_of (view.Array v) ≡ Value.array (values_of v.items)
value_of-Array v = ap value_of (sym (variants.rolls-Array v)) ∙ fold-roll-Datum Value view_step (Datum-F.Array v)

pub value_of-Record : (v : Vec Datum) → value_of (view.Record v) ≡ Value.record_of (values_of v.items)
value_of-Record v = ap value_of (sym (variants.rolls-Record v)) ∙ fold-roll-Datum Value view_step (Datum-F.Record v)

pub count_keys : (es : Entries) → length (keys_of es) ≡ entries_count es
count_keys no_entries = refl
count_keys (entry k v es) = ap suc (count_keys es)

pub count_entries : (es : List (String Global × Datum)) → entries_count (entries_of es) ≡ length es
count_entries [] = refl
count_entries (e ∷ es) = ap suc (count_entries es)

same_some : {A : Type 0} {a b : A} → Some a ≡ Some b → a ≡ b
same_some e = cc (e)

-- a branch with the text that opens it, and null
opened : (k : List ℕ) (d : Data) (o : List ℕ) → Some o ≡ Some (123 ∷ head_text k) → 123 ∷ members_text false (member k d no_members) ≡ o ++ (compact_text d ++ 125 ∷ [])
opened k d o is =
    sym (ap (λ (x : List ℕ). x ++ (compact_text d ++ 125 ∷ [])) (same_some is) ∙ ap (λ (l : List ℕ). 123 ∷ l) (append_assoc (quoted k) (58 ∷ []) (compact_text d ++ 125 ∷ [])))

pub branch_opened : (n : Node) (d : Data) (o : List ℕ) → Some o ≡ opening_of n → compact_text (branch_tree n d) ≡ o ++ (compact_text d ++ 125 ∷ [])
branch_opened Node.null d o is = absurd (cc (is))
branch_opened n d o is = opened (branch_key n) d o is
