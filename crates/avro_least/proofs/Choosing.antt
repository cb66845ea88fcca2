-- A least datum from those of its parts.
use Rattle.std.proofs.Common.{◌≡◌, ℕ, suc, ◌≤◌, ◌<◌, true, List, Option, Some, None, refl, sym, ◌∙◌, ap, subst, arith, length, get_or, slice_get, is_some, option_map}
use Rattle.avro_schema.specs.Value.{Value, size, depth}
use Rattle.avro_schema.specs.Node.{Node, node_at}
use Rattle.avro_schema.specs.Fits.{fits}
use Rattle.avro_least.specs.Tables.{Least, LeastTable, IsLowForData, AreDataShown, ShowsData, IsLeastOf, IsWithin, count_of, best_of, least_datum, one}
use Rattle.avro_least.proofs.Fixed.{exact_data}
use Rattle.avro_least.proofs.Building.{around_is}
use Rattle.avro_least.proofs.public.Keys.{some_same}
use Rattle.std.proofs.lemmas.Option.{slice_get-map, slice_get-get_or}
use Rattle.avro_schema.specs.Seen.{ids_of}
use Rattle.avro_schema.specs.declared.schema.NodeId.{NodeId}

module _ (writer : List Node) (limit : ℕ) (table : LeastTable) (low : IsLowForData writer limit table) (shown : AreDataShown writer limit table) where
  -- an entry within the limit is what a step gives
  pub step_is : (p : ℕ) → IsWithin limit (table p) → (e : Least) × (table p ≡ Some e) × (e.nodes ≤ limit) × (least_datum limit table (node_at writer p) ≡ Some e)
  step_is p within = by_entry (table p) refl within (shown p)
    where
      by_entry : (o : Option Least) → table p ≡ o → IsWithin limit o → (is_some (table p) ≡ true → ShowsData writer limit (node_at writer p) (table p))
          → (e : Least) × (table p ≡ Some e) × (e.nodes ≤ limit) × (least_datum limit table (node_at writer p) ≡ Some e)
      by_entry None is few own = absurd few
      by_entry (Some e) is few own = (
        e,
        is,
        few,
        exact_data writer limit table low p e is few
            (subst (λ (o : Option Least). ShowsData writer limit (node_at writer p) o) is (own (subst (λ (o : Option Least). is_some o ≡ true) (sym is) refl))),
      )

  -- a datum without parts
  pub leaf_least : (p : ℕ) (n : Node) (v : Value) → IsWithin limit (table p) → node_at writer p ≡ n → least_datum limit table n ≡ Some one → fits writer n v ≡ true
      → size v ≡ 1 → depth v ≡ 1 → IsLeastOf writer table p v
  leaf_least p n v within here step fit s d =
      let found = step_is p within in
      record {
        fitting = subst (λ (m : Node). fits writer m v ≡ true) (sym here) fit;
        numbers = found.1 ∙ sym found.3 ∙ ap (least_datum limit table) here ∙ step ∙ ap Some (λ i. record { nodes = sym s i; depth = sym d i });
      }

  -- the best branch of a union
  pub record IsBranch (p q k : ℕ) : Type 0 where
    pub within : IsWithin limit (table q)
    pub falls : count_of (table q) < count_of (table p)
    pub whole : (v : Value) → IsLeastOf writer table q v → IsLeastOf writer table p (Value.union k v)

  pub branch_least : (p k q : ℕ) (ids : List ℕ) → IsWithin limit (table p) → node_at writer p ≡ Node.union ids → slice_get ids k ≡ Some q
      → table q ≡ best_of table ids → IsBranch p q k
  branch_least p k q ids within here taken best =
      let found = step_is p within in
      let e : Least = found.0 in
      let inside = around_is limit (best_of table ids) e (sym (ap (least_datum limit table) here) ∙ found.3) found.2 in
      let entry : table q ≡ Some inside.inner = best ∙ inside.is in
      record {
        within = subst (λ (o : Option Least). IsWithin limit o) (sym entry) (omega (arith, found.2, inside.nodes));
        falls = subst (λ (o : Option Least). count_of o < count_of (table p)) (sym entry)
            (subst (λ (o : Option Least). inside.inner.nodes < count_of o) (sym found.1) (omega (arith, inside.nodes)));
        whole = λ v least. record {
          fitting = subst (λ (m : Node). fits writer m (Value.union k v) ≡ true) (sym here) (rw taken least.fitting);
          numbers = found.1 ∙ ap Some (numbers v e inside.inner (sym least.numbers ∙ entry) inside.nodes inside.depth);
        };
      }
    where
      numbers : (v : Value) (e b : Least) → Some (record { nodes = size v; depth = depth v }) ≡ Some b → e.nodes ≡ suc b.nodes → e.depth ≡ suc b.depth
          → e ≡ record { nodes = suc (size v); depth = suc (depth v) }
      numbers v e b same n d =
          let is : record { nodes = size v; depth = depth v } ≡ b = some_same (record { nodes = size v; depth = depth v }) b same in
          λ i. record { nodes = (n ∙ ap (λ (l : Least). suc l.nodes) (sym is)) i; depth = (d ∙ ap (λ (l : Least). suc l.depth) (sym is)) i }

-- the id at an index
pub id_here : (ids : List NodeId) (i p : ℕ) (d : NodeId) → i < length ids → slice_get (ids_of ids) i ≡ Some p → (get_or ids i d).0 ≡ p
id_here ids i p d within got = some_same (get_or ids i d).0 p (sym (slice_get-map (λ id. id.0) ids i ∙ ap (option_map (λ id. id.0)) (slice_get-get_or ids i d within)) ∙ got)
