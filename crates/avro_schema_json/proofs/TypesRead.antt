-- How types are read: a node above its parts, and parts one after another.
use Rattle.avro_schema_json.proofs.Words.{◌≡◌, ℕ, suc, ◌+◌, ◌<◌, ◌≤◌, true, List, [], ◌∷◌, ◌++◌, refl, subst, length, get_or, arith, sym, ap, ◌∙◌, inl, inr, length-append, drop, slice_set, nat_lt, append_assoc, append-nil, drop_more, Contains-append_left, Contains-append_right, Node, max_nodes, view, items_view, SchemaError, RawNode, RawField, Known, Made, Meaning, node_with, in_turn, meaning_of, branches_of, field_meaning, field_meanings, State, made_at, IsRead, Reads, IsRefusal, Refuses, IsAdded, limit_faults, Tree as Value}
use Rattle.std.proofs.Math.ListN.{drop_of_length-le}
use Rattle.std.proofs.Math.Seq.{set-append_seam}

-- ---- refusals of a part are refusals of the whole

pub first-refused : (xs ys : List SchemaError) (e : SchemaError) → IsRefusal xs e → IsRefusal (xs ++ ys) e
first-refused xs ys e (inl h) = inl h
first-refused xs ys e (inr h) = inr (Contains-append_left xs ys e h)

pub second-refused : (xs ys : List SchemaError) (e : SchemaError) → IsRefusal ys e → IsRefusal (xs ++ ys) e
second-refused xs ys e (inl h) = inl h
second-refused xs ys e (inr h) = inr (Contains-append_right xs ys e h)

pub grown-refused : (xs ys zs : List SchemaError) (e : SchemaError) → IsRefusal (xs ++ ys) e → IsRefusal (xs ++ (ys ++ zs)) e
grown-refused xs ys zs e h = rw (← append_assoc xs ys zs) (first-refused (xs ++ ys) zs e h)

-- ---- a node above its parts

-- A node is held at its id, until its parts are read.
pub record IsHeld (before inside : State) (known : Known) (id : ℕ) : Type 0 where
  pub id_is : id ≡ length before.nodes
  pub within : nat_lt (length before.nodes) max_nodes ≡ true
  pub nodes_are : inside.nodes ≡ before.nodes ++ RawNode.plain Node.null ∷ []
  pub known_are : inside.known ≡ known

pub held-added : {before inside : State} {id : ℕ} → IsAdded before inside (RawNode.plain Node.null) id → IsHeld before inside before.known id
held-added added = record { id_is = added.id_is; within = added.within; nodes_are = added.nodes_are; known_are = added.known_are }

module _ {A : Type 0} (part : Meaning A) (space : List ℕ) {before inside : State} {known : Known} {id : ℕ} (held : IsHeld before inside known id)
    (node : A → RawNode) (faults : List SchemaError) where
  -- what a part makes inside the node
  inside-made : made_at part space inside ≡ part space known (suc (length before.nodes))
  inside-made = grind (arith, length-append)

  pub node_with-read : (after last : State) (result : A) → faults ≡ [] → Reads part space inside after result
      → last.nodes ≡ slice_set after.nodes id (node result) → last.known ≡ after.known
      → IsRead (node_with (length before.nodes) node faults (part space known (suc (length before.nodes)))) before last id
  node_with-read after last result clean read put kept =
      let made = made_at part space inside in
      let at : id ≡ length before.nodes = held.id_is in
      let whole : after.nodes ≡ before.nodes ++ RawNode.plain Node.null ∷ made.nodes =
      read.nodes_are ∙ ap (λ xs. xs ++ made.nodes) held.nodes_are ∙ append_assoc before.nodes (RawNode.plain Node.null ∷ []) made.nodes in
      subst (λ parts. IsRead (node_with (length before.nodes) node faults parts) before last id) inside-made
      (record {
        no_faults = rw (held.within, clean, read.no_faults) refl;
        result_is = sym held.id_is;
        nodes_are = put ∙ ap (λ (x : A). slice_set after.nodes id (node x)) (sym read.result_is)
            ∙ rw (whole, at) (set-append_seam before.nodes (RawNode.plain Node.null) made.nodes (node made.result));
        known_are = kept ∙ read.known_are;
      })

  -- a fault of the node's own, and one of a part
  pub node_with-own : (e : SchemaError) → IsRefusal faults e
      → IsRefusal (node_with (length before.nodes) node faults (part space known (suc (length before.nodes)))).faults e
  node_with-own e h = first-refused (limit_faults before ++ faults) _ e (second-refused (limit_faults before) faults e h)

  pub node_with-part : (e : SchemaError) → Refuses part space inside e
      → IsRefusal (node_with (length before.nodes) node faults (part space known (suc (length before.nodes)))).faults e
  node_with-part e refused =
      second-refused (limit_faults before ++ faults) _ e (subst (λ (made : Made A). IsRefusal made.faults e) inside-made refused)

-- ---- parts one after another

-- Of the whole, some parts are read without a fault, with these results, and the rest is still to come.
pub record IsReading {A : Type 0} (whole rest : Made (List A)) (before now : State) (results : List A) : Type 0 where
  pub nodes_are : before.nodes ++ whole.nodes ≡ now.nodes ++ rest.nodes
  pub results_are : whole.result ≡ results ++ rest.result
  pub known_are : whole.known ≡ rest.known
  pub faults_are : whole.faults ≡ rest.faults

pub reading-begun : {A : Type 0} (whole : Made (List A)) (before : State) → IsReading whole whole before before []
reading-begun whole before = record { nodes_are = refl; results_are = refl; known_are = refl; faults_are = refl }

-- items one after another
module _ {A : Type 0} (meaning : Value → Meaning A) (meanings : List Value → List (Meaning A))
    (of_next : (item : Value) (items : List Value) → meanings (item ∷ items) ≡ meaning item ∷ meanings items) (of_none : meanings [] ≡ [])
    (whole : Made (List A)) (enclosing : List ℕ) (before now : State) (results : List A) (items : List Value) (i : ℕ)
    (reading : IsReading whole (made_at (in_turn (meanings (drop i items))) enclosing now) before now results) where
  module _ (item : Value) (within : i < length items) (is : item ≡ get_or items i item) where
    at_item : IsReading whole (made_at (in_turn (meaning item ∷ meanings (drop (i + 1) items))) enclosing now) before now results
    at_item = grind (arith, drop_more)

    pub item-read : (later : State) (result : A) → Reads (meaning item) enclosing now later result
        → IsReading whole (made_at (in_turn (meanings (drop (i + 1) items))) enclosing later) before later (results ++ result ∷ [])
    item-read later result read =
        let first = made_at (meaning item) enclosing now in
        let next : length now.nodes + length first.nodes ≡ length later.nodes = sym (ap length read.nodes_are ∙ length-append now.nodes first.nodes) in
        let rest = in_turn (meanings (drop (i + 1) items)) enclosing first.known (length now.nodes + length first.nodes) in
        let same : rest ≡ made_at (in_turn (meanings (drop (i + 1) items))) enclosing later = rw (← read.known_are, next) refl in
        let none : first.faults ++ rest.faults ≡ rest.faults = rw read.no_faults refl in
        subst (λ made. IsReading whole made before later (results ++ result ∷ [])) same
        (record {
          nodes_are = at_item.nodes_are ∙ sym (append_assoc now.nodes first.nodes rest.nodes) ∙ ap (λ xs. xs ++ rest.nodes) (sym read.nodes_are);
          results_are = at_item.results_are ∙ ap (λ r. results ++ r ∷ rest.result) read.result_is ∙ sym (append_assoc results (result ∷ []) rest.result);
          known_are = at_item.known_are;
          faults_are = at_item.faults_are ∙ none;
        })

    pub item-refused : (e : SchemaError) → Refuses (meaning item) enclosing now e → IsRefusal whole.faults e
    item-refused e refused = rw at_item.faults_are (first-refused (made_at (meaning item) enclosing now).faults _ e refused)

  pub items-read : length items ≤ i → IsRead whole before now results
  items-read past = grind (arith, append-nil, drop_of_length-le)

-- the meanings of branches and of fields
abbrev pub branch_meanings : List Value → List (Meaning ℕ)
branch_meanings vs = branches_of (items_view vs)

abbrev pub list_meanings : List Value → List (Meaning RawField)
list_meanings vs = field_meanings (items_view vs)

pub next_branch : (item : Value) (items : List Value) → branch_meanings (item ∷ items) ≡ meaning_of (view item) ∷ branch_meanings items
next_branch item items = refl

pub next_field : (item : Value) (items : List Value) → list_meanings (item ∷ items) ≡ field_meaning (view item) ∷ list_meanings items
next_field item items = refl
