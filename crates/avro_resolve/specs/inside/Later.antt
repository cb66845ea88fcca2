-- What stands for something stands for it later, where what it is made of does.
use Rattle.std.specs.Prelude.{ℕ, List, [], Option, Some, None, Ok, Err, slice_get}
use Rattle.avro_schema.specs.Value.{Value}
use Rattle.avro_schema.specs.Node.{Node, FieldNode, node_at}
use Rattle.avro_binary.specs.Places.{alone, placed}
use Rattle.avro_binary.specs.declared.place.Place.{Place}
use Rattle.avro_resolve.specs.Ends.{Slotted, SlotsAre, SlotsFor}
use Rattle.avro_resolve.specs.inside.Guided.{ItemsStandAs, EntriesStandAs, FieldsStandAs, FillsAs, MadeAs, StandsAs, of_node}
use Rattle.avro_compare.specs.Resolve.{Resolved, Sourced, fields_at, resolve, sourced_at}
use Rattle.avro_compare.specs.declared.comparison.At.{At}
use Rattle.avro_compare.specs.declared.comparison.At.TheVariants.{Ignored, Pair}
use Rattle.avro_resolve.specs.declared.resolving.guided.Made.{Made}
use Rattle.avro_resolve.specs.declared.resolving.guided.Run.{Run}
use Rattle.avro_resolve.specs.declared.resolving.guided.Slots.{Slots}
use Rattle.avro_resolve.specs.declared.resolving.guided.Filling.{Filling}

-- what some answers stand for, at a maker and at a later one
abbrev pub Implies : {O V : Type 0} → (O → V → Type 0) → (O → V → Type 0) → Type 0
Implies {O = O} {V = V} S T = (o : O) (v : V) → S o v → T o v

pub made_later : {O : Type 0} (S T : O → Value → Type 0) → Implies S T → (made : Made O) (resolved : Resolved) → MadeAs S made resolved → MadeAs T made resolved
made_later S T law (Made.Good out) (Ok v) h = law out v h
made_later S T law (Made.Good out) (Err fault) h = elim h [ ]
made_later S T law (Made.Faulty fault) resolved h = h
made_later S T law Made.Nothing resolved h = elim h [ ]

pub stands_later : {O : Type 0} (S T : List Node → Node → Place → O → Value → Type 0) → ((nodes : List Node) (n : Node) (at : Place) → Implies (S nodes n at) (T nodes n at)) → (writer reader nodes : List Node) (n : Node) (at : At) (out : Made O) (v : Value)
    → StandsAs S writer reader nodes n at out v → StandsAs T writer reader nodes n at out v
stands_later S T law writer reader nodes n Ignored out v h = h
stands_later S T law writer reader nodes n (Pair w r) out v h = λ are is.
    made_later (of_node S reader r.0) (of_node T reader r.0) (law reader (node_at reader r.0) (alone r.0)) out (resolve writer reader (node_at writer w.0) (node_at reader r.0) v) (h are is)

pub items_later : {I : Type 0} (S T : List Node → ℕ → Place → I → List Value → Type 0) → ((nodes : List Node) (id : ℕ) (at : Place) → Implies (S nodes id at) (T nodes id at)) → (writer reader nodes : List Node) (id : ℕ) (at : At) (items : Run I) (vs : List Value)
    → ItemsStandAs S writer reader nodes id at items vs → ItemsStandAs T writer reader nodes id at items vs
items_later S T law writer reader nodes id Ignored items vs h = h
items_later S T law writer reader nodes id (Pair w r) (Run.Good items count branch a b) vs h = λ are is.
    let good = h are is in
    record {
      to = good.to;
      leads = good.leads;
      arrives = good.arrives;
      of_writer = good.of_writer;
      of_reader = good.of_reader;
      counted = good.counted;
      made = good.made;
      so_far = good.so_far;
      stands = law reader b.0 (placed branch good.to) items good.made good.stands;
    }
items_later S T law writer reader nodes id (Pair w r) (Run.Faulty fault) vs h = h
items_later S T law writer reader nodes id (Pair w r) Run.Nothing vs h = h

pub entries_later : {I : Type 0} (S T : List Node → ℕ → Place → I → List (List ℕ × Value) → Type 0) → ((nodes : List Node) (id : ℕ) (at : Place) → Implies (S nodes id at) (T nodes id at)) → (writer reader nodes : List Node) (id : ℕ) (at : At) (entries : Run I) (es : List (List ℕ × Value))
    → EntriesStandAs S writer reader nodes id at entries es → EntriesStandAs T writer reader nodes id at entries es
entries_later S T law writer reader nodes id Ignored entries es h = h
entries_later S T law writer reader nodes id (Pair w r) (Run.Good entries count branch a b) es h = λ are is.
    let good = h are is in
    record {
      to = good.to;
      leads = good.leads;
      arrives = good.arrives;
      of_writer = good.of_writer;
      of_reader = good.of_reader;
      counted = good.counted;
      made = good.made;
      so_far = good.so_far;
      stands = law reader b.0 (placed branch good.to) entries good.made good.stands;
    }
entries_later S T law writer reader nodes id (Pair w r) (Run.Faulty fault) es h = h
entries_later S T law writer reader nodes id (Pair w r) Run.Nothing es h = h

slotted_later : {O : Type 0} (S T : O → Value → Type 0) → Implies S T → (o : Option (Option O)) (v : Value) → Slotted S o v → Slotted T o v
slotted_later S T law (Some (Some out)) v h = law out v h
slotted_later S T law (Some None) v h = h
slotted_later S T law None v h = h

pub slots_later : {O : Type 0} (S T : ℕ → O → Value → Type 0) → ((id : ℕ) → Implies (S id) (T id)) → (ws rs : List FieldNode) (found : Sourced) (slots : List (Option O)) → SlotsAre S ws rs found slots → SlotsAre T ws rs found slots
slots_later S T law ws rs found slots h = λ k w r is. slotted_later (S r.0) (T r.0) (law r.0) (slice_get slots k) (sourced_at found k) (h k w r is)

pub slots_for_later : {O : Type 0} (S T : ℕ → O → Value → Type 0) → ((id : ℕ) → Implies (S id) (T id)) → (ws rest : List FieldNode) (found : Sourced) (slots : List (Option O)) → SlotsFor S ws rest found slots → SlotsFor T ws rest found slots
slots_for_later S T law ws rest found slots h = λ g is k src. slotted_later (S g.node) (T g.node) (law g.node) (slice_get slots k) (sourced_at found k) (h g is k src)

module _ {O F : Type 0} (S T : List Node → Node → Place → O → Value → Type 0) (law : (nodes : List Node) (n : Node) (at : Place) → Implies (S nodes n at) (T nodes n at))
    (U V : List Node → List FieldNode → Place → F → List Value → Type 0) (begins : (nodes : List Node) (fs : List FieldNode) (at : Place) (start : F) (vs : List Value) → U nodes fs at start vs → V nodes fs at start vs) (writer reader nodes : List Node) (fs : List FieldNode) where
  pub fields_later : (at : At) (slots : Slots O F) (vs : List Value) → FieldsStandAs S U writer reader nodes fs at slots vs → FieldsStandAs T V writer reader nodes fs at slots vs
  fields_later Ignored slots vs h = h
  fields_later (Pair w r) (Slots.Good slots start branch a b) vs h = λ are is.
      let good = h are is in
      record {
        leads = good.leads;
        arrives = good.arrives;
        of_writer = good.of_writer;
        complete = good.complete;
        counted = good.counted;
        found = good.found;
        below = good.below;
        so_far = good.so_far;
        stands = slots_later (of_node S reader) (of_node T reader) (λ id. law reader (node_at reader id) (alone id)) (fields_at (node_at writer a.0)) (fields_at (node_at reader b.0)) good.found slots.items good.stands;
        starts = begins reader (fields_at (node_at reader b.0)) (placed branch b.0) start [] good.starts;
      }
  fields_later (Pair w r) (Slots.Faulty fault) vs h = h
  fields_later (Pair w r) Slots.Nothing vs h = h

  pub fills_later : (at : At) (fields : Filling O F) (vs : List Value) → FillsAs S U writer reader nodes fs at fields vs → FillsAs T V writer reader nodes fs at fields vs
  fills_later at fields vs h = (fields_later at fields.slots vs h.0, h.1)
