use Rattle.std.proofs.Common.{◌≡◌, ◌∙◌, ap, sym, subst, cond, is_some}
use Rattle.avro_schema.specs.Node.{field_ids}
use Rattle.avro_schema.specs.Seen.{node_of, seen_fields, texts_of}
use Rattle.avro_schema.specs.declared.schema.Node.{Node as KeptNode}
use Rattle.avro_compare.specs.Planned.{AreInside}
use Rattle.avro_compare.proofs.public.Symbols.{lacking_some}
use Rattle.avro_least.specs.Asked.{Asked, asked_inside, rows_from}
use Rattle.avro_least.specs.Asks.{view_of}
use Rattle.avro_least.specs.inside.Parts.{nodes_of}
use Rattle.avro_least.proofs.AskedLed.{rows_same}
use Rattle.avro_least.proofs.pairs.asking.ask_inside.Goals as goal

pub returns-in-Enum-r-clause-shown : goal.returns-in-Enum-r-clause-shown
returns-in-Enum-r-clause-shown c =
    let pair = c.args.pair.now in
    let w = KeptNode.Enum c.in-Enum.field-0 in
    let r = KeptNode.Enum c.in-Enum-r.field-0 in
    let inside : AreInside (node_of w) (node_of r) pair =
    subst (λ (n : KeptNode). AreInside (node_of w) (node_of n) pair) c.in-Enum-r.is (subst (λ (n : KeptNode). AreInside (node_of n) (node_of c.args.r.now) pair) c.in-Enum.is c.requires) in
    c.ask_symbols.ensures.shown (nodes_of (node_of c.args.w.now))
    ∙ ap (λ b. cond b Asked.lone Asked.quiet)
    (lacking_some (texts_of c.in-Enum.field-0.symbols.items) (texts_of c.in-Enum-r.field-0.symbols.items) c.in-Enum-r.field-0.default pair.lacking inside.lacking)
    ∙ ap (λ (n : KeptNode). asked_inside (node_of w) (node_of n)) (sym c.in-Enum-r.is)
    ∙ ap (λ (n : KeptNode). asked_inside (node_of n) (node_of c.args.r.now)) (sym c.in-Enum.is)

pub returns-in-Enum-r-clause-taken : goal.returns-in-Enum-r-clause-taken
returns-in-Enum-r-clause-taken c = c.ask_symbols.ensures.taken (node_of c.args.w.now) (node_of c.args.r.now)

pub returns-in-Record-r-clause-shown : goal.returns-in-Record-r-clause-shown
returns-in-Record-r-clause-shown c =
    let pair = c.args.pair.now in
    let w = KeptNode.Record c.in-Record.field-0 in
    let r = KeptNode.Record c.in-Record-r.field-0 in
    let ws = seen_fields c.in-Record.field-0.fields.items in
    let rs = seen_fields c.in-Record-r.field-0.fields.items in
    let inside : AreInside (node_of w) (node_of r) pair =
    subst (λ (n : KeptNode). AreInside (node_of w) (node_of n) pair) c.in-Record-r.is (subst (λ (n : KeptNode). AreInside (node_of n) (node_of c.args.r.now) pair) c.in-Record.is c.requires) in
    let same = c.ask_fields.ensures.shown (field_ids ws)
    ∙ ap (λ rows. cond (is_some pair.missing) Asked.whole (Asked.fields rows)) (rows_same ws rs pair.fields.items inside.fields)
    ∙ ap (λ o. cond (is_some o) Asked.whole (Asked.fields (rows_from ws rs 0 (field_ids ws)))) inside.complete in
    subst (λ (n : KeptNode). view_of (nodes_of (node_of n)) c.ask_fields.result ≡ asked_inside (node_of n) (node_of c.args.r.now)) (sym c.in-Record.is)
    (subst (λ (n : KeptNode). view_of (nodes_of (node_of w)) c.ask_fields.result ≡ asked_inside (node_of w) (node_of n)) (sym c.in-Record-r.is) same)

pub returns-in-Record-r-clause-taken : goal.returns-in-Record-r-clause-taken
returns-in-Record-r-clause-taken c = c.ask_fields.ensures.taken (node_of c.args.w.now) (node_of c.args.r.now) c.requires.fields
