use Rattle.avro_schema_json.proofs.Words.{refl, subst, sym, ap, ◌∙◌, err_from_is_err_and, is_some, members_view, Node, name_in, RawNode, defining, id_of, State, IsAdded, state_of}
use Rattle.avro_schema_json.proofs.KnownFound.{found_in}
use Rattle.avro_schema_json.proofs.PartsRead.{beginning-unnamed, named-by, ok-or_memory, not_some, name_faults-new, beginning-known}
use Rattle.avro_schema_json.proofs.declarations.progress.Progress.begin.Goals as goal

pub returns-in_err-name-clause-refused : goal.returns-in_err-name-clause-refused
returns-in_err-name-clause-refused c =
    let p = err_from_is_err_and c.from_residual.result c.from_residual.ensures.1 in
    let is = named-by c.args.enclosing.now.namespace (members_view c.args.members.now.entries) _ _ _ c.member-own.ensures c.text-word.ensures refl in
    rw (p.1, p.2) (beginning-unnamed (state_of c.args.self.now) _ _ c.in_err-name.field-0.0 (sym is) c.in_err-name.ensures)

pub returns-then-is_some-clause-refused : goal.returns-then-is_some-clause-refused
returns-then-is_some-clause-refused c =
    let name = c.in_ok-name.name in
    let before = state_of c.args.self.now in
    let same = ap (λ (s : State). s.known) c.in_ok-space.ensures.state in
    let is = found_in c.space_of.new.self.names c.in_ok-space.space name c.simple.result.now c.id_in.result before.known
    c.in_ok-space.ensures.numbered c.in_ok-space.ensures.namespace c.simple.ensures.part same c.id_in.ensures in
    beginning-known before (name_in c.args.enclosing.now.namespace (members_view c.args.members.now.entries)) name
    (named-by _ (members_view c.args.members.now.entries) _ _ _ c.member-own.ensures c.text-word.ensures (ok-or_memory name _ c.in_ok-name.ensures)) (ap is_some (sym is) ∙ sym c.is_some.ensures ∙ c.if-is_some.true)

pub space_of-requires : goal.space_of-requires
space_of-requires c = (c.requires, λ inherited. c.inherits.ensures inherited _ _ (ok-or_memory c.in_ok-name.name _ c.in_ok-name.ensures))

pub add-requires : goal.add-requires
add-requires c =
    let name = c.in_ok-name.name in
    let space = c.in_ok-space.space in
    let is = found_in c.space_of.new.self.names space name c.simple.result.now c.id_in.result _
    c.in_ok-space.ensures.numbered c.in_ok-space.ensures.namespace c.simple.ensures.part refl c.id_in.ensures in
    let absent = not_some _ (ap is_some (sym is) ∙ sym c.is_some.ensures ∙ c.if-is_some.false) in (
      c.reserve.ensures.kept space.namespace space.number c.in_ok-space.ensures.numbered,
      c.in_ok-space.ensures.namespace,
      ap (id_of name) c.in_ok-id.ensures.added.known_are ∙ absent,
    )

pub returns-in_err-add-clause-kept : goal.returns-in_err-add-clause-kept
returns-in_err-add-clause-kept c = λ namespace number h.
    c.add.ensures.kept namespace number (c.reserve.ensures.kept namespace number (c.space_of.ensures.kept namespace number h))

pub returns-clause-kept : goal.returns-clause-kept
returns-clause-kept c = λ namespace number h.
    c.add.ensures.kept namespace number (c.reserve.ensures.kept namespace number (c.space_of.ensures.kept namespace number h))

pub returns-clause-numbered : goal.returns-clause-numbered
returns-clause-numbered c =
    let space = c.in_ok-space.space in
    c.add.ensures.kept space.namespace space.number (c.reserve.ensures.kept space.namespace space.number c.in_ok-space.ensures.numbered)

pub returns-clause-begun : goal.returns-clause-begun
returns-clause-begun c =
    let name = c.in_ok-name.name in
    let before = state_of c.args.self.now in
    let state = c.in_ok-space.ensures.state in
    let same = ap (λ (s : State). s.known) state in
    let added = subst (λ (s : State). IsAdded s (state_of c.reserve.new.self) (RawNode.plain Node.null) c.in_ok-id.id.0) state c.in_ok-id.ensures.added in
    let is = found_in c.space_of.new.self.names c.in_ok-space.space name c.simple.result.now c.id_in.result before.known
    c.in_ok-space.ensures.numbered c.in_ok-space.ensures.namespace c.simple.ensures.part same c.id_in.ensures in
    let absent = not_some (id_of name before.known) (ap is_some (sym is) ∙ sym c.is_some.ensures ∙ c.if-is_some.false) in
    record {
      name_is = named-by _ (members_view c.args.members.now.entries) _ _ _ c.member-own.ensures c.text-word.ensures (ok-or_memory name _ c.in_ok-name.ensures);
      id_is = added.id_is;
      within = added.within;
      is_new = name_faults-new name before.known absent;
      nodes_are = added.nodes_are;
      known_are = c.in_ok-add.ensures.added ∙ ap (λ known. defining name c.in_ok-id.id.0 known) added.known_are ∙ ap (λ id. defining name id before.known) added.id_is;
    }
