use Rattle.avro_schema_json.proofs.Words.{arith, ◌≡◌, ℕ, ◌+◌, List, length, Some, None, option_map, sym, ap, subst, ◌∙◌, rules, unwrap_or, Numbered, Parents, has_parent_of, label_of, HasSymbol, none-some, same_Some, bytes_of_text, HasKind}
use Rattle.avro_schema_json.proofs.LeavesSeen.{text-covered}
use Rattle.avro_schema_json.proofs.defaults.leaves.row_of_text.Goals as goal

symbol-of : (labels : Numbered) (parents : Parents) (last label p : ℕ) (text : List ℕ)
    → label ≡ unwrap_or (label_of labels text) 1 → HasSymbol labels parents last p text → has_parent_of parents (last + 1) label p
symbol-of labels parents last label p text is has = grind arith

pub returns-in-Some : goal.returns-in-Some
returns-in-Some c = λ nodes are.
    let tables = c.args.tables.now in
    let there : Some c.in-Some.bytes.items ≡ bytes_of_text c.args.text.now = ap (option_map (λ b. b.items)) (sym c.in-Some.is) ∙ c.in_ok-found.ensures in
    text-covered nodes tables.last tables.kinds tables.labels tables.parents c.args.text.now c.add_kind-in-Some.new.row.words are.kinds are.symbols (record {
      string = λ p kind. c.add_kind-in-Some.ensures.kept p (c.add_kind.ensures.kept p (c.put_parents_at.ensures.kept p (c.row_of_kind-row.ensures p kind)));
      enums = λ p has. c.add_kind-in-Some.ensures.kept p (c.add_kind.ensures.kept p (c.put_parents_at.ensures.added p (symbol-of tables.labels tables.parents tables.last _ p c.args.text.now c.label_of-label.ensures has)));
      bytes = λ b is p kind. c.add_kind-in-Some.ensures.kept p (c.add_kind.ensures.added p kind);
      fixeds = λ b is p kind.
          let same : length b ≡ c.len.result = ap (λ (xs : List ℕ). length xs) (same_Some b c.in-Some.bytes.items (sym is ∙ sym there)) ∙ search rules in
          c.add_kind-in-Some.ensures.added p (subst (λ (k : ℕ). HasKind tables.kinds (11, k) p) same kind);
    })

pub returns-in-None : goal.returns-in-None
returns-in-None c = λ nodes are.
    let tables = c.args.tables.now in
    let none : None ≡ bytes_of_text c.args.text.now = ap (option_map (λ b. b.items)) (sym c.in-None.is) ∙ c.in_ok-found.ensures in
    text-covered nodes tables.last tables.kinds tables.labels tables.parents c.args.text.now c.put_parents_at.new.row.words are.kinds are.symbols (record {
      string = λ p kind. c.put_parents_at.ensures.kept p (c.row_of_kind-row.ensures p kind);
      enums = λ p has. c.put_parents_at.ensures.added p (symbol-of tables.labels tables.parents tables.last _ p c.args.text.now c.label_of-label.ensures has);
      bytes = λ b is. absurd (none-some b (none ∙ is));
      fixeds = λ b is. absurd (none-some b (none ∙ is));
    })
