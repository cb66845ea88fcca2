use Rattle.avro_schema_json.proofs.Words.{rules, arith, ◌≡◌, ◌-◌, suc, ap, ◌∙◌, string_bytes, hash_map_updates_text}
use Rattle.indexmap.specs.IndexMap.{get_by_text}
use Rattle.avro_schema_json.proofs.SymbolsFound.{index_from, index_next}
use Rattle.avro_schema_json.proofs.symbol_indices.symbol_indices.Goals as goal

pub loop-left-preserved : goal.loop-left-preserved
loop-left-preserved c =
    let l = c.loop-left in
    let symbols = c.args.symbols.now in
    let key = c.in_ok-symbol.symbol in
    let indexed : c.in-Ok.index ≡ l.left - 1 = search rules in
    let one : l.left ≡ suc (l.left - 1) = omega (arith, c.loop-left-test.true) in (
      omega (arith, l.invariant.0),
      λ word.
          index_next symbols (l.left - 1) c.index-symbols-left.result key c.in-Ok.index word (get_by_text l.indices word) (get_by_text c.insert.new.self word)
          (omega (arith, c.loop-left-test.true, l.invariant.0)) c.index-symbols-left.is (c.in_ok-symbol.ensures ∙ c.as_str.ensures.value) indexed
          (l.invariant.1 word ∙ ap (index_from word symbols) one)
          (hash_map_updates_text (string_bytes key) l.indices c.insert.new.self _ c.in_ok-insert.ensures.updates word),
    )
