use Rattle.std.proofs.Common.{◌≡◌, ℕ, ℤ, Bool, true, rules, FitsSigned, w32, w64, refl, ap, sym, ◌∙◌, subst, arith}
use Rattle.std.proofs.lemmas.Int.{to_z-of_z}
use Rattle.std.proofs.lemmas.Result.{err_from_is_err_and}
use Rattle.avro_schema.specs.Fits.{fits}
use Rattle.avro_schema.specs.Node.{Node}
use Rattle.avro_schema.specs.Seen.{node_of, texts_of}
use Rattle.avro_schema.specs.Value.{Value}
use Rattle.avro_cursor.specs.Breaks.{BooleanBreaks, IntBreaks, LongBreaks, BytesBreaks, StringBreaks, IndexBreaks, FixedBreaks}
use Rattle.avro_cursor.specs.Elements.{IsBoolean, IsInt, IsLong, IsIndex}
use Rattle.avro_binary.proofs.CountSteps.{inside_of, finds_inside, passes_inside, counted_found, counted_refused}
use Rattle.avro_binary.proofs.LeafReads.{boolean_found, int_found, long_found, bytes_found, string_found, symbol_found, fixed_found, null_found}
use Rattle.avro_binary.proofs.NodeKinds.{rest_is_null}
use Rattle.avro_binary.proofs.NodeSteps.{enter_refused, texts-length}
use Rattle.avro_binary.proofs.leaves.next_leaf.Goals as goal

pub returns-in_err-count : goal.returns-in_err-count
returns-in_err-count c = λ nodes leaf.
    let p = err_from_is_err_and c.from_residual.result c.from_residual.ensures.1 in
    rw (p.1, p.2) (enter_refused nodes (node_of c.args.node.now) c.args.cursor.now c.count.new.self c.in_err-count.field-0.0 c.in_err-count.ensures.refused)

pub returns-in_err-value-in-Boolean : goal.returns-in_err-value-in-Boolean
returns-in_err-value-in-Boolean c = λ nodes leaf.
    let p = err_from_is_err_and c.from_residual-in_err-value-in-Boolean.result c.from_residual-in_err-value-in-Boolean.ensures.1 in
    rw (ap node_of c.in-Boolean.is, p.1, p.2) (counted_refused nodes Node.boolean BooleanBreaks c.in_ok-count.ensures.counted (λ f b. b) c.in_err-value-in-Boolean.ensures.refused)

pub returns-in_err-value-in-Int : goal.returns-in_err-value-in-Int
returns-in_err-value-in-Int c = λ nodes leaf.
    let p = err_from_is_err_and c.from_residual-in_err-value-in-Int.result c.from_residual-in_err-value-in-Int.ensures.1 in
    rw (ap node_of c.in-Int.is, p.1, p.2) (counted_refused nodes Node.int IntBreaks c.in_ok-count.ensures.counted (λ f b. b) c.in_err-value-in-Int.ensures.refused)

pub returns-in_err-value-in-Long : goal.returns-in_err-value-in-Long
returns-in_err-value-in-Long c = λ nodes leaf.
    let p = err_from_is_err_and c.from_residual-in_err-value-in-Long.result c.from_residual-in_err-value-in-Long.ensures.1 in
    rw (ap node_of c.in-Long.is, p.1, p.2) (counted_refused nodes Node.long LongBreaks c.in_ok-count.ensures.counted (λ f b. b) c.in_err-value-in-Long.ensures.refused)

pub returns-in_err-content-in-Bytes : goal.returns-in_err-content-in-Bytes
returns-in_err-content-in-Bytes c = λ nodes leaf.
    let p = err_from_is_err_and c.from_residual-in_err-content-in-Bytes.result c.from_residual-in_err-content-in-Bytes.ensures.1 in
    rw (ap node_of c.in-Bytes.is, p.1, p.2) (counted_refused nodes Node.bytes (BytesBreaks c.count.new.self.blob) c.in_ok-count.ensures.counted (λ f b. b) c.in_err-content-in-Bytes.ensures.refused)

pub returns-in_err-text-in-Str : goal.returns-in_err-text-in-Str
returns-in_err-text-in-Str c = λ nodes leaf.
    let p = err_from_is_err_and c.from_residual-in_err-text-in-Str.result c.from_residual-in_err-text-in-Str.ensures.1 in
    rw (ap node_of c.in-Str.is, p.1, p.2) (counted_refused nodes Node.string (StringBreaks c.count.new.self.blob) c.in_ok-count.ensures.counted (λ f b. b) c.in_err-text-in-Str.ensures.refused)

pub returns-in_err-index-in-Enum : goal.returns-in_err-index-in-Enum
returns-in_err-index-in-Enum c = λ nodes leaf.
    let is = c.in-Enum.enumeration in
    let same = c.len.ensures ∙ is.symbols.ok.0 ∙ sym (texts-length is.symbols.items) in
    let p = err_from_is_err_and c.from_residual-in_err-index-in-Enum.result c.from_residual-in_err-index-in-Enum.ensures.1 in
    rw (ap node_of c.in-Enum.is, p.1, p.2) (counted_refused nodes (Node.enum c.in-Enum.enumeration.name c.in-Enum.enumeration.aliases.items (texts_of c.in-Enum.enumeration.symbols.items) c.in-Enum.enumeration.default) (IndexBreaks c.len.result) c.in_ok-count.ensures.counted (λ f b. subst (λ (n : ℕ). IndexBreaks n c.count.new.self.bytes f) same b) c.in_err-index-in-Enum.ensures.refused)

pub returns-in_err-content-in-Fixed : goal.returns-in_err-content-in-Fixed
returns-in_err-content-in-Fixed c = λ nodes leaf.
    let p = err_from_is_err_and c.from_residual-in_err-content-in-Fixed.result c.from_residual-in_err-content-in-Fixed.ensures.1 in
    rw (ap node_of c.in-Fixed.is, p.1, p.2) (counted_refused nodes (Node.fixed c.in-Fixed.fixed.name c.in-Fixed.fixed.aliases.items c.in-Fixed.fixed.size) (FixedBreaks c.in-Fixed.fixed.size c.count.new.self.blob) c.in_ok-count.ensures.counted (λ f b. b) c.in_err-content-in-Fixed.ensures.refused)

pub returns-in_ok-value-in-Boolean : goal.returns-in_ok-value-in-Boolean
returns-in_ok-value-in-Boolean c = λ nodes leaf.
    let counted = c.count.new.self in
    let after = c.boolean.new.self in
    let value = c.in_ok-value-in-Boolean.value in
    let found = c.in_ok-value-in-Boolean.ensures.found in
    rw (ap node_of c.in-Boolean.is)
    (counted_found nodes Node.boolean c.args.cursor.now counted after _ c.in_ok-count.ensures.counted found.2.depth
    (boolean_found nodes (inside_of counted) (inside_of after) _ value (finds_inside (λ (x : Bool). x) IsBoolean counted after value found) (λ fit. refl)))

pub returns-in_ok-value-in-Int : goal.returns-in_ok-value-in-Int
returns-in_ok-value-in-Int c = λ nodes leaf.
    let counted = c.count.new.self in
    let after = c.int.new.self in
    let value = c.in_ok-value-in-Int.value in
    let found = c.in_ok-value-in-Int.ensures.found in
    let within : FitsSigned w32 value = search rules in
    rw (ap node_of c.in-Int.is)
    (counted_found nodes Node.int c.args.cursor.now counted after _ c.in_ok-count.ensures.counted found.2.depth
    (int_found nodes (inside_of counted) (inside_of after) _ value (finds_inside (λ (x : ℤ). x) IsInt counted after value found) (λ fit. ap Value.int (to_z-of_z w32 value within))))

pub returns-in_ok-value-in-Long : goal.returns-in_ok-value-in-Long
returns-in_ok-value-in-Long c = λ nodes leaf.
    let counted = c.count.new.self in
    let after = c.long.new.self in
    let value = c.in_ok-value-in-Long.value in
    let found = c.in_ok-value-in-Long.ensures.found in
    let within : FitsSigned w64 value = search rules in
    rw (ap node_of c.in-Long.is)
    (counted_found nodes Node.long c.args.cursor.now counted after _ c.in_ok-count.ensures.counted found.2.depth
    (long_found nodes (inside_of counted) (inside_of after) _ value (finds_inside (λ (x : ℤ). x) IsLong counted after value found) (λ fit. ap Value.long (to_z-of_z w64 value within))))

pub returns-in_ok-content-in-Bytes : goal.returns-in_ok-content-in-Bytes
returns-in_ok-content-in-Bytes c = λ nodes leaf.
    let counted = c.count.new.self in
    let after = c.bytes.new.self in
    let found = c.in_ok-content-in-Bytes.ensures.found in
    rw (ap node_of c.in-Bytes.is)
    (counted_found nodes Node.bytes c.args.cursor.now counted after _ c.in_ok-count.ensures.counted found.2.depth
    (bytes_found nodes (inside_of counted) (inside_of after) _ c.in_ok-content-in-Bytes.content.now found.0 found.1 (passes_inside counted after found.0 found.2) c.drop_content.ensures (λ fit. refl)))

pub returns-in_ok-text-in-Str : goal.returns-in_ok-text-in-Str
returns-in_ok-text-in-Str c = λ nodes leaf.
    let counted = c.count.new.self in
    let after = c.string.new.self in
    let found = c.in_ok-text-in-Str.ensures.found in
    rw (ap node_of c.in-Str.is)
    (counted_found nodes Node.string c.args.cursor.now counted after _ c.in_ok-count.ensures.counted found.2.depth
    (string_found nodes (inside_of counted) (inside_of after) _ c.in_ok-text-in-Str.text.now found.0 found.1 (passes_inside counted after found.0 found.2) (λ fit. refl)))

pub returns-in_ok-index-in-Enum : goal.returns-in_ok-index-in-Enum
returns-in_ok-index-in-Enum c = λ nodes leaf.
    let of = c.in-Enum.enumeration in
    let n = Node.enum of.name of.aliases.items (texts_of of.symbols.items) of.default in
    let counted = c.count.new.self in
    let after = c.index.new.self in
    let found = c.in_ok-index-in-Enum.ensures.found in
    rw (ap node_of c.in-Enum.is)
    (counted_found nodes n c.args.cursor.now counted after _ c.in_ok-count.ensures.counted found.2.depth
    (symbol_found nodes (inside_of counted) (inside_of after) _ of.name of.aliases.items (texts_of of.symbols.items) of.default c.len.result c.in_ok-index-in-Enum.index (c.len.ensures ∙ of.symbols.ok.0 ∙ sym (texts-length of.symbols.items)) (finds_inside (λ (x : ℕ). x) (IsIndex c.len.result) counted after c.in_ok-index-in-Enum.index found) (λ fit. refl)))

pub returns-in_ok-content-in-Fixed : goal.returns-in_ok-content-in-Fixed
returns-in_ok-content-in-Fixed c = λ nodes leaf.
    let of = c.in-Fixed.fixed in
    let n = Node.fixed of.name of.aliases.items of.size in
    let counted = c.count.new.self in
    let after = c.fixed.new.self in
    let found = c.in_ok-content-in-Fixed.ensures.found in
    rw (ap node_of c.in-Fixed.is)
    (counted_found nodes n c.args.cursor.now counted after _ c.in_ok-count.ensures.counted found.2.depth
    (fixed_found nodes (inside_of counted) (inside_of after) _ of.name of.aliases.items of.size c.in_ok-content-in-Fixed.content.now found.0 found.1 (passes_inside counted after found.0 found.2) (omega arith) c.drop_content-in-Fixed.ensures (λ fit. refl)))

pub returns-in_default : goal.returns-in_default
returns-in_default c = λ nodes leaf.
    let counted = c.count.new.self in
    let is = rest_is_null c.args.node.now c.in_default.not-Boolean c.in_default.not-Int c.in_default.not-Long c.in_default.not-Bytes c.in_default.not-Str c.in_default.not-Enum c.in_default.not-Fixed leaf in
    rw is
    (counted_found nodes Node.null c.args.cursor.now counted counted _ c.in_ok-count.ensures.counted refl
    (null_found nodes (inside_of counted) _ (λ fit. refl)))
