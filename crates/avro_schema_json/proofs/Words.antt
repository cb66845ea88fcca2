-- The words that most proofs cite, passed on from one place. Declares nothing.
pub use Rattle.avro_name.proofs.public.Names.{bytes_eq-self, bytes_eq-sym, is_eq-then, same_name-is, same_name-self, same_name-sym}
pub use Rattle.avro_name.specs.Name.{Name, has_dot, is_dotted_name, is_namespace, is_primitive_word, name_of, same_name, split_name}
pub use Rattle.avro_schema.proofs.public.NodeFaults.{broken-there, is_schema-from_no_faults, no_faults-from_is_schema, there-contains}
pub use Rattle.avro_schema.proofs.public.RowsSchemas.{aliased_field, default_field, one_value, plain_field, simply, two_values, within}
pub use Rattle.avro_schema.specs.Distinct.{are_distinct}
pub use Rattle.avro_schema.specs.Faulty.{IsRefused, IsThere, NodeFault, breaks, duplicate_field, fault_of, faults_of_nodes, has_fields_rule, invalid_union, limit_exceeded, unknown_node}
pub use Rattle.avro_schema.specs.Node.{FieldNode, Node, field_ids, items_node, node_at, node_name, values_node}
pub use Rattle.avro_schema.specs.Seen.{entries_of, ids_of, seen_fields, texts_of, value_of, values_of}
pub use Rattle.avro_schema.specs.SeenSchema.{draft_nodes, schema_nodes}
pub use Rattle.avro_schema.specs.Value.{Entries, Value, Values, entries_count, entry, keys_of, no_entries, no_values, value, values_count}
pub use Rattle.avro_schema.specs.WellFormed.{BranchKind, branch_kind, field_names, is_edge, is_schema, is_union, max_count, max_nodes, named, same_kind, unnamed}
pub use Rattle.avro_schema.specs.declared.schema.NodeId.{NodeId}
pub use Rattle.avro_schema.specs.declared.schema.Schema.{Schema}
pub use Rattle.avro_schema_json.specs.DeclaredAttributes.{Attribute, alias_texts_from, alias_texts_in, aliases_in, as_texts, default_symbol_from, name_from, name_in, namespace_from, needed, size_in, symbol_index, symbols_in, text_in, texts_of as texts_in, unless}
pub use Rattle.avro_schema_json.specs.DeclaredDefaults.{boolean_default, by_first_fit, bytes_of_text, default_of, default_under, each_default, entries_default, fields_default, first_fit, items_default, member_keys, names_only, null_default, number_default, object_default, only_if, text_default}
pub use Rattle.avro_schema_json.specs.DeclaredFaults.{HasFault, faults_of, or_else, refusals_of_nodes}
pub use Rattle.avro_schema_json.specs.DeclaredSchema.{DeclaresSchema, are_all_defaults_read, are_defaults_read, completed_field, completed_node, completed_nodes, declared, field_default, field_without_default, is_default_read, is_empty, node_without_defaults, nodes_without_defaults}
pub use Rattle.avro_schema_json.specs.Declares.{Form, Known, Made, Meaning, RawField, RawNode, Word, array_form, boolean_word, branches_of, bytes_word, container_of, defining, definition_of, enum_form, enum_named, error_form, faulty, field_meaning, field_meanings, field_of, fields_from, fields_under, fixed_form, fixed_named, form_of, id_of, in_turn, int_word, long_word, made_of, map_form, meaning_of, meaning_under, name_faults, no_field, no_form, no_parts, node_with, null_word, record_form, record_named, reference, string_word, type_name, type_of_form, type_of_word, union_of, unsupported_word, use_of, word_form, word_of}
pub use Rattle.avro_schema_json.specs.Refusals.{refusal_of, refusal_of_fault}
pub use Rattle.avro_schema_json.specs.declared.defaults.parents.Places.{Places}
pub use Rattle.avro_schema_json.specs.declared.defaults.parents.RowWord.{RowWord}
pub use Rattle.avro_schema_json.specs.declared.defaults.parts.Mark.{Mark}
pub use Rattle.avro_schema_json.specs.declared.defaults.rows.Row.{Row}
pub use Rattle.avro_schema_json.specs.declared.error.SchemaError.{SchemaError}
pub use Rattle.avro_schema_json.specs.declared.raw.RawField.{RawField as KeptField}
pub use Rattle.avro_schema_json.specs.declared.raw.RawNode.{RawNode as KeptNode}
pub use Rattle.avro_schema_json.specs.inside.Covers.{Covers, fits, own_ids, owns, place_of}
pub use Rattle.avro_schema_json.specs.inside.Kinds.{AreKinds, HasKind, HasRow, KeepsKinds, kind_of, pair_cmp}
pub use Rattle.avro_schema_json.specs.inside.KnownNames.{AreNumbered, AreWithin, Key, known_in, name_at, number_of}
pub use Rattle.avro_schema_json.specs.inside.Marks.{ArePartsMarked, IsMarked, IsPartUnder, IsSetOf, Stays, marked, member_at, part_at}
pub use Rattle.avro_schema_json.specs.inside.OwnDefaults.{all_without_defaults, default_of_fields, fields_seen, node_or_null, own_default, without_defaults}
pub use Rattle.avro_schema_json.specs.inside.Parents.{AreFields, AreParents, HasField, HasParent, HasParts, IsField, IsParent, IsPart, IsStep, KeepsLabels, KeepsParents, KeepsPlaces, KeepsUnder, Label, Numbered, Parents, Under, has_bit, has_parent, has_parent_at, has_parent_in, has_parent_of, has_parent_under, label_of}
pub use Rattle.avro_schema_json.specs.inside.Reading.{IsAdded, IsAttribute, IsBegun, IsRead, IsRefusal, Reads, Refuses, State, beginning_faults, fields_meaning, limit_faults, made_at}
pub use Rattle.avro_schema_json.specs.inside.ReadingSeen.{Keeps, state_of}
pub use Rattle.avro_schema_json.specs.inside.Repeats.{AreFieldsDistinct, AreNamesDistinct, HasDistinctNames, RecordRepeatsName, Repeats, RepeatsName, SomeRepeats, SomeRepeatsName, code_by, kind_code}
pub use Rattle.avro_schema_json.specs.inside.Rows.{IsWithin, KeepsEither, has_place}
pub use Rattle.avro_schema_json.specs.inside.SeenDefaults.{data_seen, defaults_of_node, fields_with_defaults, lists_seen, nodes_with_defaults}
pub use Rattle.avro_schema_json.specs.inside.SeenRaw.{raw_field_of, raw_fields_of, raw_node_of, raw_nodes_of}
pub use Rattle.avro_schema_json.specs.inside.Steps.{AreSteps, Follows, LeadsTo}
pub use Rattle.avro_schema_json.specs.inside.Symbols.{AreSymbols, HasSymbol, HasSymbols, symbols_of}
pub use Rattle.avro_schema_json.specs.inside.Walk.{AreFirsts, AreMemberMarks, FitsNoneBefore, HasNoneBefore, IsKnown, first_of, mark_of, nodes_of}
pub use Rattle.serde_json.proofs.Views.{Entry, get_item_within, member_here, member_later, view-Array, view-Object, view-lookup, view_of_ref}
pub use Rattle.serde_json.specs.Data.{Data, Items, Members, Num, item, member, no_items, no_members, object}
pub use Rattle.serde_json.specs.Find.{as_i64, as_number, as_str, as_u64, get_item, get_member}
pub use Rattle.serde_json.specs.Read.{read}
pub use Rattle.serde_json.specs.View.{items_view, members_view, view}
pub use Rattle.serde_json.specs.Written.{has_float, items_have_float, members_have_float}
pub use Rattle.serde_json.specs.declared.value.Value.{Value as Tree}
pub use Rattle.std.proofs.Common.{BTreeMap, BTreeSet, Bool, Bor, Contains, Err, Global, IfErr, IfOk, IfSome, IsErrOf, Less, List, None, Ok, OnErr, OnOk, Option, Ordering, Result, Some, String, [], add-one, ap, append-nil, append_assoc, arith, btree_map_len, bytes_eq, codes, cond, drop, drop-cons, false, filter_map, flat_map, get_or, if◌then◌else◌, inl, inr, is_eq, is_some, length, length-append, length-set, map, nat_cmp, nat_le, nat_lt, ne_eqb, negsuc, not, ok_or, option_and_then, option_map, pos, refl, rules, set, slice_get, slice_index_or, slice_set, string_bytes, subst, suc, sym, true, zero, ℕ, ⊎_elim, ◌%◌, ◌&&◌, ◌*◌, ◌++◌, ◌+◌, ◌-◌, ◌/◌, ◌<◌, ◌==◌, ◌^◌, ◌||◌, ◌∙◌, ◌∷◌, ◌≡◌, ◌≢◌, ◌≤◌, ◌⊎◌}
pub use Rattle.std.proofs.Math.Bool.{and_comm, or-false, or-true}
pub use Rattle.std.proofs.lemmas.Bool.{and_parts, cond-false, cond-true, false_from_ne_true, false≢true, not-true, or_parts}
pub use Rattle.std.proofs.lemmas.Bool.Decides.{Decides-eqb, nat_tests}
pub use Rattle.std.proofs.lemmas.List.{drop_more, get_or-set_other, get_or-set_same, length-map, map-append, map-set}
pub use Rattle.std.proofs.lemmas.List.Elements.{Contains-append_left, Contains-append_right}
pub use Rattle.std.proofs.lemmas.List.Folds.{list_all-append, list_any-append}
pub use Rattle.std.proofs.lemmas.Map.Text.{hash_map_updates_str, hash_map_updates_text, is_eq-slice_cmp}
pub use Rattle.std.proofs.lemmas.Nat.Bits.{bit_at-lt, bit_at-zero, bit_at_and, bit_at_or, bit_at_set_same, shr_and_one}
pub use Rattle.std.proofs.lemmas.Option.{none-some, same_Some, slice_get-get_or, slice_get-map, slice_get_past, slice_get_read, slice_get_within}
pub use Rattle.std.proofs.lemmas.Result.{err_from_is_err_and, on_ok_weaker}
pub use Rattle.std.proofs.lemmas.Slice.Eq.{bytes_eq-Decides}
pub use Rattle.std.specs.BTreeMap.{Updates, get, get_by_text, is_at}
pub use Rattle.std.specs.Cmp.{Equal-is, IsEquivalence, both_ways, nat_cmp_is, unsigned_tied}
pub use Rattle.std.specs.Cmp.Lexicographic.{slice_cmp}
pub use Rattle.std.specs.Global.{Vec}
pub use Rattle.std.specs.Int.{bit_at}
pub use Rattle.std.specs.Int.RustNames.{bit_or}
pub use Rattle.std.specs.List.{AllByRecursion, cons_option, list_all, list_any}
pub use Rattle.std.specs.Map.{lookup}
pub use Rattle.std.specs.Ordering.{match_ordering}
pub use Rattle.std.specs.Prelude.{unwrap_or}
pub use Rattle.std.specs.String.{string_cmp}
pub use Rattle.std.specs.Vec.Iter.{into_iter_items}
