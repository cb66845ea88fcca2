-- What two records share, by what is found of each field.
use Rattle.std.proofs.Common.{◌≡◌, ◌⊎◌, inl, inr, ◌∙◌, ℕ, suc, List, [], ◌∷◌, Option, Some, None, length, refl, sym, ap, subst, arith, ⊎_elim}
use Rattle.std.specs.Prelude.{slice_get, unwrap_or}
use Rattle.std.proofs.lemmas.Bool.{cases_lt}
use Rattle.std.proofs.lemmas.Option.{slice_get-get_or}
use Rattle.avro_schema.specs.Node.{FieldNode, field_ids}
use Rattle.avro_compare.specs.Entries.{AreAscending, entry_at}
use Rattle.avro_compare.specs.inside.Listed.{AreListedFor, AreListedSources, listed_source, shared_part}
use Rattle.avro_compare.specs.Pairs.{part_to}
use Rattle.avro_compare.specs.Planned.{AreFor, AreSources, part_or_none}
use Rattle.avro_compare.specs.Source.{source_of}
use Rattle.avro_compare.specs.declared.comparison.At.{At}
use Rattle.avro_compare.specs.declared.comparison.At.TheVariants.{Ignored, Pair}
use Rattle.avro_compare.proofs.NoFields.{no_index}
use Rattle.avro_compare.proofs.public.Lists.{got_past}
use Rattle.avro_compare.proofs.public.Sources.{past_all}

-- ---- The sources of the reader's fields

sources_of_none : (rs : List FieldNode) (found : List (Option ℕ)) (kept : List (ℕ × ℕ)) → AreListedSources [] rs found
    → ((k : ℕ) → entry_at kept k ≡ listed_source (slice_get found k)) → (k : ℕ) (f : FieldNode) → slice_get rs k ≡ Some f → entry_at kept k ≡ source_of [] f
sources_of_none rs found kept each same k f is = same k ∙ by (slice_get found k) refl
  where
    by : (o : Option (Option ℕ)) → slice_get found k ≡ o → listed_source o ≡ source_of [] f
    by None e = sym (no_index (f.name ∷ f.aliases))
    by (Some s) e = each k s e f is

sources_of_all : (ws rs : List FieldNode) (found : List (Option ℕ)) (kept : List (ℕ × ℕ)) → AreListedSources ws rs found → length found ≡ length rs
    → ((k : ℕ) → entry_at kept k ≡ listed_source (slice_get found k)) → (k : ℕ) (f : FieldNode) → slice_get rs k ≡ Some f → entry_at kept k ≡ source_of ws f
sources_of_all ws rs found kept each all same k f is = same k ∙ by (slice_get found k) refl
  where
    none_is : {A : Type 0} {x : A} → None ≡ Some x → ⊥
    none_is e = absurd cc

    by : (o : Option (Option ℕ)) → slice_get found k ≡ o → listed_source o ≡ source_of ws f
    by None e = absurd (⊎_elim
        (λ low. none_is (sym e ∙ slice_get-get_or found k None low))
        (λ high. none_is (sym (got_past rs k (omega (arith, high, all))) ∙ is))
        (cases_lt k (length found)))
    by (Some s) e = each k s e f is

pub sources_kept : (ws rs : List FieldNode) (found : List (Option ℕ)) (kept : List (ℕ × ℕ)) → AreListedSources ws rs found → (length found ≡ length rs) ⊎ (ws ≡ [])
    → AreAscending 0 kept × ((k : ℕ) → entry_at kept k ≡ listed_source (slice_get found k)) → AreSources ws rs kept
sources_kept ws rs found kept each (inl all) h = (h.0, λ k f low is. sources_of_all ws rs found kept each all h.1 k f is)
sources_kept ws rs found kept each (inr none) h = (
  h.0,
  λ k f low is. sources_of_none rs found kept (subst (λ (fs : List FieldNode). AreListedSources fs rs found) none each) h.1 k f is
      ∙ ap (λ (fs : List FieldNode). source_of fs f) (sym none),
)

-- ---- What the writer's fields are for

part_back : (o : Option At) (at : At) → o ≡ Some at → part_or_none (shared_part o) ≡ at
part_back o Ignored e = ap (λ (p : Option At). part_or_none (shared_part p)) e
part_back o (Pair w r) e = ap (λ (p : Option At). part_or_none (shared_part p)) e

pub fields_kept : (ws rs : List FieldNode) (parts : List At) (kept : List (ℕ × At)) → AreListedFor ws rs parts → length parts ≡ suc (length ws)
    → AreAscending 0 kept × ((k : ℕ) → entry_at kept k ≡ shared_part (slice_get parts k)) → AreFor ws rs kept
fields_kept ws rs parts kept each all h = (
  h.0,
  λ k low. ap part_or_none (h.1 k) ∙ ⊎_elim
      (λ near.
      let found = slice_get-get_or parts k Ignored near in
      part_back (slice_get parts k) _ found ∙ each k _ found)
      (λ far. ap (λ (o : Option At). part_or_none (shared_part o)) (got_past parts k far)
      ∙ sym (ap (part_to (unwrap_or (slice_get (field_ids ws) k) 0)) (past_all ws rs k (omega (arith, far, all)))))
      (cases_lt k (length parts)),
)
