use Rattle.std.proofs.Common.{◌≡◌, ℕ, true, List, [], ◌∷◌, ◌++◌, ◌&&◌, ◌||◌, inl, inr, take, get_or, refl, sym, ◌∙◌, ap, subst, append_assoc}
use Rattle.std.proofs.lemmas.Bool.{and_from}
use Rattle.std.proofs.lemmas.List.{take_more}
use Rattle.std.proofs.lemmas.List.Folds.{list_all-append}
use Rattle.std.specs.List.{list_all}
use Rattle.indexmap.specs.IndexSet.{keys}
use Rattle.avro_least.specs.Reached.{is_key}
use Rattle.avro_least.proofs.public.Keys.{added, keys_kept, key_more, IsAdded}
use Rattle.avro_certificate.proofs.public.Tests.{and_left, and_right, or_cases, or_from_left, or_from_right}
use Rattle.avro_least.proofs.pairs.reaching.add_all.Goals as goal

old_or_more : (old more known : List ℕ) (k q : ℕ) → (is_key known q ≡ true → (is_key old q || is_key more q) ≡ true)
    → (is_key known q || is_key (k ∷ []) q) ≡ true → (is_key old q || is_key (more ++ k ∷ []) q) ≡ true
old_or_more old more known k q before h = elim (or_cases (is_key known q) (is_key (k ∷ []) q) h) [
  | inl m ↦ elim (or_cases (is_key old q) (is_key more q) (before m)) [
    | inl first ↦ or_from_left (is_key old q) (is_key (more ++ k ∷ []) q) first
    | inr later ↦ or_from_right (is_key old q) (is_key (more ++ k ∷ []) q) (key_more more k q (or_from_left (is_key more q) (is_key (k ∷ []) q) later))
  ]
  | inr m ↦ or_from_right (is_key old q) (is_key (more ++ k ∷ []) q) (key_more more k q (or_from_right (is_key more q) (is_key (k ∷ []) q) m))
]

pub loop-key-preserved : goal.loop-key-preserved
loop-key-preserved c =
    let inv = c.loop-key.invariant in
    let k : ℕ = get_or c.args.more.now c.loop-key.key-index 0 in
    let one : IsAdded (keys c.loop-key.known) k (keys c.add_next.new.known) =
    subst (λ (ks : List ℕ). IsAdded (keys c.loop-key.known) k ks) (sym c.in_ok-add_next.ensures) (added (keys c.loop-key.known) k) in
    let more = take_more c.args.more.now c.loop-key.key-index 0 c.loop-key-test.true in (
      (inv.0.0 ++ one.rest, one.is ∙ ap (λ ks. ks ++ one.rest) inv.0.1 ∙ append_assoc (keys c.args.known.now) inv.0.0 one.rest),
      rw more (list_all-append (is_key (keys c.add_next.new.known)) (take c.loop-key.key-index c.args.more.now) (k ∷ [])
          ∙ and_from (list_all (is_key (keys c.add_next.new.known)) (take c.loop-key.key-index c.args.more.now)) (is_key (keys c.add_next.new.known) k && true)
          (subst (λ (ks : List ℕ). list_all (is_key ks) (take c.loop-key.key-index c.args.more.now) ≡ true) (sym one.is)
          (keys_kept (keys c.loop-key.known) one.rest (take c.loop-key.key-index c.args.more.now) inv.1))
          (and_from (is_key (keys c.add_next.new.known) k) true one.there refl)),
      λ P old new.
          let parts = sym (list_all-append P (take c.loop-key.key-index c.args.more.now) (k ∷ []))
          ∙ subst (λ (ks : List ℕ). list_all P ks ≡ true) more new in
          one.all P (inv.2 P old (and_left _ _ parts)) (and_left (P k) true (and_right (list_all P (take c.loop-key.key-index c.args.more.now)) _ parts)),
      λ q m. subst (λ (ks : List ℕ). (is_key (keys c.args.known.now) q || is_key ks q) ≡ true) (sym more)
          (old_or_more (keys c.args.known.now) (take c.loop-key.key-index c.args.more.now) (keys c.loop-key.known) k q (inv.3 q) (one.from q m)),
    )
