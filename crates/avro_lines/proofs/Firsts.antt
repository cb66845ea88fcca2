-- Data that are whole at the front of a block are the first of all of them, and the next one stands behind them.
use Rattle.std.proofs.Common.{◌≡◌, ℕ, zero, suc, ◌+◌, ◌<◌, ◌≤◌, true, List, [], ◌∷◌, ◌++◌, length, take, drop, Ok, refl, sym, ap, subst, ◌∙◌, arith, append_assoc, append-nil, length-append}
use Rattle.std.specs.List.{concat}
use Rattle.std.proofs.lemmas.Bool.{and_parts}
use Rattle.std.proofs.lemmas.List.{take_at, take-append-drop}
use Rattle.std.proofs.lemmas.List.Folds.{concat-append}
use Rattle.avro_schema.specs.Fits.{fits, each_fits, is_within}
use Rattle.avro_schema.specs.Node.{Node, root_of}
use Rattle.avro_schema.specs.Value.{Value, Values, no_values, value, values_count}
use Rattle.avro_cursor.specs.Encoding.{EachSpelled, Encodes}
use Rattle.avro_cursor.proofs.public.Fronts.{same_behind}
use Rattle.avro_compare.specs.Resolve.{Resolved}
use Rattle.avro_file.specs.BlockFails.{BlockReading, DataAreWhole, each_within}
use Rattle.avro_file.specs.Copied.{EachResolved}
use Rattle.avro_file.proofs.public.Data.{add}
use Rattle.avro_file.proofs.public.Known.{Prefix}
use Rattle.avro_lines.specs.Lines.{line_of, lines_of}
use Rattle.avro_lines.specs.inside.DataShown.{Stands, first_of, text_of}

same_ok : (u w : Value) → ◌≡◌ {A = Resolved} (Ok u) (Ok w) → u ≡ w
same_ok u w q = cc

-- ---- lines

pub lines-count : (nodes : List Node) (us : Values) → length (lines_of nodes us) ≡ values_count us
lines-count nodes no_values = refl
lines-count nodes (value u us) = ap suc (lines-count nodes us)

lines-add : (nodes : List Node) (us : Values) (u : Value) → lines_of nodes (add us u) ≡ lines_of nodes us ++ line_of nodes u ∷ []
lines-add nodes no_values u = refl
lines-add nodes (value w us) u = ap (λ (ls : List (List ℕ)). line_of nodes w ∷ ls) (lines-add nodes us u)

pub text-add : (nodes : List Node) (us : Values) (u : Value) → text_of nodes (add us u) ≡ text_of nodes us ++ line_of nodes u
text-add nodes us u =
    ap concat (lines-add nodes us u) ∙ concat-append (lines_of nodes us) (line_of nodes u ∷ [])
    ∙ ap (λ (b : List ℕ). text_of nodes us ++ b) (append-nil (line_of nodes u))

take_first : (m n : ℕ) (ls : List (List ℕ)) → m ≤ n → take m (take n ls) ≡ take m ls
take_first zero n ls few = refl
take_first (suc m) zero ls few = absurd (omega (arith, few))
take_first (suc m) (suc n) [] few = refl
take_first (suc m) (suc n) (l ∷ ls) few = ap (λ (q : List (List ℕ)). l ∷ q) (take_first m n ls (omega (arith, few)))

-- the first lines are those of the first few and the others
pub first-split : (nodes : List Node) (m count : ℕ) (us : Values) → m ≤ count
    → first_of nodes count us ≡ first_of nodes m us ++ concat (drop m (take count (lines_of nodes us)))
first-split nodes m count us few =
    let ls = take count (lines_of nodes us) in
    ap concat (sym (take-append-drop m ls)) ∙ concat-append (take m ls) (drop m ls)
    ∙ ap (λ (q : List (List ℕ)). concat q ++ concat (drop m ls)) (take_first m count (lines_of nodes us) few)

-- as many are made of data as there are
pub made-count : (resolve : Value → Resolved) (vs us : Values) → EachResolved resolve vs us → values_count us ≡ values_count vs
made-count resolve no_values us e = ap values_count e
made-count resolve (value v vs) us (first, others, made, more, e) = ap values_count e ∙ ap suc (made-count resolve vs others more)

-- ---- the first of all

first-lines : Prefix → (r : BlockReading) (nodes : List Node) (vs us ws made : Values) (items others : List (List ℕ)) (behind : List ℕ)
    → values_count ws ≤ values_count vs → each_fits r.nodes (root_of r.nodes) vs ≡ true → EachSpelled vs items → EachResolved r.resolve vs us
    → each_fits r.nodes (root_of r.nodes) ws ≡ true → EachSpelled ws others → EachResolved r.resolve ws made
    → concat items ≡ concat others ++ behind → lines_of nodes made ≡ take (values_count ws) (lines_of nodes us)
first-lines prefix r nodes vs us no_values made items others behind few f s m g t n e = ap (lines_of nodes) n
first-lines prefix r nodes no_values us (value w ws) made items others behind few f s m g t n e = absurd (omega (arith, few))
first-lines prefix r nodes (value v vs) us (value w ws) made items others behind few f (x, xs, s, ss, is) (u, us', m, ms, are) g (y, ys, t, ts, js) (o, os, n, ns, ones) e =
    let fit = and_parts (fits r.nodes (root_of r.nodes) v) (each_fits r.nodes (root_of r.nodes) vs) f in
    let fit' = and_parts (fits r.nodes (root_of r.nodes) w) (each_fits r.nodes (root_of r.nodes) ws) g in
    let joined : x ++ concat xs ≡ y ++ (concat ys ++ behind) =
    sym (ap concat is) ∙ e ∙ ap (λ (q : List (List ℕ)). concat q ++ behind) js ∙ append_assoc y (concat ys) behind in
    let told = prefix r.nodes (root_of r.nodes) v w x y (concat xs) (concat ys ++ behind) (record { fitting = fit.0; spelled = s }) (record { fitting = fit'.0; spelled = t }) joined in
    let tail = same_behind x y (concat xs) (concat ys ++ behind) told.0 joined in
    let counts : values_count ws ≤ values_count vs = omega (arith, few) in
    let same : o ≡ u = same_ok o u (sym n ∙ ap r.resolve (sym told.1) ∙ m) in
    let rest = first-lines prefix r nodes vs us' ws os xs ys behind counts fit.1 ss ms fit'.1 ts ns tail in
    ap (lines_of nodes) ones ∙ (λ i. line_of nodes (same i) ∷ rest i) ∙ sym (ap (λ (q : Values). take (suc (values_count ws)) (lines_of nodes q)) are)

pub lines-first : Prefix → (r : BlockReading) (nodes : List Node) (all m : ℕ) (body front behind : List ℕ) (us made : Values) → m ≤ all
    → DataAreWhole r all body us → DataAreWhole r m front made → body ≡ front ++ behind → text_of nodes made ≡ first_of nodes m us
lines-first prefix r nodes all m body front behind us made few whole part e =
    let mine = whole.counted in
    let its = part.counted in
    ap concat (subst (λ (n : ℕ). lines_of nodes made ≡ take n (lines_of nodes us)) its
    (first-lines prefix r nodes whole.values us part.values made whole.items part.items behind (omega (arith, few, mine, its)) whole.fitting whole.spelled whole.resolved
    part.fitting part.spelled part.resolved (sym whole.bytes_are ∙ e ∙ ap (λ (b : List ℕ). b ++ behind) part.bytes_are)))

-- ---- the next one

next-one : Prefix → (r : BlockReading) (vs us ws made : Values) (items others : List (List ℕ)) (behind : List ℕ) → values_count ws < values_count vs
    → each_fits r.nodes (root_of r.nodes) vs ≡ true → each_within r.limits.datum vs ≡ true → EachSpelled vs items → EachResolved r.resolve vs us
    → each_fits r.nodes (root_of r.nodes) ws ≡ true → EachSpelled ws others → EachResolved r.resolve ws made
    → concat items ≡ concat others ++ behind → (u : Value) × (size : ℕ) × Stands r behind size u
next-one prefix r no_values us ws made items others behind fewer f w s m g t n e = absurd (omega (arith, fewer))
next-one prefix r (value v vs) us no_values made items others behind fewer f w (x, xs, s, ss, is) (u, us', m, ms, are) g t n e =
    let fit = and_parts (fits r.nodes (root_of r.nodes) v) (each_fits r.nodes (root_of r.nodes) vs) f in
    let inside = and_parts (is_within r.limits.datum v) (each_within r.limits.datum vs) w in
    let split : behind ≡ x ++ concat xs = sym (e ∙ ap (λ (q : List (List ℕ)). concat q ++ behind) t) ∙ ap concat is in
    let long = ap length split ∙ length-append x (concat xs) in
    let front : x ≡ take (length x) behind = sym (ap (take (length x)) split ∙ take_at x (concat xs) (length x) refl) in (
      u,
      length x,
      record {
        datum = v;
        in_bytes = omega (arith, long);
        encoded = subst (λ (b : List ℕ). Encodes r.nodes (root_of r.nodes) v b) front (record { fitting = fit.0; spelled = s });
        within = inside.0;
        resolves = m;
      },
    )
next-one prefix r (value v vs) us (value w ws) made items others behind fewer f i (x, xs, s, ss, is) (u, us', m, ms, are) g (y, ys, t, ts, js) (o, os, n, ns, ones) e =
    let fit = and_parts (fits r.nodes (root_of r.nodes) v) (each_fits r.nodes (root_of r.nodes) vs) f in
    let fit' = and_parts (fits r.nodes (root_of r.nodes) w) (each_fits r.nodes (root_of r.nodes) ws) g in
    let inside = and_parts (is_within r.limits.datum v) (each_within r.limits.datum vs) i in
    let joined : x ++ concat xs ≡ y ++ (concat ys ++ behind) =
    sym (ap concat is) ∙ e ∙ ap (λ (q : List (List ℕ)). concat q ++ behind) js ∙ append_assoc y (concat ys) behind in
    let told = prefix r.nodes (root_of r.nodes) v w x y (concat xs) (concat ys ++ behind) (record { fitting = fit.0; spelled = s }) (record { fitting = fit'.0; spelled = t }) joined in
    let counts : values_count ws < values_count vs = omega (arith, fewer) in
    next-one prefix r vs us' ws os xs ys behind counts fit.1 inside.1 ss ms fit'.1 ts ns (same_behind x y (concat xs) (concat ys ++ behind) told.0 joined)

pub next-stands : Prefix → (r : BlockReading) (all m : ℕ) (body front behind : List ℕ) (us made : Values) → m < all → DataAreWhole r all body us
    → DataAreWhole r m front made → body ≡ front ++ behind → (u : Value) × (size : ℕ) × Stands r behind size u
next-stands prefix r all m body front behind us made fewer whole part e =
    let mine = whole.counted in
    let its = part.counted in
    next-one prefix r whole.values us part.values made whole.items part.items behind (omega (arith, fewer, mine, its)) whole.fitting whole.within whole.spelled whole.resolved
    part.fitting part.spelled part.resolved (sym whole.bytes_are ∙ e ∙ ap (λ (b : List ℕ). b ++ behind) part.bytes_are)
