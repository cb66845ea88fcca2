-- Lists that go together, item by item.
use Rattle.std.proofs.Common.{◌≡◌, List, [], ◌∷◌, ◌++◌, refl}
use Rattle.std.specs.List.{AllZip}
use Rattle.std.specs.Prelude.{map}

-- one more of each
pub zipped-push : {A B : Type 0} (R : A → B → Type 0) (xs : List A) (ys : List B) (x : A) (y : B) → AllZip R xs ys → R x y → AllZip R (xs ++ x ∷ []) (ys ++ y ∷ [])
zipped-push R [] [] x y h r = (r, tt)
zipped-push R [] (b ∷ ys) x y h r = absurd h
zipped-push R (a ∷ xs) [] x y h r = absurd h
zipped-push R (a ∷ xs) (b ∷ ys) x y h r = (h.0, zipped-push R xs ys x y h.1 r)

-- images of each
pub zipped-map : {A B : Type 0} (f : A → B) (xs : List A) (ys : List B) → AllZip (λ x y. f x ≡ y) xs ys → map f xs ≡ ys
zipped-map f [] [] h = refl
zipped-map f [] (y ∷ ys) h = absurd h
zipped-map f (x ∷ xs) [] h = absurd h
zipped-map f (x ∷ xs) (y ∷ ys) h = λ i. h.0 i ∷ zipped-map f xs ys h.1 i
