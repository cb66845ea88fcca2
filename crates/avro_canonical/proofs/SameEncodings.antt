-- Schemas of one canonical text have the same encodings.
use Rattle.std.proofs.Common.{◌≡◌, ℕ, true, List, [], ◌++◌, ◌↔◌, sym, ◌∙◌, ap, subst}
use Rattle.avro_schema.specs.Value.{Value}
use Rattle.avro_schema.specs.Node.{Node, root_of}
use Rattle.avro_schema.specs.WellFormed.{is_schema}
use Rattle.avro_cursor.specs.Encoding.{Encodes}
use Rattle.avro_canonical.specs.Canonical.{IsForm, IsCanonical}
use Rattle.avro_schema.proofs.public.GoodNodes.{good_at}
use Rattle.avro_canonical.proofs.FormsWellMade.{well_made}
use Rattle.avro_canonical.proofs.SameText.{same_form}
use Rattle.avro_canonical.proofs.FormsAlike.{same_at_roots}

-- they have one form
form_shared : (a b : List Node) (text : List ℕ) → is_schema a ≡ true → is_schema b ≡ true → (x : IsCanonical a text) → (y : IsCanonical b text) → x.form ≡ y.form
form_shared a b text first second x y =
    (same_form x.form [] (well_made first (good_at a first 0) x.formed) y.form [] (well_made second (good_at b second 0) y.formed) [] []
    (ap (λ t. t ++ []) (sym x.spelled ∙ y.spelled))).0

pub same_encodings : (nodes others : List Node) (text : List ℕ) → is_schema nodes ≡ true → is_schema others ≡ true → IsCanonical nodes text → IsCanonical others text
    → (v : Value) (bytes : List ℕ) → Encodes nodes (root_of nodes) v bytes ↔ Encodes others (root_of others) v bytes
same_encodings nodes others text first second x y v bytes =
    let same = same_at_roots nodes others y.form first second (subst (λ f. IsForm nodes [] (root_of nodes) f) (form_shared nodes others text first second x y) x.formed) y.formed v in
    (λ e. record { fitting = sym same ∙ e.fitting; spelled = e.spelled }, λ e. record { fitting = same ∙ e.fitting; spelled = e.spelled })
