-- Worked texts of certificates.
use Rattle.std.proofs.Common.{◌≡◌, ℕ, inr, true, false, List, [], ◌∷◌, refl, ap, ◌∙◌}
use Rattle.std.proofs.lemmas.Bool.{false≢true}
use Rattle.std.specs.Prelude.{codes}
use Rattle.avro_compare.specs.Children.{Pair}
use Rattle.avro_certificate.specs.CertificateText.{CertText, certificate_text, decimal, is_rising, is_before, are_small}
use Rattle.avro_certificate.specs.CertificateRead.{HasGreatNumber, IsMalformed}
use Rattle.avro_certificate.proofs.LineTexts.{text_same}

p : ℕ → ℕ → Pair
p w r = record { w = w; r = r }

-- a list node of a value and the next one, read with a wider number
chain : List Pair
unfolding p
chain = p 0 0 ∷ p 0 2 ∷ p 1 1 ∷ p 2 2 ∷ p 3 2 ∷ p 3 3 ∷ []

chain_text : CertText [] chain (codes "approval 1\npair 0 0\npair 0 2\npair 1 1\npair 2 2\npair 3 2\npair 3 3\nend\n")
unfolding p chain
chain_text = record { rising = refl; rising_pairs = refl; written = refl }

-- a record that holds itself has no datum
dead_text : CertText (0 ∷ []) [] (codes "approval 1\ndead 0\nend\n")
dead_text = record { rising = refl; rising_pairs = refl; written = refl }

empty_text : CertText [] [] (codes "approval 1\nend\n")
empty_text = record { rising = refl; rising_pairs = refl; written = refl }

zero_digits : decimal 0 ≡ codes "0"
zero_digits = refl

greatest_digits : decimal 4095 ≡ codes "4095"
greatest_digits = refl

tens_digits : decimal 1000 ≡ codes "1000"
tens_digits = refl

-- one pair twice, and two in the wrong order
twice : is_rising is_before (p 0 0 ∷ p 0 0 ∷ []) ≡ false
unfolding p
twice = refl

by_writer_first : is_rising is_before (p 0 9 ∷ p 1 0 ∷ []) ≡ true
unfolding p
by_writer_first = refl

reader_falls : is_rising is_before (p 1 2 ∷ p 1 1 ∷ []) ≡ false
unfolding p
reader_falls = refl

great : are_small [] (p 0 4096 ∷ []) ≡ false
unfolding p
great = refl

greatest : are_small (4095 ∷ []) (p 4095 4095 ∷ []) ≡ true
unfolding p
greatest = refl

-- the form of a text with a number over 4,095, which no bound asks for
great_text : HasGreatNumber (codes "approval 1\npair 0 4096\nend\n")
unfolding p
great_text = record { dead = []; pairs = p 0 4096 ∷ []; written = refl; great = refl }

-- no text, and one pair twice in a text
nothing_written : IsMalformed []
nothing_written = inr (λ dead pairs certified. is_no_text dead pairs certified.written)
  where
    is_no_text : (dead : List ℕ) (pairs : List Pair) → [] ≡ certificate_text dead pairs → ⊥
    is_no_text dead pairs h = cc

twice_written : IsMalformed (codes "approval 1\npair 0 0\npair 0 0\nend\n")
unfolding p
twice_written = inr (λ dead pairs certified. false≢true
    (ap (is_rising is_before) (text_same [] dead (p 0 0 ∷ p 0 0 ∷ []) pairs certified.written).1 ∙ certified.rising_pairs))
