-- What a maker makes of a datum.
use Rattle.avro_schema.specs.Value.{Value}

-- the maker keeps what it made before, and with what it is now the result stands for the datum
abbrev pub Made : {S R : Type 0} → (S → S → Type 0) → (S → R → Value → Type 0) → S → S → R → Value → Type 0
Made keeps stands before after r v = keeps before after × stands after r v
