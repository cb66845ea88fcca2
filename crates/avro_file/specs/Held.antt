-- What a buffer holds, and for how many bytes more there is storage.
use Rattle.std.specs.Prelude.{ℕ, ◌-◌, List, length, slice_range}
use Rattle.avro_file.specs.declared.input.buffer.Buffer.{Buffer}

-- the bytes that a buffer holds
abbrev pub held : Buffer → List ℕ
held b = slice_range b.storage.items b.start b.end

-- the storage behind them
abbrev pub free : Buffer → ℕ
free b = length b.storage.items - b.end
