-- Words in a run of bytes, most significant byte first.
use Rattle.std.specs.Prelude.{ℕ, ◌+◌, ◌*◌, ◌/◌, List, map, length, slice_index}
use Rattle.std.specs.List.{range_with_len}

-- the word with index i
abbrev pub word_at : List ℕ → ℕ → ℕ
word_at bytes i = slice_index bytes (4 * i) * 16777216 + slice_index bytes (4 * i + 1) * 65536 + slice_index bytes (4 * i + 2) * 256 + slice_index bytes (4 * i + 3)

-- the whole words; up to three bytes at the end make none
abbrev pub words_in : List ℕ → List ℕ
words_in bytes = map (word_at bytes) (range_with_len 0 (length bytes / 4))
