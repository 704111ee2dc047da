-- What a table of keys holds: the table's first entry is for place 1, and so on.
use Rattle.std.specs.Prelude.{ℕ, zero, suc, cond, List, None, Option, nat_lt, slice_index_or}

-- the key of a place; one has at most 32 bits, so entries past the 4294967295th are for none
abbrev pub held_in : List (Option ℕ) → ℕ → Option ℕ
held_in keys zero = None
held_in keys (suc i) = cond (nat_lt i 4294967295) (slice_index_or keys i None) None
