-- The earliest arrivals, computed: links are tried in rounds until a round lowers nothing.
use Rattle.std.specs.Prelude.{ℕ, zero, suc, ◌+◌, min, true, false, List, [], ◌∷◌, replicate, Some, None, Option, ◌==◌, slice_index_or, slice_set}
use Rattle.network.specs.Meaning.{Meaning}

-- the arrival over link k of one who comes to its tail at that tick, or never
abbrev pub after : Meaning → ℕ → Option ℕ → Option ℕ
after net k None = None
after net k (Some t) = net.arrival k t

-- the earlier of two arrivals
abbrev pub earlier : Option ℕ → Option ℕ → Option ℕ
earlier None b = b
earlier (Some a) None = Some a
earlier (Some a) (Some b) = Some (min a b)

-- the earliest arrival found so far for each place, by its number; number 0 is no place
abbrev pub Table : Type 0
Table = List (Option ℕ)

-- link k tried once
abbrev pub tried : Meaning → Table → ℕ → Table
tried net found k = slice_set found (net.head k) (earlier (slice_index_or found (net.head k) None) (after net k (slice_index_or found (net.tail k) None)))

-- the links 1 to k tried in turn
abbrev pub round : Meaning → ℕ → Table → Table
round net zero found = found
round net (suc k) found = tried net (round net k found) (suc k)

-- the sum of a table, where none counts as one more than the last tick
abbrev pub key : ℕ → Option ℕ → ℕ
key last None = suc last
key last (Some a) = a

abbrev pub total : ℕ → Table → ℕ
total last [] = 0
total last (o ∷ os) = key last o + total last os

-- rounds over all links until one lowers nothing; each other round lowers the sum, so the sum bounds their number
abbrev pub settled : Meaning → ℕ → Table → Table
settled net zero found = found
settled net (suc rounds) found =
    let next : Table = round net net.links found in
    elim (total net.last next == total net.last found) [ true ↦ found | false ↦ settled net rounds next ]

-- only the start is reached
abbrev pub start : Meaning → ℕ → ℕ → Table
start net s t = slice_set (replicate (suc net.places) None) s (Some t)

-- the earliest arrivals of one who is at s at t
abbrev pub arrivals : Meaning → ℕ → ℕ → Table
arrivals net s t = settled net (suc (total net.last (start net s t))) (start net s t)

abbrev pub earliest : Meaning → ℕ → ℕ → ℕ → Option ℕ
earliest net s t v = slice_index_or (arrivals net s t) v None
