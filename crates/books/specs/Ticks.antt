-- The earlier and the later of two ticks that may be none.
use Rattle.std.specs.Prelude.{ℕ, min, max, Some, None, Option}

-- the one of two ticks that is picked, where none gives way to any
abbrev pub picked : (ℕ → ℕ → ℕ) → Option ℕ → Option ℕ → Option ℕ
picked pick None b = b
picked pick (Some a) None = Some a
picked pick (Some a) (Some b) = Some (pick a b)

-- the earlier of two arrivals, where none is later than every tick
abbrev pub earlier : Option ℕ → Option ℕ → Option ℕ
earlier a b = picked min a b

-- the later of two departures, where none is before every tick
abbrev pub later_of : Option ℕ → Option ℕ → Option ℕ
later_of a b = picked max a b
