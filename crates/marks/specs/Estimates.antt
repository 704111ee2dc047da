-- What marks estimate, and why it may be relied on.
use Rattle.std.specs.Prelude.{ℕ, ◌-◌, max, List, [], ◌∷◌}
use Rattle.network.specs.Meaning.{Meaning}
use Rattle.journeys.specs.Turned.{turned}
use Rattle.search.specs.Estimate.{Fit}
use Rattle.marks.specs.Columns.{number, AllSound}

-- the greatest over the columns of what `to` has above `from`, or 0: whoever drives from the one to the other is that long on the way
abbrev pub lead : List (List ℕ) → ℕ → ℕ → ℕ
lead [] to from = 0
lead (c ∷ cs) to from = max (number c to - number c from) (lead cs to from)

-- the estimate for a way to d, and for one that is read backward in time from its end to s
abbrev pub forward : List (List ℕ) → ℕ → ℕ → ℕ
forward columns d v = lead columns d v

abbrev pub backward : List (List ℕ) → ℕ → ℕ → ℕ
backward columns s v = lead columns v s

-- Marks never mislead: whatever sound columns say is fit, on the network and on the network turned.
abbrev pub MarksAreFit : Type 0
MarksAreFit = (net : Meaning) (columns : List (List ℕ)) → AllSound net columns → (e : ℕ) → Fit net (forward columns e) e × Fit (turned net) (backward columns e) e
