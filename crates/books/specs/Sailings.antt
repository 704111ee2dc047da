-- When a ferry arrives: its sailings may stand in any order.
use Rattle.std.specs.Prelude.{◌≡◌, ℕ, ◌≤◌, cond, ◌⊎◌, List, [], ◌∷◌, Some, None, Option, nat_le}
use Rattle.books.specs.Ticks.{earlier, later_of}
use Rattle.records.specs.declared.layout.Point.{Point}

-- the arrival of a sailing that departs at t or later
abbrev pub if_departs : ℕ → Point → Option ℕ
if_departs t p = cond (nat_le t p.departure) (Some p.arrival) None

-- the least arrival among the sailings that depart at t or later, or none
abbrev pub sailing : List Point → ℕ → Option ℕ
sailing [] t = None
sailing (p ∷ ps) t = earlier (if_departs t p) (sailing ps t)

-- the departure of a sailing that arrives by a
abbrev pub if_arrives : ℕ → Point → Option ℕ
if_arrives a p = cond (nat_le p.arrival a) (Some p.departure) None

-- the greatest departure among the sailings that arrive by a, or none
abbrev pub sailing_back : List Point → ℕ → Option ℕ
sailing_back [] a = None
sailing_back (p ∷ ps) a = later_of (if_arrives a p) (sailing_back ps a)

-- one of the sailings departs at t or later and arrives at a
abbrev pub Sails : List Point → ℕ → ℕ → Type 0
Sails [] t a = ⊥
Sails (p ∷ ps) t a = ((t ≤ p.departure) × (p.arrival ≡ a)) ⊎ Sails ps t a

-- some sailing that departs at t or later arrives then, and none earlier; or there is no such sailing
abbrev pub LeastSailing : List Point → ℕ → Option ℕ → Type 0
LeastSailing ps t None = (a : ℕ) → Sails ps t a → ⊥
LeastSailing ps t (Some a) = Sails ps t a × ((b : ℕ) → Sails ps t b → a ≤ b)

-- The arrival of a chain of sailings is what it is called.
abbrev pub SailingIsLeast : Type 0
SailingIsLeast = (ps : List Point) (t : ℕ) → LeastSailing ps t (sailing ps t)
