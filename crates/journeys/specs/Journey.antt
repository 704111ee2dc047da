-- Journeys over a network, and the earliest arrival among all of them.
use Rattle.std.specs.Prelude.{◌≡◌, ℕ, ◌≤◌, List, [], ◌∷◌, Some, None, Option}
use Rattle.network.specs.Meaning.{Meaning, IsLink}

-- A journey that is at place s at tick t, follows the links `roads` and so comes to place v at tick a.
-- It leaves each place at or after its arrival there: a wait may have any length.
pub data Journey (net : Meaning) : ℕ → ℕ → List ℕ → ℕ → ℕ → Type 0 where
  stay : {s t : ℕ} → Journey net s t [] s t
  ride : {k t v a : ℕ} {roads : List ℕ} (leaves comes : ℕ) → IsLink net k → t ≤ leaves → leaves ≤ net.last → net.arrival k leaves ≡ Some comes → Journey net (net.head k) comes roads v a → Journey net (net.tail k) t (k ∷ roads) v a

-- The same without waiting: each link is entered at the tick of arrival.
pub data Drive (net : Meaning) : ℕ → ℕ → List ℕ → ℕ → ℕ → Type 0 where
  there : {s t : ℕ} → Drive net s t [] s t
  along : {k t v a : ℕ} {roads : List ℕ} (comes : ℕ) → IsLink net k → t ≤ net.last → net.arrival k t ≡ Some comes → Drive net (net.head k) comes roads v a → Drive net (net.tail k) t (k ∷ roads) v a

-- who is at s at tick t can be at v by tick y over these roads
abbrev pub Reaches : Meaning → ℕ → ℕ → List ℕ → ℕ → ℕ → Type 0
Reaches net s t roads v y = (a : ℕ) × Journey net s t roads v a × (a ≤ y)

-- who is at s at tick t can be at v by tick y
abbrev pub CanReach : Meaning → ℕ → ℕ → ℕ → ℕ → Type 0
CanReach net s t v y = (roads : List ℕ) × Reaches net s t roads v y

-- some journey comes to v at tick a, and none before
pub record FirstArrival (net : Meaning) (s t v a : ℕ) : Type 0 where
  pub reached : (roads : List ℕ) × Journey net s t roads v a
  pub least : (b : ℕ) (roads : List ℕ) → Journey net s t roads v b → a ≤ b

-- no journey comes to v
abbrev pub NoWay : Meaning → ℕ → ℕ → ℕ → Type 0
NoWay net s t v = (b : ℕ) (roads : List ℕ) → Journey net s t roads v b → ⊥

-- The earliest arrival at v of all journeys from s at t, or none where there is no journey.
abbrev pub Earliest : Meaning → ℕ → ℕ → ℕ → Option ℕ → Type 0
Earliest net s t v None = NoWay net s t v
Earliest net s t v (Some a) = FirstArrival net s t v a
