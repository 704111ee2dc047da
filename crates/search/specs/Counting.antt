-- How many places a search takes.
use Rattle.std.specs.Prelude.{ℕ, suc, ◌+◌, ◌≤◌, Some, None, Option}
use Rattle.network.specs.Meaning.{Meaning}
use Rattle.journeys.specs.Journey.{FirstArrival}

-- how many of the numbers 1 to n have a property
pub data Count (P : ℕ → Type 0) : ℕ → ℕ → Type 0 where
  nothing : Count P 0 0
  counts : {n c : ℕ} → P (suc n) → Count P n c → Count P (suc n) (suc c)
  passes : {n c : ℕ} → (P (suc n) → ⊥) → Count P n c → Count P (suc n) c

-- a place is taken: there is a first arrival at it, which is, where there is a limit, with the estimate at most that
abbrev pub TakenPlace : Meaning → (ℕ → ℕ) → ℕ → ℕ → Option ℕ → ℕ → Type 0
TakenPlace net h s t None v = (a : ℕ) × FirstArrival net s t v a
TakenPlace net h s t (Some limit) v = (a : ℕ) × FirstArrival net s t v a × (a + h v ≤ limit)
