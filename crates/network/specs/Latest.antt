-- The latest departure on a link that arrives by a tick.
use Rattle.std.specs.Prelude.{◌≡◌, ℕ, zero, suc, ◌≤◌, Bool, true, cond, ◌↔◌, Some, None, Option, nat_le}
use Rattle.network.specs.Meaning.{Meaning}
use Rattle.network.specs.Laws.{NoLater, NotBefore}

-- t where its arrival is by tick a, else the other answer
abbrev pub if_by : ℕ → Option ℕ → ℕ → Option ℕ → Option ℕ
if_by a None t other = other
if_by a (Some b) t other = cond (nat_le b a) (Some t) other

-- the greatest of the ticks below `count` whose arrival is at most a, or none
abbrev pub latest_below : (ℕ → Option ℕ) → ℕ → ℕ → Option ℕ
latest_below arrival a zero = None
latest_below arrival a (suc t) = if_by a (arrival t) t (latest_below arrival a t)

-- the greatest tick whose arrival over link k is at most a, or none
abbrev pub latest : Meaning → ℕ → ℕ → Option ℕ
latest net k a = cond (nat_le a net.last) (latest_below (net.arrival k) a (suc net.last)) None

-- The answer to whether departing at d over link k arrives by a: it may be had from the arrival, and from the latest departure.
pub record MeetsDeadline (net : Meaning) (k d a : ℕ) (answer : Bool) : Type 0 where
  pub by_arrival : a ≤ net.last → (answer ≡ true) ↔ NoLater (net.arrival k d) (Some a)
  pub by_departure : (answer ≡ true) ↔ NotBefore d (latest net k a)
