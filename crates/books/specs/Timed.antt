-- What a chain's arrivals have to show, whatever its kind.
use Rattle.std.specs.Prelude.{ℕ, ◌+◌, ◌≤◌, ◌↔◌, Some, Option}
use Rattle.network.specs.Laws.{NoLater, NotBefore, Between}

pub record Timed (floor last : ℕ) (arrival back : ℕ → Option ℕ) : Type 0 where
  -- an arrival is at least the departure plus the floor, and at most the last tick
  pub between : (t : ℕ) → Between (t + floor) last (arrival t)
  -- a later departure never arrives earlier
  pub fifo : (s t : ℕ) → s ≤ t → NoLater (arrival s) (arrival t)
  -- departing at d arrives by a exactly when d is no later than the departure that is computed
  pub exact : (a d : ℕ) → NoLater (arrival d) (Some a) ↔ NotBefore d (back a)
