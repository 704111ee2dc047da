-- Networks that differ from the one below in their arrivals alone.
use Rattle.std.specs.Prelude.{◌≡◌, ℕ, ◌+◌, ◌<◌, ◌≤◌, cond, Some, None, Option, nat_le}
use Rattle.network.specs.Meaning.{Meaning, IsLink}
use Rattle.network.specs.Laws.{NoLater, Between}

-- the arrival for each link and tick
abbrev pub Arrivals : Type 0
Arrivals = ℕ → ℕ → Option ℕ

-- what a retiming makes of the network below: the same places and links, with the arrivals that it makes from those below
abbrev pub over : (Meaning → Arrivals) → Meaning → Meaning
over retiming net =
    record {
      places = net.places;
      links = net.links;
      last = net.last;
      tail = net.tail;
      head = net.head;
      floor = net.floor;
      arrival = retiming net;
    }

-- what the laws of a network ask of its arrivals
pub record LawfulArrivals (net : Meaning) (arrivals : Arrivals) : Type 0 where
  pub arrival : (k t : ℕ) → IsLink net k → t ≤ net.last → Between (t + net.floor k) net.last (arrivals k t)
  pub fifo : (k s t : ℕ) → IsLink net k → s ≤ t → t ≤ net.last → NoLater (arrivals k s) (arrivals k t)
  pub no_link : (k t : ℕ) → (IsLink net k → ⊥) → arrivals k t ≡ None
  pub no_tick : (k t : ℕ) → net.last < t → arrivals k t ≡ None

-- `by` ticks after tick t, or none above the last tick
abbrev pub later : ℕ → ℕ → ℕ → Option ℕ
later last by t = cond (nat_le (t + by) last) (Some (t + by)) None
