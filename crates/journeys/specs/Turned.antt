-- The network read backward in time, and the latest start of one who has to be there by a tick.
use Rattle.std.specs.Prelude.{ℕ, ◌-◌, cond, Some, None, Option, nat_le}
use Rattle.network.specs.Meaning.{Meaning}
use Rattle.network.specs.Latest.{latest}
use Rattle.journeys.specs.Earliest.{earliest}

-- the last tick less that many, or none
abbrev pub less : ℕ → Option ℕ → Option ℕ
less last None = None
less last (Some x) = Some (last - x)

-- the network read backward in time: who enters a link as late as x to leave it by y now enters it at last − y and leaves it at last − x
abbrev pub turned : Meaning → Meaning
turned net = record {
  places = net.places;
  links = net.links;
  last = net.last;
  tail = net.head;
  head = net.tail;
  floor = net.floor;
  arrival = λ k t. cond (nat_le t net.last) (less net.last (latest net k (net.last - t))) None;
}

-- the latest tick at s of one who can be at d by tick y, or none: found by going backward from d
abbrev pub latest_start : Meaning → ℕ → ℕ → ℕ → Option ℕ
latest_start net s d y = less net.last (earliest (turned net) d (net.last - y) s)
