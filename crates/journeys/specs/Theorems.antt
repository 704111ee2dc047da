-- What holds of journeys over every network that keeps the laws.
use Rattle.std.specs.Prelude.{◌≡◌, ℕ, ◌-◌, ◌≤◌, ◌↔◌, List, reverse, Some, Option}
use Rattle.network.specs.Meaning.{Meaning, IsPlace, IsLink}
use Rattle.network.specs.Laws.{Laws, NoLater, NotBefore}
use Rattle.network.specs.Latest.{latest}
use Rattle.journeys.specs.Journey.{Journey, Drive, Reaches, CanReach, Earliest}
use Rattle.journeys.specs.Earliest.{earliest}
use Rattle.journeys.specs.Roads.{Back, RoadList, road_list}
use Rattle.journeys.specs.Turned.{turned, latest_start}

-- A wait never gains anything: over the same roads, who doesn't wait arrives no later.
abbrev pub WaitsGainNothing : Type 0
WaitsGainNothing = (net : Meaning) → Laws net → (s t v a : ℕ) (roads : List ℕ) → Journey net s t roads v a → (b : ℕ) × Drive net s t roads v b × (b ≤ a)

-- The earliest arrival is one number, or none.
abbrev pub EarliestIsOne : Type 0
EarliestIsOne = (net : Meaning) (s t v : ℕ) (p q : Option ℕ) → Earliest net s t v p → Earliest net s t v q → p ≡ q

-- The computed arrival is the earliest of all journeys.
abbrev pub EarliestIsComputed : Type 0
EarliestIsComputed = (net : Meaning) → Laws net → (s t v : ℕ) (o : Option ℕ) → IsPlace net s → t ≤ net.last → Earliest net s t v o ↔ (o ≡ earliest net s t v)

-- Departing at d arrives by a exactly when d is no later than the latest departure for a.
abbrev pub LatestIsExact : Type 0
LatestIsExact = (net : Meaning) → Laws net → (k d a : ℕ) → IsLink net k → d ≤ net.last → a ≤ net.last → NoLater (net.arrival k d) (Some a) ↔ NotBefore d (latest net k a)

-- For each place that is reached there is a road list, it is the only one, and driven without waiting it arrives at the earliest arrival.
pub record OneList (net : Meaning) (s t v a : ℕ) (roads : List ℕ) : Type 0 where
  pub found : RoadList net s t v roads
  pub only : (other : List ℕ) → RoadList net s t v other → other ≡ roads
  pub driven : Drive net s t roads v a

abbrev pub OneRoadList : Type 0
OneRoadList = (net : Meaning) → Laws net → (s t v a : ℕ) → IsPlace net s → t ≤ net.last → earliest net s t v ≡ Some a → OneList net s t v a (road_list net s t v)

-- The network read backward in time keeps the laws.
abbrev pub TurnedKeepsTheLaws : Type 0
TurnedKeepsTheLaws = (net : Meaning) → Laws net → Laws (turned net)

-- Turned twice, a network is itself.
abbrev pub TurnedTwice : Type 0
TurnedTwice = (net : Meaning) → Laws net → turned (turned net) ≡ net

-- A journey that is at u at x and at v by y is, over the same roads in the other order, one backward in time that is at v at last − y and at u by last − x.
abbrev pub TurnedJourneys : Type 0
TurnedJourneys = (net : Meaning) → Laws net → (u x v y : ℕ) (roads : List ℕ) → x ≤ net.last → y ≤ net.last → Reaches net u x roads v y ↔ Reaches (turned net) v (net.last - y) (reverse roads) u (net.last - x)

-- Who is at s at x can be at d by y exactly when x is no later than the latest start.
abbrev pub LatestStartIsExact : Type 0
LatestStartIsExact = (net : Meaning) → Laws net → (s d x y : ℕ) → IsPlace net d → x ≤ net.last → y ≤ net.last → CanReach net s x d y ↔ NotBefore x (latest_start net s d y)

-- The roads of the latest start, read as they are found backward in time: driven from s at that tick without waiting, they are at d by y.
abbrev pub ArriveByRoads : Type 0
ArriveByRoads = (net : Meaning) → Laws net → (s d y x : ℕ) (back : List ℕ) → IsPlace net d → y ≤ net.last → latest_start net s d y ≡ Some x → Back (turned net) (earliest (turned net) d (net.last - y)) d s back → (b : ℕ) × Drive net s x back d b × (b ≤ y)
