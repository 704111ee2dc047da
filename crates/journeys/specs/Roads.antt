-- The one road list: found backward from the destination, each time over the lowest link that is in time.
use Rattle.std.specs.Prelude.{◌≡◌, ℕ, zero, suc, ◌≤◌, Bool, true, false, ◌&&◌, List, [], ◌∷◌, reverse, Some, None, Option, ◌==◌, ◌≢◌, slice_index_or}
use Rattle.network.specs.Meaning.{Meaning, IsLink}
use Rattle.journeys.specs.Earliest.{after, Table, key, arrivals, earliest}

-- link k leads into v, and its arrival for A(its tail) is A(v)
pub record InTime (net : Meaning) (A : ℕ → Option ℕ) (v k : ℕ) : Type 0 where
  pub link : IsLink net k
  pub into : net.head k ≡ v
  pub timely : after net k (A (net.tail k)) ≡ A v

-- the lowest such link
pub record Lowest (net : Meaning) (A : ℕ → Option ℕ) (v k : ℕ) : Type 0 where
  pub in_time : InTime net A v k
  pub lowest : (j : ℕ) → InTime net A v j → k ≤ j

-- the roads found from v back to s, in the order in which they are found
pub data Back (net : Meaning) (A : ℕ → Option ℕ) (s : ℕ) : ℕ → List ℕ → Type 0 where
  home : Back net A s s []
  over : {v k : ℕ} {rest : List ℕ} → (v ≢ s) → Lowest net A v k → Back net A s (net.tail k) rest → Back net A s v (k ∷ rest)

-- The road list from s at t to v, in the order in which it is driven, by the earliest arrivals from s at t.
abbrev pub RoadList : Meaning → ℕ → ℕ → ℕ → List ℕ → Type 0
RoadList net s t v roads = Back net (earliest net s t) s v (reverse roads)

-- The same, computed.

abbrev pub same : Option ℕ → Option ℕ → Bool
same None None = true
same None (Some b) = false
same (Some a) None = false
same (Some a) (Some b) = a == b

abbrev pub in_time : Meaning → Table → ℕ → ℕ → Bool
in_time net found v k = net.head k == v && same (after net k (slice_index_or found (net.tail k) None)) (slice_index_or found v None)

-- the lowest of the `count` links above `above` that is in time, or 0
abbrev pub lowest_in : Meaning → Table → ℕ → ℕ → ℕ → ℕ
lowest_in net found v above zero = 0
lowest_in net found v above (suc count) = elim (in_time net found v (suc above)) [ true ↦ suc above | false ↦ lowest_in net found v (suc above) count ]

abbrev pub backward : Meaning → Table → ℕ → ℕ → ℕ → List ℕ
backward net found s zero v = []
backward net found s (suc most) v =
    elim (v == s) [ true ↦ [] | false ↦ (let k : ℕ = lowest_in net found v 0 net.links in k ∷ backward net found s most (net.tail k)) ]

-- arrivals rise along the list, so the arrival at v bounds its length
abbrev pub back_in : Meaning → Table → ℕ → ℕ → List ℕ
back_in net found s v = backward net found s (suc (key net.last (slice_index_or found v None))) v

abbrev pub road_list : Meaning → ℕ → ℕ → ℕ → List ℕ
road_list net s t v = reverse (back_in net (arrivals net s t) s v)
