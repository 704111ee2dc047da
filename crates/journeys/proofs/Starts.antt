-- Journeys backward in time, and the latest start that they give.
use Rattle.std.proofs.Common.{◌≡◌, ℕ, ◌-◌, ◌≤◌, ◌↔◌, List, [], ◌∷◌, reverse, Some, None, Option, sym, refl, subst, arith}
use mathlib.Core.Path.{subst₃}
use Rattle.std.proofs.lemmas.List.{reverse-append, reverse-reverse}
use Rattle.network.specs.Meaning.{Meaning, IsPlace}
use Rattle.network.specs.Laws.{NoLater, NotBefore, Laws}
use Rattle.network.proofs.Orders.{no_later_self}
use Rattle.journeys.specs.Journey.{Journey, Drive, Reaches, CanReach, Earliest}
use Rattle.journeys.specs.Journey.Journey.{stay, ride}
use Rattle.journeys.specs.Earliest.{earliest}
use Rattle.journeys.specs.Roads.{Back}
use Rattle.journeys.specs.Turned.{less, turned, latest_start}
use Rattle.journeys.proofs.Rides.{within, onto, driven, no_wait, journey_within}
use Rattle.journeys.proofs.Arrivals.{exact}
use Rattle.journeys.proofs.RoadLists.{back_driven}
use Rattle.journeys.proofs.Turning.{less_some, less_not_before, turned_ride, turned_laws, turned_twice}

-- the journey backward
journey_back : (net : Meaning) → Laws net → (y : ℕ) → y ≤ net.last → {u x v a : ℕ} {roads : List ℕ} → Journey net u x roads v a → a ≤ y → x ≤ net.last → Reaches (turned net) v (net.last - y) (reverse roads) u (net.last - x)
journey_back net law y yl stay ay xl = (net.last - y, stay, omega arith)
journey_back net law y yl {x = x} {v = v} (ride {k} {roads = roads} c b l xc cl e j) ay xl =
    let w = within net law k c b l cl e in
    let by : NoLater (net.arrival k c) (Some b) = subst (λ o. NoLater o (Some b)) (sym e) (no_later_self (Some b)) in
    go (journey_back net law y yl j ay w.1) ((turned net).arrival k (net.last - b)) refl (turned_ride net k c b cl w.1 by)
  where
    go : Reaches (turned net) v (net.last - y) (reverse roads) (net.head k) (net.last - b) → (o : Option ℕ) → (turned net).arrival k (net.last - b) ≡ o → NoLater o (Some (net.last - c)) → Reaches (turned net) v (net.last - y) (reverse (k ∷ roads)) (net.tail k) (net.last - x)
    go r None q n = absurd n
    go (z, i, zb) (Some d) q n = (d, subst (λ r. Journey (turned net) v (net.last - y) r (net.tail k) d) (sym (reverse-append (k ∷ []) roads)) (onto i (ride (net.last - b) d l zb (omega arith) q stay)), omega arith)

pub turned_journeys : (net : Meaning) → Laws net → (u x v y : ℕ) (roads : List ℕ) → x ≤ net.last → y ≤ net.last → Reaches net u x roads v y ↔ Reaches (turned net) v (net.last - y) (reverse roads) u (net.last - x)
turned_journeys net law u x v y roads xl yl = ((λ r. journey_back net law y yl r.1 r.2 xl), forward)
  where
    forward : Reaches (turned net) v (net.last - y) (reverse roads) u (net.last - x) → Reaches net u x roads v y
    forward r =
        let ex : net.last - (net.last - x) ≡ x = omega arith in
        let ey : net.last - (net.last - y) ≡ y = omega arith in
        let two = journey_back (turned net) (turned_laws net law) (net.last - x) (omega arith) r.1 r.2 (omega arith) in
        let one = subst (λ m. Reaches m u (net.last - (net.last - x)) (reverse (reverse roads)) v (net.last - (net.last - y))) (turned_twice net law) two in
        subst₃ (λ q z w. Reaches net u z q v w) (reverse-reverse roads) ex ey one

-- the earliest arrival says who can be there by a tick
pub reach_by : (net : Meaning) (s t v y : ℕ) (o : Option ℕ) → Earliest net s t v o → CanReach net s t v y ↔ NoLater o (Some y)
reach_by net s t v y None w = ((λ r. w r.1.0 r.0 r.1.1), (λ n. absurd n))
reach_by net s t v y (Some a) w = ((λ r. let m = w.least r.1.0 r.0 r.1.1 in omega (arith, r.1.2)), (λ n. (w.reached.0, (a, w.reached.1, n))))

module _ (net : Meaning) (law : Laws net) (s d y : ℕ) (place : IsPlace net d) (yl : y ≤ net.last) where
  -- backward in time, the earliest arrivals of one who is at d at the deadline
  found : (v : ℕ) → Earliest (turned net) d (net.last - y) v (earliest (turned net) d (net.last - y) v)
  found = exact (turned net) (turned_laws net law) d (net.last - y) place (omega arith)

  pub start_exact : (x : ℕ) → x ≤ net.last → CanReach net s x d y ↔ NotBefore x (latest_start net s d y)
  start_exact x xl = ((λ r. less_not_before net.last x _ xl (by.0 (reverse r.0, (turned_journeys net law s x d y r.0 xl yl).0 r.1))), (λ n. forward (by.1 (no_later _ (found s) n))))
    where
      by : CanReach (turned net) d (net.last - y) s (net.last - x) ↔ NoLater (earliest (turned net) d (net.last - y) s) (Some (net.last - x))
      by = reach_by (turned net) d (net.last - y) s (net.last - x) _ (found s)

      no_later : (o : Option ℕ) → Earliest (turned net) d (net.last - y) s o → NotBefore x (less net.last o) → NoLater o (Some (net.last - x))
      no_later None w n = absurd n
      no_later (Some a) w n = let j = journey_within (turned net) (turned_laws net law) w.reached.1 (omega arith) in omega (arith, j.1)

      forward : CanReach (turned net) d (net.last - y) s (net.last - x) → CanReach net s x d y
      forward r = (reverse r.0, (turned_journeys net law s x d y (reverse r.0) xl yl).1 (subst (λ q. Reaches (turned net) d (net.last - y) q s (net.last - x)) (sym (reverse-reverse r.0)) r.1))

  pub arrive_by : (x : ℕ) (back : List ℕ) → latest_start net s d y ≡ Some x → Back (turned net) (earliest (turned net) d (net.last - y)) d s back → (b : ℕ) × Drive net s x back d b × (b ≤ y)
  arrive_by x back e f =
      let (a, ea, q) = less_some net.last x _ e in
      let drive = back_driven (turned net) (turned_laws net law) d (net.last - y) (omega arith) _ found f a ea in
      let w = journey_within (turned net) (turned_laws net law) (driven drive) (omega arith) in
      let (c, j, cy) = (turned_journeys net law s x d y back (omega arith) yl).1 (a, driven drive, omega (arith, w.1)) in
      let (b, dr, bc) = no_wait net law s x d c x back j (omega arith) in
      (b, dr, omega arith)
