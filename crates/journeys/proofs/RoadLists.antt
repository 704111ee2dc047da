-- The road list: it is found for each place that is reached, there is one, and driven without waiting it arrives at the earliest arrival.
use Rattle.std.proofs.Common.{◌≡◌, ℕ, zero, suc, ◌+◌, ◌<◌, ◌≤◌, Bool, true, false, eqb, List, [], ◌∷◌, ◌++◌, reverse, Some, None, Option, sym, refl, ap, ◌∙◌, subst, ⊎_elim, arith}
use Rattle.std.proofs.lemmas.List.{reverse-append, reverse-reverse}
use Rattle.std.proofs.lemmas.Bool.{cases_eq, and_parts, and_from, eqb-true, eqb-false, eq-eqb, true≢false}
use Rattle.network.specs.Meaning.{Meaning, IsPlace, IsLink}
use Rattle.network.specs.Laws.{Laws}
use Rattle.journeys.specs.Journey.{Journey, Drive, FirstArrival, Earliest}
use Rattle.journeys.specs.Journey.Journey.{stay, ride}
use Rattle.journeys.specs.Journey.Drive.{there, along}
use Rattle.journeys.specs.Earliest.{after, Table, key, arrivals, earliest}
use Rattle.journeys.specs.Roads.{InTime, Lowest, Back, same, in_time, lowest_in, backward, back_in, road_list}
use Rattle.journeys.specs.Roads.Back.{home, over}
use Rattle.journeys.specs.Theorems.{OneList}
use Rattle.journeys.proofs.Rides.{sooner, within, after_some, onto, drive_onto, journey_within, LastRide, last_ride}
use Rattle.journeys.proofs.Arrivals.{at, exact}

-- where A are the earliest arrivals of one who is at s at t
module _ (net : Meaning) (law : Laws net) (s t : ℕ) (tl : t ≤ net.last) (A : ℕ → Option ℕ) (exactly : (v : ℕ) → Earliest net s t v (A v)) where
  pub start_at : A s ≡ Some t
  start_at = go (A s) (exactly s)
    where
      go : (o : Option ℕ) → Earliest net s t s o → o ≡ Some t
      go None w = absurd (w t [] stay)
      go (Some a) w =
          let le : a ≤ t = w.least t [] stay in
          let j = journey_within net law w.reached.1 tl in
          let e : a ≡ t = omega arith in
          ap {B = Option ℕ} Some e

  pub at_most : (v a : ℕ) → A v ≡ Some a → a ≤ net.last
  at_most v a e = let w : FirstArrival net s t v a = subst (Earliest net s t v) e (exactly v) in (journey_within net law w.reached.1 tl).1

  -- a link in time is entered at the arrival at its tail, which is before that at its head
  pub came_from : (v k a : ℕ) → InTime net A v k → A v ≡ Some a → (x : ℕ) × (A (net.tail k) ≡ Some x) × (net.arrival k x ≡ Some a) × (x < a)
  came_from v k a f e =
      let (x, ex, ea) = after_some net k a (A (net.tail k)) (f.timely ∙ e) in
      let w = within net law k x a f.link (at_most (net.tail k) x ex) ea in
      (x, ex, ea, omega (arith, (law.floor k f.link).low))

  -- into a place that is reached, and isn't the start, some link is in time
  pub some_in_time : (v a : ℕ) → (v ≡ s → ⊥) → A v ≡ Some a → (k : ℕ) × InTime net A v k
  some_in_time v a ne e = ⊎_elim (λ q. absurd (ne (sym q.0))) (λ m. last_in_time m (A (net.tail m.k)) refl (exactly (net.tail m.k))) (last_ride w.reached.1)
    where
      w : FirstArrival net s t v a
      w = subst (Earliest net s t v) e (exactly v)

      -- the last ride of a first arrival, taken from the first arrival at its tail, comes no later, and nothing comes earlier
      last_in_time : (m : LastRide net s t v a) (o : Option ℕ) → A (net.tail m.k) ≡ o → Earliest net s t (net.tail m.k) o → (k : ℕ) × InTime net A v k
      last_in_time m None q n = absurd (n m.came m.front m.before)
      last_in_time m (Some x) q n =
          let xc : x ≤ m.came = n.least m.came m.front m.before in
          let xl : x ≤ m.leaves = omega (arith, m.waits) in
          let (y, ey, ya) = sooner net law m.k x m.leaves a m.link xl m.high m.comes in
          let j : Journey net s t (n.reached.0 ++ (m.k ∷ [])) (net.head m.k) y = onto n.reached.1 (ride x y m.link (omega arith) (omega (arith, m.high)) ey stay) in
          let ay : a ≤ y = w.least y _ (subst (λ z. Journey net s t (n.reached.0 ++ (m.k ∷ [])) z y) m.into j) in
          let ee : y ≡ a = omega arith in
          (m.k, record { link = m.link; into = m.into; timely = ap (after net m.k) q ∙ ey ∙ ap {B = Option ℕ} Some ee ∙ sym e })

  -- roads found backward, driven forward
  pub back_driven : {v : ℕ} {back : List ℕ} → Back net A s v back → (a : ℕ) → A v ≡ Some a → Drive net s t (reverse back) v a
  back_driven home a e = let q : t ≡ a = cc (start_at) in subst (λ z. Drive net s t [] s z) q there
  back_driven (over {v} {k} {rest} ne low b) a e =
      let f = low.in_time in
      let (x, ex, ea, xa) = came_from v k a f e in
      let last : Drive net (net.tail k) x (k ∷ []) v a = subst (λ z. Drive net (net.tail k) x (k ∷ []) z a) f.into (along a f.link (at_most (net.tail k) x ex) ea there) in
      subst (λ r. Drive net s t r v a) (sym (reverse-append (k ∷ []) rest)) (drive_onto (back_driven b x ex) last)

-- roads found backward, by the first that is found
data First (net : Meaning) (A : ℕ → Option ℕ) (s v : ℕ) (q : List ℕ) : Type 0 where
  nothing : v ≡ s → q ≡ [] → First net A s v q
  road : (k : ℕ) (rest : List ℕ) → (v ≡ s → ⊥) → Lowest net A v k → Back net A s (net.tail k) rest → q ≡ k ∷ rest → First net A s v q

first : {net : Meaning} {A : ℕ → Option ℕ} {s v : ℕ} {q : List ℕ} → Back net A s v q → First net A s v q
first home = nothing refl refl
first (over {k = k} {rest = rest} ne low b) = road k rest ne low b refl

pub one_back : {net : Meaning} {A : ℕ → Option ℕ} {s v : ℕ} {q r : List ℕ} → Back net A s v q → Back net A s v r → r ≡ q
one_back home c = elim (first c) [ nothing e n ↦ n | road k rest ne low b n ↦ absurd (ne refl) ]
one_back {net} {A} {s} {v} {q} {r} (over {k = k} {rest = rest} ne low b) c = go (first c) (λ p d. one_back b d)
  where
    go : First net A s v r → ((p : List ℕ) → Back net A s (net.tail k) p → p ≡ rest) → r ≡ k ∷ rest
    go (nothing e n) more = absurd (ne e)
    go (road j p ne' low' d n) more =
        let jk : j ≤ k = low'.lowest k low.in_time in
        let kj : k ≤ j = low.lowest j low'.in_time in
        let e : j ≡ k = omega arith in
        n ∙ ap (λ z. z ∷ p) e ∙ ap (λ z. k ∷ z) (more p (subst (λ z. Back net A s (net.tail z) p) e d))

same_true : (o p : Option ℕ) → same o p ≡ true → o ≡ p
same_true None None e = refl
same_true None (Some b) e = absurd (true≢false (sym e))
same_true (Some a) None e = absurd (true≢false (sym e))
same_true (Some a) (Some b) e = ap {B = Option ℕ} Some (eqb-true a b e)

same_self : (o : Option ℕ) → same o o ≡ true
same_self None = refl
same_self (Some a) = eq-eqb a a refl

module _ (net : Meaning) (found : Table) (v : ℕ) where
  pub in_time_true : (k : ℕ) → IsLink net k → in_time net found v k ≡ true → InTime net (at found) v k
  in_time_true k l e = let p = and_parts _ _ e in record { link = l; into = eqb-true _ _ p.0; timely = same_true _ _ p.1 }

  pub true_in_time : (k : ℕ) → InTime net (at found) v k → in_time net found v k ≡ true
  true_in_time k f = and_from _ _ (eq-eqb _ _ f.into) (subst (λ o. same (after net k (at found (net.tail k))) o ≡ true) f.timely (same_self (after net k (at found (net.tail k)))))

  -- the lowest link above `above` that is in time
  record LowestAbove (above k : ℕ) : Type 0 where
    fits : InTime net (at found) v k
    lowest : (i : ℕ) → InTime net (at found) v i → above < i → k ≤ i

  -- where a link j above `above` is in time, the scan finds the lowest
  scanned : (count above : ℕ) → above + count ≡ net.links → (j : ℕ) → InTime net (at found) v j → above < j → LowestAbove above (lowest_in net found v above count)
  scanned zero above e j f h = absurd (omega (arith, f.link.high))
  scanned (suc count) above e j f h = go (in_time net found v (suc above)) refl (λ aj. scanned count (suc above) (omega arith) j f aj)
    where
      go : (b : Bool) → in_time net found v (suc above) ≡ b → (suc above < j → LowestAbove (suc above) (lowest_in net found v (suc above) count)) → LowestAbove above (elim b [ true ↦ suc above | false ↦ lowest_in net found v (suc above) count ])
      go true q more = record { fits = in_time_true (suc above) (record { low = omega arith; high = omega arith }) q; lowest = λ i g l. l }
      go false q more =
          let past : (i : ℕ) → InTime net (at found) v i → above < i → suc above < i = λ i g l. ⊎_elim (λ ie. absurd (true≢false (sym (true_in_time (suc above) (subst (InTime net (at found) v) ie g)) ∙ q))) (λ ne. omega arith) (cases_eq i (suc above)) in
          let m = more (past j f h) in
          record { fits = m.fits; lowest = λ i g l. m.lowest i g (past i g l) }

  pub lowest_found : (j : ℕ) → InTime net (at found) v j → Lowest net (at found) v (lowest_in net found v 0 net.links)
  lowest_found j f =
      let g = scanned net.links 0 (omega arith) j f f.link.low in
      record { in_time = g.fits; lowest = λ i q. g.lowest i q q.link.low }

-- where a table has the earliest arrivals of one who is at s at t
module _ (net : Meaning) (law : Laws net) (s t : ℕ) (tl : t ≤ net.last) (found : Table) (exactly : (v : ℕ) → Earliest net s t v (at found v)) where
  backward_found : (most v a : ℕ) → at found v ≡ Some a → a < most → Back net (at found) s v (backward net found s most v)
  backward_found zero v a e h = absurd (omega arith)
  backward_found (suc most) v a e h = go (eqb v s) refl (λ x q xa. backward_found most (net.tail k) x q (omega arith))
    where
      k : ℕ
      k = lowest_in net found v 0 net.links

      go : (b : Bool) → eqb v s ≡ b → ((x : ℕ) → at found (net.tail k) ≡ Some x → x < a → Back net (at found) s (net.tail k) (backward net found s most (net.tail k))) → Back net (at found) s v (elim b [ true ↦ [] | false ↦ k ∷ backward net found s most (net.tail k) ])
      go true q more = subst (λ z. Back net (at found) s z []) (sym (eqb-true v s q)) home
      go false q more =
          let ne = eqb-false v s q in
          let (j, f) = some_in_time net law s t tl (at found) exactly v a ne e in
          let low = lowest_found net found v j f in
          let (x, ex, ea, xa) = came_from net law s t tl (at found) exactly v k a low.in_time e in
          over ne low (more x ex xa)

  pub back_in_found : (v a : ℕ) → at found v ≡ Some a → Back net (at found) s v (back_in net found s v)
  back_in_found v a e = backward_found (suc (key net.last (at found v))) v a e (let q : key net.last (at found v) ≡ a = ap (key net.last) e in omega arith)

pub one_list : (net : Meaning) → Laws net → (s t v a : ℕ) → IsPlace net s → t ≤ net.last → earliest net s t v ≡ Some a → OneList net s t v a (road_list net s t v)
one_list net law s t v a place tl e =
    let all : (w : ℕ) → Earliest net s t w (earliest net s t w) = exact net law s t place tl in
    let b = back_in_found net law s t tl (arrivals net s t) all v a e in
    record {
      found = subst (Back net (earliest net s t) s v) (sym (reverse-reverse (back_in net (arrivals net s t) s v))) b;
      only = λ other o. sym (reverse-reverse other) ∙ ap reverse (one_back b o);
      driven = back_driven net law s t tl (earliest net s t) all b a e;
    }
