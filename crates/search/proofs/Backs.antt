-- The road list by the labels of a search is the road list by the earliest arrivals.
use Rattle.std.proofs.Common.{◌≡◌, ℕ, ◌+◌, ◌≤◌, List, [], ◌∷◌, Some, Option, sym, refl, ap, ◌∙◌, arith}
use Rattle.network.specs.Meaning.{Meaning, IsLink, IsPlace}
use Rattle.network.specs.Laws.{Laws}
use Rattle.journeys.specs.Earliest.{after}
use Rattle.journeys.specs.Roads.{InTime, Lowest, Back}
use Rattle.journeys.specs.Roads.Back.{home, over}
use Rattle.journeys.proofs.Rides.{within, after_some}
use Rattle.search.specs.Estimate.{Consistent}

-- the first road of a list that is found backward
pub record FirstBack (net : Meaning) (A : ℕ → Option ℕ) (s v : ℕ) (back : List ℕ) : Type 0 where
  pub road : ℕ
  pub rest : List ℕ
  pub is : back ≡ road ∷ rest
  pub lowest : Lowest net A v road
  pub onward : Back net A s (net.tail road) rest

pub back_first : {net : Meaning} {A : ℕ → Option ℕ} {s v : ℕ} {back : List ℕ} → Back net A s v back → (v ≡ s → ⊥) → FirstBack net A s v back
back_first home ne = absurd (ne refl)
back_first (over {k = k} {rest = rest} _ low b) ne = record { road = k; rest = rest; is = refl; lowest = low; onward = b }

pub back_home : {net : Meaning} {A : ℕ → Option ℕ} {s v : ℕ} {back : List ℕ} → Back net A s v back → v ≡ s → back ≡ []
back_home home e = refl
back_home (over ne low b) e = absurd (ne e)

-- Two tables of arrivals, E and L, that agree wherever arrival and estimate together are within a bound.
module _ (net : Meaning) (law : Laws net) (h : ℕ → ℕ) (even : Consistent net h) (Bound : ℕ → Type 0) (down : (x y : ℕ) → x ≤ y → Bound y → Bound x)
    (E L : ℕ → Option ℕ)
    (to : (v a : ℕ) → IsPlace net v → E v ≡ Some a → Bound (a + h v) → L v ≡ Some a)
    (from : (v a : ℕ) → IsPlace net v → L v ≡ Some a → Bound (a + h v) → E v ≡ Some a)
    (late_E : (v a : ℕ) → IsPlace net v → E v ≡ Some a → a ≤ net.last)
    (late_L : (v a : ℕ) → IsPlace net v → L v ≡ Some a → a ≤ net.last) where
  -- the tail of a link in time is within the bound where its head is
  nearer : (v k x a : ℕ) → IsLink net k → net.head k ≡ v → x ≤ net.last → net.arrival k x ≡ Some a → Bound (a + h v) → Bound (x + h (net.tail k))
  nearer v k x a l into xl e b =
      let w = within net law k x a l xl e in
      let c = even k l in
      let hv : h (net.head k) ≡ h v = ap h into in
      down (x + h (net.tail k)) (a + h v) (omega (arith, w.0, c, hv)) b

  to_labels : (v k a : ℕ) → InTime net E v k → E v ≡ Some a → L v ≡ Some a → Bound (a + h v) → InTime net L v k
  to_labels v k a f ev lv b =
      let (x, ex, arr) = after_some net k a (E (net.tail k)) (f.timely ∙ ev) in
      let place = law.tail k f.link in
      let lt = to (net.tail k) x place ex (nearer v k x a f.link f.into (late_E _ x place ex) arr b) in
      record { link = f.link; into = f.into; timely = ap (after net k) lt ∙ (arr ∙ sym lv) }

  from_labels : (v k a : ℕ) → InTime net L v k → E v ≡ Some a → L v ≡ Some a → Bound (a + h v) → InTime net E v k
  from_labels v k a f ev lv b =
      let (x, lx, arr) = after_some net k a (L (net.tail k)) (f.timely ∙ lv) in
      let place = law.tail k f.link in
      let et = from (net.tail k) x place lx (nearer v k x a f.link f.into (late_L _ x place lx) arr b) in
      record { link = f.link; into = f.into; timely = ap (after net k) et ∙ (arr ∙ sym ev) }

  pub back_labels : {s v : ℕ} {back : List ℕ} → Back net E s v back → (a : ℕ) → IsPlace net v → E v ≡ Some a → Bound (a + h v) → Back net L s v back
  back_labels home a place e b = home
  back_labels (over {v} {k} ne low rest) a place e b =
      let f = low.in_time in
      let lv = to v a place e b in
      let (x, ex, arr) = after_some net k a (E (net.tail k)) (f.timely ∙ e) in
      let tail = law.tail k f.link in
      let near = nearer v k x a f.link f.into (late_E _ x tail ex) arr b in
      over ne
      (record { in_time = to_labels v k a f e lv b; lowest = λ j g. low.lowest j (from_labels v j a g e lv b) })
      (back_labels rest x tail ex near)
