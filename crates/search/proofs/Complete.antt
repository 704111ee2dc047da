-- No journey that counts is earlier than the label of its place.
use Rattle.std.proofs.Common.{◌≡◌, ℕ, ◌+◌, ◌≤◌, List, Some, Option, subst, inl, inr, arith}
use Rattle.network.specs.Meaning.{Meaning, IsLink}
use Rattle.network.specs.Laws.{Laws}
use Rattle.journeys.specs.Journey.{Journey}
use Rattle.journeys.specs.Journey.Journey.{stay, ride}
use Rattle.journeys.proofs.Rides.{sooner, within}
use Rattle.search.specs.Estimate.{Consistent}
use Rattle.search.specs.Labels.{By, Within, label}
use Rattle.search.specs.Steps.{Relaxed, Settled}
use Rattle.search.proofs.Tables.{label_cases, within_less}

module _ (net : Meaning) (h : ℕ → ℕ) (laws : Laws net) (even : Consistent net h) where
  -- along a journey the tick and the estimate together never fall
  rises : {u x v a : ℕ} {roads : List ℕ} → Journey net u x roads v a → x + h u ≤ a + h v
  rises stay = omega arith
  rises (ride {k} c y l tc cl e j) = omega (arith, (within net laws k c y l cl e).0, even k l, rises j)

  module _ (bound : Option ℕ) (cells : List ℕ) (settled : Settled net h bound cells) where
    -- a link entered at or after the label of its tail comes to its head at or after the label of that
    over : (k x c y : ℕ) → IsLink net k → x ≤ c → c ≤ net.last → net.arrival k c ≡ Some y → Within bound (x + h (net.tail k)) → By (label cells (net.tail k)) x → By (label cells (net.head k)) y
    over k x c y l xc cl e w here = elim (label_cases (label cells (net.tail k))) [
      | inl z ↦ absurd (omega (arith, here.0, z))
      | inr (z, q) ↦
          let zx : z ≤ x = omega (arith, here.1, q) in
          let (b, arrives, by) = sooner net laws k z c y l (omega arith) cl e in
          let near : Within bound (z + h (net.tail k)) = within_less bound (z + h (net.tail k)) (x + h (net.tail k)) (omega arith) w in
          let r : By (label cells (net.head k)) b = subst (Relaxed (label cells (net.head k))) arrives (settled k z l q near) in
          (r.0, omega (arith, r.1))
    ]

    -- The main theorem: where each label within the bound has its links relaxed, a journey that sets out at or after the label
    -- of its start, and whose end is within the bound, comes to its end at or after the label of that.
    pub complete : {u x v a : ℕ} {roads : List ℕ} → Journey net u x roads v a → By (label cells u) x → Within bound (a + h v) → By (label cells v) a
    complete stay here w = here
    complete {u} {x} {v} {a} (ride {k} c y l xc cl e j) here w =
        let near : Within bound (x + h (net.tail k)) = within_less bound (x + h (net.tail k)) (a + h v) (rises (ride c y l xc cl e j)) w in
        complete j (over k x c y l xc cl e near here) w
