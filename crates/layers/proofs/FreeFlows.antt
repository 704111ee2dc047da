-- The latest departure in free flow.
use Rattle.std.proofs.Common.{◌≡◌, ℕ, ◌+◌, ◌-◌, ◌≤◌, leb, ◌↔◌, Some, None, sym, subst, ⊎_elim, arith}
use Rattle.std.proofs.lemmas.Bool.{cases_lt, le-leb, cond_both, cond-true, cond-false}
use Rattle.network.specs.Meaning.{Meaning}
use Rattle.network.specs.Laws.{Laws, NoLater}
use Rattle.network.specs.Latest.{latest}
use Rattle.network.proofs.Ranges.{cases_among, true_among, false_among}
use Rattle.network.proofs.Greatest.{latest_tested, latest_past}
use Rattle.layers.specs.Retimed.{over, later}
use Rattle.layers.specs.FreeFlow.{free_flow}

-- a tick later is by tick a exactly when the sum is
later_by : (last by t a : ℕ) → a ≤ last → NoLater (later last by t) (Some a) ↔ (t + by ≤ a)
later_by last by t a al =
    cond_both (leb (t + by) last) (Some (t + by)) None (λ o. NoLater o (Some a) ↔ (t + by ≤ a))
    (λ _. ((λ n. n), (λ n. n)))
    (λ e. ((λ n. absurd n), (λ n. absurd (let w = le-leb (t + by) last (omega arith) in let z : ◌≡◌ {A = ℕ} 0 1 = cc in omega arith))))

module _ (net : Meaning) (law : Laws net) (k a : ℕ) (al : a ≤ net.last) where
  -- departing at d arrives by a exactly when the link is there and its floor is no more than what is left
  test : (d : ℕ) → NoLater (free_flow net k d) (Some a) ↔ ((1 ≤ net.floor k) × (d + net.floor k ≤ a))
  test d =
      ⊎_elim
      (λ l.
      let by = later_by net.last (net.floor k) d a al in
      let is : free_flow net k d ≡ later net.last (net.floor k) d = cond-true _ _ None (true_among k _ l) in
      ((λ n. ((law.floor k l).low, by.0 (subst (λ o. NoLater o (Some a)) is n))), (λ n. subst (λ o. NoLater o (Some a)) (sym is) (by.1 n.1))))
      (λ l. ((λ n. absurd (subst (λ o. NoLater o (Some a)) (cond-false _ _ None (false_among k _ l)) n)), (λ n. absurd (let z = (law.no_link k l).floor in omega (arith, n.0)))))
      (cases_among k net.links)

  pub latest_free : 1 ≤ net.floor k → net.floor k ≤ a → Some (a - net.floor k) ≡ latest (over free_flow net) k a
  latest_free low fa =
      latest_tested (over free_flow net) k a (Some (a - net.floor k)) al (λ x e. let q : a - net.floor k ≡ x = cc in omega arith)
      (λ d dl. ((λ n. let m = ((test d).0 n).1 in omega arith), (λ n. (test d).1 (low, omega arith))))

  never : (1 ≤ net.floor k → net.floor k ≤ a → ⊥) → None ≡ latest (over free_flow net) k a
  never none = latest_tested (over free_flow net) k a None al (λ x e. absurd (let z : ◌≡◌ {A = ℕ} 0 1 = cc in omega arith)) (λ d dl. ((λ n. let m = (test d).0 n in none m.0 (omega (arith, m.1))), (λ n. absurd n)))

pub latest_none : (net : Meaning) → Laws net → (k a : ℕ) → (1 ≤ net.floor k → net.floor k ≤ a → a ≤ net.last → ⊥) → None ≡ latest (over free_flow net) k a
latest_none net law k a none = ⊎_elim (latest_past (over free_flow net) k a) (λ al. never net law k a al (λ low fa. none low fa al)) (cases_lt net.last a)
