-- Closures over a network that keeps the laws.
use Rattle.std.specs.Prelude.{◌≡◌, ℕ, suc, ◌+◌, ◌-◌, ◌<◌, ◌≤◌, false, List, Some, None, Option, refl}
use Rattle.std.proofs.Common.{sym, ap, ◌∙◌, ⊎_elim, arith}
use Rattle.std.proofs.lemmas.Bool.{cases_lt}
use Rattle.network.specs.Meaning.{Meaning, IsLink}
use Rattle.network.specs.Laws.{Laws, NoLater, NotBefore, Between}
use Rattle.network.specs.Latest.{latest}
use Rattle.network.proofs.Greatest.{Greatest, latest_greatest, latest_tested, latest_past}
use Rattle.network.proofs.Orders.{no_later_trans, not_before_less}
use Rattle.journeys.proofs.Turning.{any_fifo}
use Rattle.layers.specs.Retimed.{over, LawfulArrivals}
use Rattle.notices.specs.declared.notice.Closure.{Closure}
use Rattle.notices.specs.Closures.{shut, open_from, next_open, last_open, entering, closed}
use Rattle.notices.specs.Opens.{Opening, opening, closing}

module _ (cs : List Closure) (net : Meaning) (law : Laws net) where
  -- what is known of the next open tick
  next : (k t : ℕ) → Opening (shut cs k) t (suc net.last - t) (next_open cs k t net.last)
  next k t = opening (shut cs k) t (suc net.last - t)

  closed_between : (k t : ℕ) → IsLink net k → (o : Option ℕ) → Opening (shut cs k) t (suc net.last - t) o → Between (t + net.floor k) net.last (entering (net.arrival k) o)
  closed_between k t l None r = tt
  closed_between k t l (Some u) r = let w = r.lies u refl in raise (net.arrival k u) (omega (arith, w.0)) (law.arrival k u l (omega (arith, w.1)))
    where
      raise : (o : Option ℕ) → t ≤ u → Between (u + net.floor k) net.last o → Between (t + net.floor k) net.last o
      raise None tu b = tt
      raise (Some a) tu b = (omega (arith, b.0), b.1)

  closed_fifo : (k s t : ℕ) → IsLink net k → s ≤ t → (o p : Option ℕ) → Opening (shut cs k) s (suc net.last - s) o → Opening (shut cs k) t (suc net.last - t) p → NoLater (entering (net.arrival k) o) (entering (net.arrival k) p)
  closed_fifo k s t l st o None r q = tt
  closed_fifo k s t l st None (Some u) r q = let w = q.lies u refl in absurd (r.first u (omega (arith, w.0)) (omega (arith, w.1)) w.2)
  closed_fifo k s t l st (Some x) (Some u) r q =
      let w = q.lies u refl in
      law.fifo k x u l (r.first u (omega (arith, w.0)) (omega (arith, w.1)) w.2) (omega (arith, w.1))

  closed_no_link : (k : ℕ) (o : Option ℕ) → (IsLink net k → ⊥) → entering (net.arrival k) o ≡ None
  closed_no_link k None n = refl
  closed_no_link k (Some t) n = (law.no_link k n).arrival t

  pub closed_lawful : LawfulArrivals net (closed cs net)
  closed_lawful = record {
    arrival = λ k t l h. closed_between k t l _ (next k t);
    fifo = λ k s t l st h. closed_fifo k s t l st _ _ (next k s) (next k t);
    no_link = λ k t n. closed_no_link k _ n;
    no_tick = λ k t h. let z : suc net.last - t ≡ 0 = omega arith in ap (λ n. entering (net.arrival k) (open_from (shut cs k) t n)) z;
  }

  module _ (k a : ℕ) (al : a ≤ net.last) where
    below : Greatest (net.arrival k) a (suc net.last) (latest net k a)
    below = latest_greatest net k a al

    within : (o : Option ℕ) → latest net k a ≡ o → (w : ℕ) → entering (last_open cs k) o ≡ Some w → w ≤ net.last
    within None e w q = absurd (let z : ◌≡◌ {A = ℕ} 0 1 = cc (q) in omega arith)
    within (Some x) e w q = omega (arith, (below.fits x e).0, ((closing (shut cs k) (suc x)).lies w q).0)

    -- who arrives by a leaves no later than the last open tick
    leaves : (d : ℕ) (p : Option ℕ) → Opening (shut cs k) d (suc net.last - d) p → NoLater (entering (net.arrival k) p) (Some a) → NotBefore d (entering (last_open cs k) (latest net k a))
    leaves d None r n = absurd n
    leaves d (Some u) r n = let w = r.lies u refl in under (latest net k a) (below.most u (omega (arith, w.1)) n) w.0 w.2
      where
        under : (o : Option ℕ) → NotBefore u o → d ≤ u → shut cs k u ≡ false → NotBefore d (entering (last_open cs k) o)
        under None nb du q = absurd nb
        under (Some x) nb du q = not_before_less d u _ du ((closing (shut cs k) (suc x)).most u (omega arith) q)

    -- who leaves no later than the last open tick arrives by a
    arrives : (d : ℕ) (p : Option ℕ) → Opening (shut cs k) d (suc net.last - d) p → (o : Option ℕ) → latest net k a ≡ o → NotBefore d (entering (last_open cs k) o) → NoLater (entering (net.arrival k) p) (Some a)
    arrives d p r None e n = absurd n
    arrives d p r (Some x) e n = found (last_open cs k x) refl n
      where
        fits : (x < suc net.last) × NoLater (net.arrival k x) (Some a)
        fits = below.fits x e

        ride : (p : Option ℕ) → NoLater p (Some x) → NoLater (entering (net.arrival k) p) (Some a)
        ride None m = absurd m
        ride (Some u) m = no_later_trans _ (net.arrival k x) (Some a) (any_fifo net law k u x m (omega (arith, fits.0))) fits.1

        found : (q : Option ℕ) → last_open cs k x ≡ q → NotBefore d q → NoLater (entering (net.arrival k) p) (Some a)
        found None eq m = absurd m
        found (Some w) eq m =
            let c = (closing (shut cs k) (suc x)).lies w eq in
            let wx : w ≤ x = omega (arith, c.0) in
            ride p (no_later_trans p (Some w) (Some x) (r.first w m (omega (arith, fits.0)) c.1) wx)

  -- the latest departure under closures: the last open tick up to the latest departure below
  pub latest_closed : (k a : ℕ) (o : Option ℕ) → o ≡ latest net k a → entering (last_open cs k) o ≡ latest (over (closed cs) net) k a
  latest_closed k a o e =
      ap (entering (last_open cs k)) e
      ∙ ⊎_elim
      (λ l. ap (entering (last_open cs k)) (sym (latest_past net k a l)) ∙ latest_past (over (closed cs) net) k a l)
      (λ al. latest_tested (over (closed cs) net) k a _ al (within k a al _ refl) (λ d dl. (leaves k a al d _ (next k d), arrives k a al d _ (next k d) _ refl)))
      (cases_lt net.last a)
