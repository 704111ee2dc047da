-- Delays over a network that keeps the laws.
use Rattle.std.specs.Prelude.{◌≡◌, ℕ, suc, ◌+◌, ◌-◌, ◌<◌, ◌≤◌, cond, ◌⊎◌, List, Some, None, Option, nat_le}
use Rattle.std.proofs.Common.{sym, ap, subst, inl, inr, ⊎_elim, arith}
use Rattle.std.proofs.lemmas.Bool.{cases_lt, cases_Bool, le-leb, leb-true, cond_both}
use Rattle.network.specs.Meaning.{Meaning}
use Rattle.network.specs.Laws.{Laws, NoLater, Between}
use Rattle.network.specs.Latest.{latest}
use Rattle.network.proofs.Greatest.{latest_greatest, one_greatest, latest_past}
use Rattle.layers.specs.Retimed.{over, LawfulArrivals}
use Rattle.notices.specs.declared.notice.Delay.{Delay}
use Rattle.notices.specs.Delays.{delay_on, late, delayed}

module _ (last by : ℕ) where
  late_between : (low : ℕ) (o : Option ℕ) → Between low last o → Between low last (late last by o)
  late_between low None b = tt
  late_between low (Some a) b = cond_both (nat_le (a + by) last) (Some (a + by)) None (Between low last) (λ e. (omega (arith, b.0), leb-true _ _ e)) (λ e. tt)

  late_fifo : (o p : Option ℕ) → NoLater o p → NoLater (late last by o) (late last by p)
  late_fifo o None n = tt
  late_fifo None (Some b) n = absurd n
  late_fifo (Some a) (Some b) n =
      cond_both (nat_le (b + by) last) (Some (b + by)) None (NoLater (late last by (Some a)))
      (λ q. let m = leb-true _ _ q in subst (λ z. NoLater (cond z (Some (a + by)) None) (Some (b + by))) (sym (le-leb (a + by) last (omega arith))) (omega arith))
      (λ q. tt)

  -- who is late by a was below by a − by
  late_back : (a : ℕ) (o : Option ℕ) → NoLater (late last by o) (Some a) → (by ≤ a) × NoLater o (Some (a - by))
  late_back a None n = absurd n
  late_back a (Some b) n =
      ⊎_elim
      (λ t. let m : b + by ≤ a = subst (λ z. NoLater (cond z (Some (b + by)) None) (Some a)) t n in (omega arith, omega arith))
      (λ t. absurd (subst (λ z. NoLater (cond z (Some (b + by)) None) (Some a)) t n))
      (cases_Bool (nat_le (b + by) last))

  late_by : (a : ℕ) (o : Option ℕ) → by ≤ a → a ≤ last → NoLater o (Some (a - by)) → NoLater (late last by o) (Some a)
  late_by a None h al n = absurd n
  late_by a (Some b) h al n = subst (λ z. NoLater (cond z (Some (b + by)) None) (Some a)) (sym (le-leb (b + by) last (omega arith))) (sum b n)
    where
      sum : (b : ℕ) → b ≤ a - by → b + by ≤ a
      sum b n = omega arith

module _ (ds : List Delay) (net : Meaning) where
  pub delayed_lawful : Laws net → LawfulArrivals net (delayed ds net)
  delayed_lawful law = record {
    arrival = λ k t l h. late_between net.last (delay_on k ds) _ _ (law.arrival k t l h);
    fifo = λ k s t l st h. late_fifo net.last (delay_on k ds) _ _ (law.fifo k s t l st h);
    no_link = λ k t n. ap (late net.last (delay_on k ds)) ((law.no_link k n).arrival t);
    no_tick = λ k t h. ap (late net.last (delay_on k ds)) (law.no_tick k t h);
  }

  -- the latest departure under delays: the one below for so many ticks earlier
  pub latest_delayed : (k a : ℕ) → a ≤ net.last → delay_on k ds ≤ a → latest net k (a - delay_on k ds) ≡ latest (over (delayed ds) net) k a
  latest_delayed k a al h =
      let g = latest_greatest net k (a - delay_on k ds) (omega arith) in
      one_greatest (delayed ds net k) a (suc net.last) _ _
      (record {
        fits = λ x e. let f = g.fits x e in (f.0, late_by net.last (delay_on k ds) a (net.arrival k x) h al f.1);
        most = λ d l n. g.most d l (late_back net.last (delay_on k ds) a (net.arrival k d) n).1;
      })
      (latest_greatest (over (delayed ds) net) k a al)

  -- none for a tick above the last, or in less than the delay
  pub latest_too_early : (k a : ℕ) → (net.last < a) ⊎ (a < delay_on k ds) → None ≡ latest (over (delayed ds) net) k a
  latest_too_early k a (inl l) = latest_past (over (delayed ds) net) k a l
  latest_too_early k a (inr h) =
      ⊎_elim
      (λ l. latest_past (over (delayed ds) net) k a l)
      (λ al.
      one_greatest (delayed ds net k) a (suc net.last) None _
      (record {
        fits = λ x e. absurd (let z : ◌≡◌ {A = ℕ} 0 1 = cc (e) in omega arith);
        most = λ d l n. absurd (omega (arith, (late_back net.last (delay_on k ds) a (net.arrival k d) n).0));
      })
      (latest_greatest (over (delayed ds) net) k a al))
      (cases_lt net.last a)
