-- The greatest tick whose arrival is at most a.
use Rattle.std.proofs.Common.{◌≡◌, ℕ, zero, suc, ◌<◌, ◌≤◌, leb, ◌↔◌, Some, None, Option, sym, refl, ap, subst, ⊎_elim, arith}
use Rattle.std.proofs.lemmas.Bool.{cases_eq, cases_lt, le-leb, lt-leb, leb-true, leb-false, cond_both, cond-true, cond-false}
use Rattle.network.specs.Meaning.{Meaning}
use Rattle.network.specs.Laws.{Laws, NoLater, NotBefore}
use Rattle.network.specs.Latest.{if_by, latest_below, latest}
use Rattle.network.proofs.Orders.{no_later_trans}
use Rattle.network.proofs.Ranges.{cases_among}

-- o is the greatest tick below n whose arrival is at most a, or none
pub record Greatest (arrival : ℕ → Option ℕ) (a n : ℕ) (o : Option ℕ) : Type 0 where
  pub fits : (x : ℕ) → o ≡ Some x → (x < n) × NoLater (arrival x) (Some a)
  pub most : (d : ℕ) → d < n → NoLater (arrival d) (Some a) → NotBefore d o

below_greatest : (f : ℕ → Option ℕ) (a n : ℕ) → Greatest f a n (latest_below f a n)
below_greatest f a zero = record { fits = λ x e. absurd (let z : ◌≡◌ {A = ℕ} 0 1 = cc in omega arith); most = λ d l n. absurd (omega arith) }
below_greatest f a (suc n) = go (f n) refl (below_greatest f a n)
  where
    stays : (o : Option ℕ) → (NoLater (f n) (Some a) → ⊥) → Greatest f a n o → Greatest f a (suc n) o
    stays o not g = record {
      fits = λ x e. (omega (arith, (g.fits x e).0), (g.fits x e).1);
      most = λ d l by. ⊎_elim (λ e. absurd (not (subst (λ z. NoLater (f z) (Some a)) e by))) (λ ne. g.most d (omega arith) by) (cases_eq d n);
    }

    here : NoLater (f n) (Some a) → Greatest f a (suc n) (Some n)
    here by = record {
      fits = λ x e. let p : x ≡ n = cc in (omega arith, subst (λ z. NoLater (f z) (Some a)) (sym p) by);
      most = λ d l _. omega arith;
    }

    go : (o : Option ℕ) → f n ≡ o → Greatest f a n (latest_below f a n) → Greatest f a (suc n) (if_by a o n (latest_below f a n))
    go None e g = stays _ (λ q. subst (λ z. NoLater z (Some a)) e q) g
    go (Some b) e g =
        cond_both (leb b a) (Some n) (latest_below f a n) (Greatest f a (suc n))
        (λ t. here (subst (λ z. NoLater z (Some a)) (sym e) (leb-true b a t)))
        (λ t. stays _ (λ q. let r : b ≤ a = subst (λ z. NoLater z (Some a)) e q in let w = leb-false b a t in absurd (omega arith)) g)

pub latest_greatest : (net : Meaning) (k a : ℕ) → a ≤ net.last → Greatest (net.arrival k) a (suc net.last) (latest net k a)
latest_greatest net k a h = subst (Greatest (net.arrival k) a (suc net.last)) (sym (cond-true (leb a net.last) _ None (le-leb a net.last h))) (below_greatest (net.arrival k) a (suc net.last))

pub one_greatest : (f : ℕ → Option ℕ) (a n : ℕ) (o p : Option ℕ) → Greatest f a n o → Greatest f a n p → o ≡ p
one_greatest f a n None None g h = refl
one_greatest f a n None (Some y) g h = let w = h.fits y refl in absurd (g.most y w.0 w.1)
one_greatest f a n (Some x) None g h = let w = g.fits x refl in absurd (h.most x w.0 w.1)
one_greatest f a n (Some x) (Some y) g h =
    let w = g.fits x refl in
    let z = h.fits y refl in
    let yx : y ≤ x = g.most y z.0 z.1 in
    let xy : x ≤ y = h.most x w.0 w.1 in
    let e : x ≡ y = omega arith in
    ap {B = Option ℕ} Some e

-- departing at d arrives by a exactly when d is no later than the latest departure, whether link and departure are there or not
pub latest_exact : (net : Meaning) → Laws net → (k d a : ℕ) → a ≤ net.last → NoLater (net.arrival k d) (Some a) ↔ NotBefore d (latest net k a)
latest_exact net law k d a al = (to, back (latest net k a) refl)
  where
    g : Greatest (net.arrival k) a (suc net.last) (latest net k a)
    g = latest_greatest net k a al

    to : NoLater (net.arrival k d) (Some a) → NotBefore d (latest net k a)
    to by = ⊎_elim (λ h. absurd (subst (λ o. NoLater o (Some a)) (law.no_tick k d h) by)) (λ h. g.most d (omega arith) by) (cases_lt net.last d)

    back : (o : Option ℕ) → latest net k a ≡ o → NotBefore d o → NoLater (net.arrival k d) (Some a)
    back None e n = absurd n
    back (Some x) e n =
        let f = g.fits x e in
        ⊎_elim
        (λ l. no_later_trans _ (net.arrival k x) (Some a) (law.fifo k d x l n (omega (arith, f.0))) f.1)
        (λ l. absurd (subst (λ o. NoLater o (Some a)) ((law.no_link k l).arrival x) f.1))
        (cases_among k net.links)

-- the latest departure, from a test at each tick
pub latest_tested : (net : Meaning) (k a : ℕ) (o : Option ℕ) → a ≤ net.last → ((x : ℕ) → o ≡ Some x → x ≤ net.last) → ((d : ℕ) → d ≤ net.last → NoLater (net.arrival k d) (Some a) ↔ NotBefore d o) → o ≡ latest net k a
latest_tested net k a o al within test =
    one_greatest (net.arrival k) a (suc net.last) o _
    (record {
      fits = λ x e. let l = within x e in (omega arith, (test x l).1 (subst (NotBefore x) (sym e) (omega arith)));
      most = λ d l by. (test d (omega arith)).0 by;
    })
    (latest_greatest net k a al)

-- above the last tick there is none
pub latest_past : (net : Meaning) (k a : ℕ) → net.last < a → None ≡ latest net k a
latest_past net k a h = sym (cond-false (leb a net.last) _ None (lt-leb a net.last h))
