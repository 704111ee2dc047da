-- The network read backward in time keeps the laws, and turned twice it is itself.
use Rattle.std.proofs.Common.{◌≡◌, ℕ, suc, ◌+◌, ◌-◌, ◌<◌, ◌≤◌, leb, Some, None, Option, sym, refl, ap, ◌∙◌, subst, ⊎_elim, arith}
use Rattle.std.proofs.lemmas.Bool.{cases_lt, le-leb, lt-leb, cond-true, cond-false}
use Rattle.network.specs.Meaning.{Meaning, IsLink}
use Rattle.network.specs.Laws.{NoLater, NotBefore, Between, Absent, Laws}
use Rattle.network.specs.Latest.{latest}
use Rattle.network.proofs.Orders.{no_later_self, no_later_trans}
use Rattle.network.proofs.Ranges.{cases_among}
use Rattle.network.proofs.Greatest.{latest_greatest, one_greatest}
use Rattle.journeys.specs.Turned.{less, turned}

-- what is counted back to a tick was a tick
pub less_some : (last x : ℕ) (o : Option ℕ) → less last o ≡ Some x → (a : ℕ) × (o ≡ Some a) × (last - a ≡ x)
less_some last x None e = absurd (let z : ◌≡◌ {A = ℕ} 0 1 = cc in omega arith)
less_some last x (Some a) e = (a, refl, cc)

-- counted back twice, a tick is itself
less_twice : (last : ℕ) (o : Option ℕ) → Between 0 last o → less last (less last o) ≡ o
less_twice last None b = refl
less_twice last (Some x) b = let e : last - (last - x) ≡ x = omega arith in ap {B = Option ℕ} Some e

-- a departure that is not before c is, backward, an arrival by last − c
less_no_later : (last c : ℕ) (o : Option ℕ) → NotBefore c o → NoLater (less last o) (Some (last - c))
less_no_later last c None n = absurd n
less_no_later last c (Some x) n = omega arith

-- an arrival by last − c is, backward, a departure that is not before c
pub less_not_before : (last c : ℕ) (o : Option ℕ) → c ≤ last → NoLater o (Some (last - c)) → NotBefore c (less last o)
less_not_before last c None h n = absurd n
less_not_before last c (Some x) h n = omega arith

-- a later departure never arrives earlier, whether the link is there or not
pub any_fifo : (net : Meaning) → Laws net → (k s t : ℕ) → s ≤ t → t ≤ net.last → NoLater (net.arrival k s) (net.arrival k t)
any_fifo net law k s t st tl = ⊎_elim (λ l. law.fifo k s t l st tl) (λ n. subst (NoLater (net.arrival k s)) (sym ((law.no_link k n).arrival t)) tt) (cases_among k net.links)

-- an arrival is at most the last tick, whether the link is there or not
pub any_within : (net : Meaning) → Laws net → (k t : ℕ) → t ≤ net.last → Between 0 net.last (net.arrival k t)
any_within net law k t tl = ⊎_elim (λ l. wide (net.arrival k t) (law.arrival k t l tl)) (λ n. subst (Between 0 net.last) (sym ((law.no_link k n).arrival t)) tt) (cases_among k net.links)
  where
    wide : (o : Option ℕ) → Between (t + net.floor k) net.last o → Between 0 net.last o
    wide None b = tt
    wide (Some a) b = (omega arith, b.1)

-- a latest departure is at most the last tick
pub latest_within : (net : Meaning) (k a : ℕ) → a ≤ net.last → Between 0 net.last (latest net k a)
latest_within net k a al = go (latest net k a) refl
  where
    go : (o : Option ℕ) → latest net k a ≡ o → Between 0 net.last o
    go None e = tt
    go (Some x) e = (omega arith, omega (arith, ((latest_greatest net k a al).fits x e).0))

-- the turned arrival for a tick up to the last, and for one above it
turned_is : (net : Meaning) (k t : ℕ) → t ≤ net.last → (turned net).arrival k t ≡ less net.last (latest net k (net.last - t))
turned_is net k t tl = cond-true (leb t net.last) _ None (le-leb _ _ tl)

turned_no_tick : (net : Meaning) (k t : ℕ) → net.last < t → (turned net).arrival k t ≡ None
turned_no_tick net k t h = cond-false (leb t net.last) _ None (lt-leb _ _ h)

-- a ride that enters link k at c and leaves it by b, backward
pub turned_ride : (net : Meaning) (k c b : ℕ) → c ≤ net.last → b ≤ net.last → NoLater (net.arrival k c) (Some b) → NoLater ((turned net).arrival k (net.last - b)) (Some (net.last - c))
turned_ride net k c b cl bl by =
    let e : net.last - (net.last - b) ≡ b = omega arith in
    let is : (turned net).arrival k (net.last - b) ≡ less net.last (latest net k b) = turned_is net k (net.last - b) (omega arith) ∙ ap (λ z. less net.last (latest net k z)) e in
    subst (λ o. NoLater o (Some (net.last - c))) (sym is) (less_no_later net.last c _ ((latest_greatest net k b bl).most c (omega arith) by))

module _ (net : Meaning) (law : Laws net) where
  turned_between : (k t : ℕ) → IsLink net k → t ≤ net.last → Between (t + net.floor k) net.last ((turned net).arrival k t)
  turned_between k t l tl = subst (Between (t + net.floor k) net.last) (sym (turned_is net k t tl)) (go (latest net k (net.last - t)) refl)
    where
      from : (x : ℕ) (o : Option ℕ) → Between (x + net.floor k) net.last o → NoLater o (Some (net.last - t)) → x + net.floor k ≤ net.last - t
      from x None b n = absurd n
      from x (Some y) b n = omega (arith, b.0)

      go : (o : Option ℕ) → latest net k (net.last - t) ≡ o → Between (t + net.floor k) net.last (less net.last o)
      go None e = tt
      go (Some x) e =
          let f = (latest_greatest net k (net.last - t) (omega arith)).fits x e in
          let xl : x ≤ net.last = omega (arith, f.0) in
          let q = from x (net.arrival k x) (law.arrival k x l xl) f.1 in
          (omega arith, omega arith)

  turned_fifo : (k s t : ℕ) → s ≤ t → t ≤ net.last → NoLater ((turned net).arrival k s) ((turned net).arrival k t)
  turned_fifo k s t st tl = subst (NoLater ((turned net).arrival k s)) (sym (turned_is net k t tl)) (go (latest net k (net.last - t)) refl)
    where
      e : net.last - (net.last - s) ≡ s
      e = omega arith

      go : (o : Option ℕ) → latest net k (net.last - t) ≡ o → NoLater ((turned net).arrival k s) (less net.last o)
      go None q = tt
      go (Some x) q =
          let f = (latest_greatest net k (net.last - t) (omega arith)).fits x q in
          let by : NoLater (net.arrival k x) (Some (net.last - s)) = no_later_trans _ (Some (net.last - t)) (Some (net.last - s)) f.1 (omega arith) in
          subst (λ z. NoLater ((turned net).arrival k z) (Some (net.last - x))) e (turned_ride net k x (net.last - s) (omega (arith, f.0)) (omega arith) by)

  turned_no_link : (k : ℕ) → (IsLink net k → ⊥) → Absent (turned net) k
  turned_no_link k n = record { tail = gone.head; head = gone.tail; floor = gone.floor; arrival = λ t. ⊎_elim (turned_no_tick net k t) (λ tl. turned_is net k t tl ∙ go t (latest net k (net.last - t)) refl) (cases_lt net.last t) }
    where
      gone : Absent net k
      gone = law.no_link k n

      go : (t : ℕ) (o : Option ℕ) → latest net k (net.last - t) ≡ o → less net.last o ≡ None
      go t None e = refl
      go t (Some x) e = absurd (subst (λ o. NoLater o (Some (net.last - t))) (gone.arrival x) ((latest_greatest net k (net.last - t) (omega arith)).fits x e).1)

  pub turned_laws : Laws (turned net)
  turned_laws = record {
    places = law.places;
    links = law.links;
    last = law.last;
    tail = law.head;
    head = law.tail;
    floor = law.floor;
    arrival = turned_between;
    fifo = λ k s t l st tl. turned_fifo k s t st tl;
    no_link = turned_no_link;
    no_tick = turned_no_tick net;
  }

  -- the latest departure of the turned network, from the arrival, whether the link is there or not
  pub latest_turned : (k a : ℕ) → a ≤ net.last → latest (turned net) k a ≡ less net.last (net.arrival k (net.last - a))
  latest_turned k a al = one_greatest ((turned net).arrival k) a (suc net.last) _ _ (latest_greatest (turned net) k a al) (record { fits = fits; most = most })
    where
      ea : net.last - (net.last - a) ≡ a
      ea = omega arith

      fits : (x : ℕ) → less net.last (net.arrival k (net.last - a)) ≡ Some x → (x < suc net.last) × NoLater ((turned net).arrival k x) (Some a)
      fits x e =
          let (y, ey, q) = less_some net.last x _ e in
          let w : Between 0 net.last (Some y) = subst (Between 0 net.last) ey (any_within net law k (net.last - a) (omega arith)) in
          let by : NoLater (net.arrival k (net.last - a)) (Some y) = subst (λ o. NoLater o (Some y)) (sym ey) (no_later_self (Some y)) in
          let r = turned_ride net k (net.last - a) y (omega arith) w.1 by in
          (omega arith, subst (λ z. NoLater ((turned net).arrival k z) (Some a)) q (subst (λ z. NoLater ((turned net).arrival k (net.last - y)) (Some z)) ea r))

      most : (d : ℕ) → d < suc net.last → NoLater ((turned net).arrival k d) (Some a) → NotBefore d (less net.last (net.arrival k (net.last - a)))
      most d dl by = go (latest net k (net.last - d)) refl (subst (λ o. NoLater o (Some a)) (turned_is net k d (omega arith)) by)
        where
          go : (o : Option ℕ) → latest net k (net.last - d) ≡ o → NoLater (less net.last o) (Some a) → NotBefore d (less net.last (net.arrival k (net.last - a)))
          go None q n = absurd n
          go (Some c) q n =
              let f = (latest_greatest net k (net.last - d) (omega arith)).fits c q in
              less_not_before net.last d _ (omega arith) (no_later_trans _ (net.arrival k c) (Some (net.last - d)) (any_fifo net law k (net.last - a) c (omega arith) (omega (arith, f.0))) f.1)

  arrival_twice : (k t : ℕ) → (turned (turned net)).arrival k t ≡ net.arrival k t
  arrival_twice k t =
      ⊎_elim
      (λ h. turned_no_tick (turned net) k t h ∙ sym (law.no_tick k t h))
      (λ tl.
      let e : net.last - (net.last - t) ≡ t = omega arith in
      turned_is (turned net) k t tl
      ∙ ap (less net.last) (latest_turned k (net.last - t) (omega arith))
      ∙ ap (λ z. less net.last (less net.last (net.arrival k z))) e
      ∙ less_twice net.last _ (any_within net law k t tl))
      (cases_lt net.last t)

  pub turned_twice : turned (turned net) ≡ net
  turned_twice i = record {
    places = net.places;
    links = net.links;
    last = net.last;
    tail = net.tail;
    head = net.head;
    floor = net.floor;
    arrival = λ k t. arrival_twice k t i;
  }
