-- Rides over one link, and journeys and drives made of them.
use Rattle.std.proofs.Common.{◌≡◌, ℕ, ◌+◌, ◌≤◌, ◌⊎◌, List, [], ◌∷◌, ◌++◌, Some, None, Option, refl, ap, ◌∙◌, subst, inl, inr, ⊎_elim, arith}
use Rattle.network.specs.Meaning.{Meaning, IsLink}
use Rattle.network.specs.Laws.{Laws, NoLater, Between}
use Rattle.journeys.specs.Journey.{Journey, Drive, Earliest}
use Rattle.journeys.specs.Journey.Journey.{stay, ride}
use Rattle.journeys.specs.Journey.Drive.{there, along}
use Rattle.journeys.specs.Earliest.{after}

-- an earlier departure has an arrival where a later one has, and no later
pub sooner : (net : Meaning) → Laws net → (k s t a : ℕ) → IsLink net k → s ≤ t → t ≤ net.last → net.arrival k t ≡ Some a → (b : ℕ) × (net.arrival k s ≡ Some b) × (b ≤ a)
sooner net law k s t a l st tl e = go (net.arrival k s) refl (subst (NoLater (net.arrival k s)) e (law.fifo k s t l st tl))
  where
    go : (o : Option ℕ) → net.arrival k s ≡ o → NoLater o (Some a) → (b : ℕ) × (net.arrival k s ≡ Some b) × (b ≤ a)
    go None p n = absurd n
    go (Some b) p n = (b, p, n)

-- an arrival is at least the departure plus the floor, and at most the last tick
pub within : (net : Meaning) → Laws net → (k t a : ℕ) → IsLink net k → t ≤ net.last → net.arrival k t ≡ Some a → (t + net.floor k ≤ a) × (a ≤ net.last)
within net law k t a l tl e = subst (Between (t + net.floor k) net.last) e (law.arrival k t l tl)

-- who is at the tail by c is at the head by what c arrives at
pub after_by : (net : Meaning) → Laws net → (k c y : ℕ) (o : Option ℕ) → IsLink net k → c ≤ net.last → net.arrival k c ≡ Some y → NoLater o (Some c) → NoLater (after net k o) (Some y)
after_by net law k c y None l cl e n = absurd n
after_by net law k c y (Some x) l cl e n = subst (NoLater (net.arrival k x)) e (law.fifo k x c l n cl)

-- who comes over a link came to its tail
pub after_some : (net : Meaning) (k a : ℕ) (o : Option ℕ) → after net k o ≡ Some a → (x : ℕ) × (o ≡ Some x) × (net.arrival k x ≡ Some a)
after_some net k a None e = absurd (let z : ◌≡◌ {A = ℕ} 0 1 = cc in omega arith)
after_some net k a (Some x) e = (x, refl, e)

-- one journey after another
pub onto : {net : Meaning} {s t u b v a : ℕ} {r q : List ℕ} → Journey net s t r u b → Journey net u b q v a → Journey net s t (r ++ q) v a
onto stay j = j
onto (ride c y l tc cl e i) j = ride c y l tc cl e (onto i j)

-- one drive after another
pub drive_onto : {net : Meaning} {s t u b v a : ℕ} {r q : List ℕ} → Drive net s t r u b → Drive net u b q v a → Drive net s t (r ++ q) v a
drive_onto there j = j
drive_onto (along y l tl e i) j = along y l tl e (drive_onto i j)

-- a drive is a journey
pub driven : {net : Meaning} {s t v a : ℕ} {roads : List ℕ} → Drive net s t roads v a → Journey net s t roads v a
driven there = stay
driven (along {t = t} y l tl e d) = ride t y l (omega arith) tl e (driven d)

-- who is there at u, no later than t, and doesn't wait arrives no later
pub no_wait : (net : Meaning) → Laws net → (s t v a u : ℕ) (roads : List ℕ) → Journey net s t roads v a → u ≤ t → (b : ℕ) × Drive net s u roads v b × (b ≤ a)
no_wait net law s t v a u roads stay ut = (u, there, ut)
no_wait net law s t v a u roads (ride {k} c y l tc cl e j) ut =
    let (x, ex, xy) = sooner net law k u c y l (omega arith) cl e in
    let (b, d, ba) = no_wait net law _ y v a x _ j xy in
    (b, along x l (omega arith) ex d, ba)

-- a journey arrives no earlier than it leaves, and by the last tick
pub journey_within : (net : Meaning) → Laws net → {s t v a : ℕ} {roads : List ℕ} → Journey net s t roads v a → t ≤ net.last → (t ≤ a) × (a ≤ net.last)
journey_within net law stay tl = (omega arith, tl)
journey_within net law (ride {k} c y l tc cl e j) tl =
    let w = within net law k c y l cl e in
    let r = journey_within net law j w.1 in
    (omega arith, r.1)

-- a journey by its last ride: over link k, to whose tail it came at `came` and which it enters at `leaves`
pub record LastRide (net : Meaning) (s t v a : ℕ) : Type 0 where
  pub k : ℕ
  pub came : ℕ
  pub leaves : ℕ
  pub front : List ℕ
  pub before : Journey net s t front (net.tail k) came
  pub link : IsLink net k
  pub waits : came ≤ leaves
  pub high : leaves ≤ net.last
  pub comes : net.arrival k leaves ≡ Some a
  pub into : net.head k ≡ v

pub last_ride : {net : Meaning} {s t v a : ℕ} {roads : List ℕ} → Journey net s t roads v a → ((s ≡ v) × (t ≡ a)) ⊎ LastRide net s t v a
last_ride stay = inl (refl, refl)
last_ride (ride {k} {t} c y l tc cl e j) =
    ⊎_elim
    (λ q. inr (record { k = k; came = t; leaves = c; front = []; before = stay; link = l; waits = tc; high = cl; comes = e ∙ ap {B = Option ℕ} Some q.1; into = q.0 }))
    (λ m. inr (record { k = m.k; came = m.came; leaves = m.leaves; front = k ∷ m.front; before = ride c y l tc cl e m.before; link = m.link; waits = m.waits; high = m.high; comes = m.comes; into = m.into }))
    (last_ride j)

pub one_earliest : (net : Meaning) (s t v : ℕ) (p q : Option ℕ) → Earliest net s t v p → Earliest net s t v q → p ≡ q
one_earliest net s t v None None p q = refl
one_earliest net s t v None (Some b) p q = absurd (p b q.reached.0 q.reached.1)
one_earliest net s t v (Some a) None p q = absurd (q a p.reached.0 p.reached.1)
one_earliest net s t v (Some a) (Some b) p q =
    let ab : a ≤ b = p.least b q.reached.0 q.reached.1 in
    let ba : b ≤ a = q.least a p.reached.0 p.reached.1 in
    let e : a ≡ b = omega arith in
    ap {B = Option ℕ} Some e
