-- The computed arrivals are the earliest: each is some journey's, and once a round lowers nothing no journey comes before them.
use Rattle.std.proofs.Common.{◌≡◌, ℕ, zero, suc, ◌+◌, ◌<◌, ◌≤◌, min, Bool, true, false, eqb, ◌⊎◌, ◌↔◌, List, [], ◌∷◌, ◌++◌, length, get_or, set, replicate, Some, None, Option, sym, refl, ap, ◌∙◌, subst, inl, inr, ⊎_elim, arith}
use Rattle.std.proofs.lemmas.List.{length-set, length-replicate, get_or-set_same, get_or-set_other, set-get_or, get_or-replicate, get_or_past}
use Rattle.std.proofs.lemmas.Bool.{cases_eq, cases_lt, eqb-true, eqb-false}
use Rattle.network.specs.Meaning.{Meaning, IsPlace, IsLink}
use Rattle.network.specs.Laws.{Laws, NoLater, Between}
use Rattle.network.proofs.Orders.{no_later_trans}
use Rattle.journeys.specs.Journey.{Journey, Earliest}
use Rattle.journeys.specs.Journey.Journey.{stay, ride}
use Rattle.journeys.specs.Earliest.{after, earlier, Table, tried, round, key, total, settled, start, arrivals, earliest}
use Rattle.journeys.proofs.Rides.{within, after_by, onto, one_earliest}

-- a place's arrival in a table
abbrev pub at : Table → ℕ → Option ℕ
at found v = get_or found v None

-- none, where its type isn't seen from what is around it
abbrev never : Option ℕ
never = None

-- what holds of the entry set, and of the others as they were, holds of each
pub set_each : (P : ℕ → Option ℕ → Type 0) (found : Table) (h : ℕ) (o : Option ℕ) → h < length found → P h o → ((v : ℕ) → P v (at found v)) → (v : ℕ) → P v (at (set found h o) v)
set_each P found h o l p q v =
    ⊎_elim
    (λ e. subst (λ w. P w (at (set found h o) w)) (sym e) (subst (P h) (sym (get_or-set_same found h o None l)) p))
    (λ ne. subst (P v) (sym (get_or-set_other found h v o None ne)) (q v))
    (cases_eq v h)

-- the sum after one entry is set
total_set : (last : ℕ) (found : Table) (h : ℕ) (o : Option ℕ) → h < length found → total last (set found h o) + key last (at found h) ≡ total last found + key last o
total_set last [] h o l = absurd (omega arith)
total_set last (x ∷ xs) zero o l = omega arith
total_set last (x ∷ xs) (suc h) o l = let e : total last (set xs h o) + key last (at xs h) ≡ total last xs + key last o = total_set last xs h o (omega arith) in omega arith

-- an arrival y tried at place h is no earlier than what is found there, and changes nothing, or it lowers the sum
tried_falls : (last : ℕ) (found : Table) (h : ℕ) (y : Option ℕ) → h < length found → Between 0 last y → (NoLater (at found h) y × (set found h (earlier (at found h) y) ≡ found)) ⊎ (total last (set found h (earlier (at found h) y)) < total last found)
tried_falls last found h y l b = go (at found h) refl y b
  where
    Goal : Option ℕ → Option ℕ → Type 0
    Goal x y = (NoLater x y × (set found h (earlier x y) ≡ found)) ⊎ (total last (set found h (earlier x y)) < total last found)

    same : (x : Option ℕ) → at found h ≡ x → set found h x ≡ found
    same x e = subst (λ z. set found h z ≡ found) e (set-get_or found h None)

    falls : (x : Option ℕ) (c : ℕ) → at found h ≡ x → c < key last x → total last (set found h (Some c)) < total last found
    falls x c e cx =
        let s = total_set last found h (Some c) l in
        let k : key last (at found h) ≡ key last x = ap (key last) e in
        omega arith

    go : (x : Option ℕ) → at found h ≡ x → (y : Option ℕ) → Between 0 last y → Goal x y
    go None e None b = inl (tt, same None e)
    go None e (Some c) b = inr (falls None c e (omega arith))
    go (Some a) e None b = inl (tt, same (Some a) e)
    go (Some a) e (Some c) b =
        ⊎_elim
        (λ ca. inr (falls (Some a) (min a c) e (omega arith)))
        (λ ac. let m : min a c ≡ a = omega arith in inl (ac, subst (λ z. set found h (Some z) ≡ found) (sym m) (same (Some a) e)))
        (cases_lt c a)

-- some journey comes to v at that tick, or nothing is said
abbrev Came : Meaning → ℕ → ℕ → ℕ → Option ℕ → Type 0
Came net s t v None = Unit {0}
Came net s t v (Some a) = (a ≤ net.last) × ((roads : List ℕ) × Journey net s t roads v a)

-- what holds of the table throughout
record Sound (net : Meaning) (s t : ℕ) (found : Table) : Type 0 where
  long : length found ≡ suc net.places
  came : (v : ℕ) → Came net s t v (at found v)
  home : NoLater (at found s) (Some t)

module _ (net : Meaning) (law : Laws net) (s t : ℕ) where
  after_came : (k : ℕ) (o : Option ℕ) → IsLink net k → Came net s t (net.tail k) o → Came net s t (net.head k) (after net k o)
  after_came k None l c = tt
  after_came k (Some x) l c = go (net.arrival k x) refl
    where
      go : (o : Option ℕ) → net.arrival k x ≡ o → Came net s t (net.head k) o
      go None e = tt
      go (Some y) e = ((within net law k x y l c.0 e).1, (c.1.0 ++ (k ∷ []), onto c.1.1 (ride x y l (omega arith) c.0 e stay)))

  earlier_came : (v : ℕ) (x y : Option ℕ) → Came net s t v x → Came net s t v y → Came net s t v (earlier x y)
  earlier_came v None y p q = q
  earlier_came v (Some a) None p q = p
  earlier_came v (Some a) (Some b) p q =
      ⊎_elim
      (λ ba. let e : b ≡ min a b = omega arith in subst (λ z. Came net s t v (Some z)) e q)
      (λ ab. let e : a ≡ min a b = omega arith in subst (λ z. Came net s t v (Some z)) e p)
      (cases_lt b a)

  earlier_home : (x y : Option ℕ) → NoLater x (Some t) → NoLater (earlier x y) (Some t)
  earlier_home None y p = absurd p
  earlier_home (Some a) None p = p
  earlier_home (Some a) (Some b) p = omega arith

  head_in : (found : Table) (k : ℕ) → IsLink net k → Sound net s t found → net.head k < length found
  head_in found k l i = omega (arith, i.long, (law.head k l).high)

  tried_sound : (found : Table) (k : ℕ) → IsLink net k → Sound net s t found → Sound net s t (tried net found k)
  tried_sound found k l i =
      let hl = head_in found k l i in
      record {
        long = length-set found (net.head k) _ ∙ i.long;
        came = set_each (Came net s t) found (net.head k) _ hl (earlier_came _ _ _ (i.came (net.head k)) (after_came k _ l (i.came (net.tail k)))) i.came;
        home = ⊎_elim
            (λ e. subst (λ o. NoLater o (Some t)) (sym (ap (at (tried net found k)) e ∙ get_or-set_same found (net.head k) _ None hl)) (earlier_home _ _ (subst (λ w. NoLater (at found w) (Some t)) e i.home)))
            (λ ne. subst (λ o. NoLater o (Some t)) (sym (get_or-set_other found (net.head k) s _ None ne)) i.home)
            (cases_eq s (net.head k));
      }

  link_in : (k : ℕ) → suc k ≤ net.links → IsLink net (suc k)
  link_in k h = record { low = omega arith; high = h }

  round_sound : (k : ℕ) (found : Table) → k ≤ net.links → Sound net s t found → Sound net s t (round net k found)
  round_sound zero found h i = i
  round_sound (suc k) found h i = tried_sound (round net k found) (suc k) (link_in k h) (round_sound k found (omega arith) i)

  -- link k shows nothing earlier
  abbrev Quiet : Table → ℕ → Type 0
  Quiet found k = NoLater (at found (net.head k)) (after net k (at found (net.tail k)))

  came_between : (v : ℕ) (o : Option ℕ) → Came net s t v o → Between 0 net.last o
  came_between v None c = tt
  came_between v (Some a) c = (omega arith, c.0)

  tried_step : (found : Table) (k : ℕ) → IsLink net k → Sound net s t found → (Quiet found k × (tried net found k ≡ found)) ⊎ (total net.last (tried net found k) < total net.last found)
  tried_step found k l i = tried_falls net.last found (net.head k) _ (head_in found k l i) (came_between (net.head k) _ (after_came k _ l (i.came (net.tail k))))

  round_step : (k : ℕ) (found : Table) → k ≤ net.links → Sound net s t found → (((j : ℕ) → IsLink net j → j ≤ k → Quiet found j) × (round net k found ≡ found)) ⊎ (total net.last (round net k found) < total net.last found)
  round_step zero found h i = inl ((λ j l z. absurd (omega (arith, l.low))), refl)
  round_step (suc k) found h i =
      ⊎_elim
      (λ p.
      let e : tried net (round net k found) (suc k) ≡ tried net found (suc k) = ap (λ z. tried net z (suc k)) p.1 in
      ⊎_elim
      (λ q. inl ((λ j l jk. ⊎_elim (λ je. subst (Quiet found) (sym je) q.0) (λ jn. p.0 j l (omega arith)) (cases_eq j (suc k))), e ∙ q.1))
      (λ q. inr (subst (λ z. total net.last z < total net.last found) (sym e) q))
      (tried_step found (suc k) (link_in k h) i))
      (λ p.
      ⊎_elim
      (λ q. inr (subst (λ z. total net.last z < total net.last found) (sym q.1) p))
      (λ q. inr (omega arith))
      (tried_step (round net k found) (suc k) (link_in k h) (round_sound k found (omega arith) i)))
      (round_step k found (omega arith) i)

  -- no link shows anything earlier
  abbrev Still : Table → Type 0
  Still found = (j : ℕ) → IsLink net j → Quiet found j

  abbrev Settled : Table → Type 0
  Settled found = Sound net s t found × Still found

  settles : (rounds : ℕ) (found : Table) → Sound net s t found → total net.last found < rounds → Settled (settled net rounds found)
  settles zero found i f = absurd (omega arith)
  settles (suc rounds) found i f = go (eqb (total net.last next) (total net.last found)) refl (λ lt. settles rounds next (round_sound net.links found (omega arith) i) (omega arith))
    where
      next : Table
      next = round net net.links found

      step : (((j : ℕ) → IsLink net j → j ≤ net.links → Quiet found j) × (next ≡ found)) ⊎ (total net.last next < total net.last found)
      step = round_step net.links found (omega arith) i

      go : (b : Bool) → eqb (total net.last next) (total net.last found) ≡ b → (total net.last next < total net.last found → Settled (settled net rounds next)) → Settled (elim b [ true ↦ found | false ↦ settled net rounds next ])
      go true e more = ⊎_elim (λ p. (i, (λ j l. p.0 j l l.high))) (λ q. let z = eqb-true _ _ e in absurd (omega arith)) step
      go false e more = more (⊎_elim (λ p. absurd (eqb-false _ _ e (ap (total net.last) p.1))) (λ q. q) step)

  start_sound : IsPlace net s → t ≤ net.last → Sound net s t (start net s t)
  start_sound place tl =
      let n : length (replicate (suc net.places) never) ≡ suc net.places = length-replicate (suc net.places) None in
      let l : s < length (replicate (suc net.places) never) = omega (arith, place.high) in
      record {
        long = length-set (replicate (suc net.places) None) s (Some t) ∙ n;
        came = set_each (Came net s t) (replicate (suc net.places) None) s (Some t) l (tl, ([], stay)) (blank (suc net.places));
        home = subst (λ o. NoLater o (Some t)) (sym (get_or-set_same (replicate (suc net.places) None) s (Some t) None l)) here;
      }
    where
      here : t ≤ t
      here = omega arith

      blank : (n v : ℕ) → Came net s t v (at (replicate n None) v)
      blank n v =
          ⊎_elim
          (λ vn. subst (Came net s t v) (sym (get_or-replicate n v None None vn)) tt)
          (λ nv. subst (Came net s t v) (sym (get_or_past (replicate n None) v None (omega (arith, length-replicate n never)))) tt)
          (cases_lt v n)

  -- no journey arrives before a still table says
  still_least : (found : Table) → Still found → {u x v a : ℕ} {roads : List ℕ} → Journey net u x roads v a → NoLater (at found u) (Some x) → NoLater (at found v) (Some a)
  still_least found still stay n = n
  still_least found still (ride {k} c y l xc cl e j) n =
      let by : NoLater (at found (net.tail k)) (Some c) = no_later_trans _ (Some _) (Some c) n xc in
      still_least found still j (no_later_trans _ _ (Some y) (still k l) (after_by net law k c y _ l cl e by))

  settled_earliest : (found : Table) → Settled found → (v : ℕ) → Earliest net s t v (at found v)
  settled_earliest found (i, still) v = go (at found v) (i.came v) (λ b roads j. still_least found still j i.home)
    where
      go : (o : Option ℕ) → Came net s t v o → ((b : ℕ) (roads : List ℕ) → Journey net s t roads v b → NoLater o (Some b)) → Earliest net s t v o
      go None c least = least
      go (Some a) c least = record { reached = c.1; least = least }

  arrivals_settled : IsPlace net s → t ≤ net.last → Settled (arrivals net s t)
  arrivals_settled place tl = settles (suc (total net.last (start net s t))) (start net s t) (start_sound place tl) (omega arith)

  -- the table has an entry for each place
  pub arrivals_long : IsPlace net s → t ≤ net.last → length (arrivals net s t) ≡ suc net.places
  arrivals_long place tl = (arrivals_settled place tl).0.long

  pub exact : IsPlace net s → t ≤ net.last → (v : ℕ) → Earliest net s t v (earliest net s t v)
  exact place tl v = settled_earliest (arrivals net s t) (arrivals_settled place tl) v

pub computed : (net : Meaning) → Laws net → (s t v : ℕ) (o : Option ℕ) → IsPlace net s → t ≤ net.last → Earliest net s t v o ↔ (o ≡ earliest net s t v)
computed net law s t v o place tl =
    let w : Earliest net s t v (earliest net s t v) = exact net law s t place tl v in
    ((λ p. one_earliest net s t v o (earliest net s t v) p w), (λ e. subst (Earliest net s t v) (sym e) w))
