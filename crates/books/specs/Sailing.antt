-- What the arrivals and latest departures of sailings obey.
use Rattle.std.specs.Prelude.{◌≡◌, ℕ, ◌+◌, ◌<◌, ◌≤◌, min, ◌⊎◌, ◌↔◌, List, [], ◌∷◌, Some, None, Option, nat_le, refl}
use Rattle.std.proofs.Common.{sym, subst, inl, inr, ⊎_elim, arith}
use Rattle.std.proofs.lemmas.Bool.{cases_lt, leb-true, leb-false, cond_both}
use Rattle.network.specs.Laws.{NoLater, NotBefore, Between}
use Rattle.books.specs.Ticks.{earlier, later_of}
use Rattle.network.proofs.Orders.{no_later_self, not_before_less}
use Rattle.records.specs.declared.layout.Point.{Point}
use Rattle.records.specs.Rules.{AllTimely}
use Rattle.books.specs.Sailings.{if_departs, sailing, if_arrives, sailing_back, LeastSailing}
use Rattle.books.specs.Timed.{Timed}

-- the earlier of two is by a tick exactly when one of them is
earlier_by : (x y : Option ℕ) (a : ℕ) → NoLater (earlier x y) (Some a) ↔ (NoLater x (Some a) ⊎ NoLater y (Some a))
earlier_by None y a = (inr, ⊎_elim (λ n. absurd n) (λ n. n))
earlier_by (Some x) None a = (inl, ⊎_elim (λ n. n) (λ n. absurd n))
earlier_by (Some x) (Some y) a = ((λ n. ⊎_elim (λ l. inr (omega arith)) (λ l. inl l) (cases_lt a x)), ⊎_elim (λ n. omega arith) (λ n. omega arith))

-- the later of two is not before a tick exactly when one of them isn't
later_not_before : (x y : Option ℕ) (d : ℕ) → NotBefore d (later_of x y) ↔ (NotBefore d x ⊎ NotBefore d y)
later_not_before None y d = (inr, ⊎_elim (λ n. absurd n) (λ n. n))
later_not_before (Some x) None d = (inl, ⊎_elim (λ n. n) (λ n. absurd n))
later_not_before (Some x) (Some y) d = ((λ n. ⊎_elim (λ l. inr (omega arith)) (λ l. inl l) (cases_lt x d)), ⊎_elim (λ n. omega arith) (λ n. omega arith))

earlier_between : (least most : ℕ) (x y : Option ℕ) → Between least most x → Between least most y → Between least most (earlier x y)
earlier_between least most None y p q = q
earlier_between least most (Some x) None p q = p
earlier_between least most (Some x) (Some y) p q = (omega (arith, p.0, q.0), omega (arith, p.1))

-- one sailing departs at d or later and arrives by a, seen from either end
one_exact : (p : Point) (a d : ℕ) → NoLater (if_departs d p) (Some a) ↔ NotBefore d (if_arrives a p)
one_exact p a d =
    cond_both (nat_le d p.departure) (Some p.arrival) None (λ x. NoLater x (Some a) ↔ NotBefore d (if_arrives a p))
    (λ e.
    let l = leb-true d p.departure e in
    cond_both (nat_le p.arrival a) (Some p.departure) None (λ y. NoLater (Some p.arrival) (Some a) ↔ NotBefore d y)
    (λ f. ((λ n. l), (λ n. leb-true p.arrival a f)))
    (λ f. ((λ n. absurd (let m = leb-false p.arrival a f in omega arith)), (λ n. absurd n))))
    (λ e.
    let l = leb-false d p.departure e in
    cond_both (nat_le p.arrival a) (Some p.departure) None (λ y. NoLater None (Some a) ↔ NotBefore d y)
    (λ f. ((λ n. absurd n), (λ n. absurd (omega arith))))
    (λ f. ((λ n. absurd n), (λ n. absurd n))))

sailing_exact : (ps : List Point) (a d : ℕ) → NoLater (sailing ps d) (Some a) ↔ NotBefore d (sailing_back ps a)
sailing_exact [] a d = ((λ n. absurd n), (λ n. absurd n))
sailing_exact (p ∷ ps) a d =
    let one = one_exact p a d in
    let more = sailing_exact ps a d in
    let by = earlier_by (if_departs d p) (sailing ps d) a in
    let before = later_not_before (if_arrives a p) (sailing_back ps a) d in
    ((λ n. before.1 (⊎_elim (λ m. inl (one.0 m)) (λ m. inr (more.0 m)) (by.0 n))), (λ n. by.1 (⊎_elim (λ m. inl (one.1 m)) (λ m. inr (more.1 m)) (before.0 n))))

-- what arrives by every tick that another arrives by is no later
by_all : (x y : Option ℕ) → ((a : ℕ) → NoLater y (Some a) → NoLater x (Some a)) → NoLater x y
by_all x None h = tt
by_all x (Some b) h = h b (no_later_self (Some b))

sailing_fifo : (ps : List Point) (s t : ℕ) → s ≤ t → NoLater (sailing ps s) (sailing ps t)
sailing_fifo ps s t h = by_all _ _ (λ a n. (sailing_exact ps a s).1 (not_before_less s t (sailing_back ps a) h ((sailing_exact ps a t).0 n)))

sailing_between : (floor last : ℕ) (ps : List Point) (t : ℕ) → AllTimely floor last ps → Between (t + floor) last (sailing ps t)
sailing_between floor last [] t ts = tt
sailing_between floor last (p ∷ ps) t ts =
    earlier_between (t + floor) last (if_departs t p) (sailing ps t)
    (cond_both (nat_le t p.departure) (Some p.arrival) None (Between (t + floor) last) (λ e. (omega (arith, leb-true t p.departure e, ts.0.takes), ts.0.arrives)) (λ e. tt))
    (sailing_between floor last ps t ts.1)

pub sailing_timed : (floor last : ℕ) (ps : List Point) → AllTimely floor last ps → Timed floor last (sailing ps) (sailing_back ps)
sailing_timed floor last ps ts = record { between = λ t. sailing_between floor last ps t ts; fifo = sailing_fifo ps; exact = sailing_exact ps }

-- the least of one sailing and of those after it
least_more : (p : Point) (ps : List Point) (t : ℕ) (o : Option ℕ) → LeastSailing ps t o → LeastSailing (p ∷ ps) t (earlier (if_departs t p) o)
least_more p ps t o h = cond_both (nat_le t p.departure) (Some p.arrival) None (λ x. LeastSailing (p ∷ ps) t (earlier x o)) (λ e. here (leb-true t p.departure e) o h) (λ e. after (leb-false t p.departure e) o h)
  where
    here : t ≤ p.departure → (o : Option ℕ) → LeastSailing ps t o → LeastSailing (p ∷ ps) t (earlier (Some p.arrival) o)
    here l None h = (inl (l, refl), (λ b. ⊎_elim (λ w. omega (arith, w.1)) (λ w. absurd (h b w))))
    here l (Some a) h =
        ⊎_elim
        (λ c. let e : min p.arrival a ≡ p.arrival = omega arith in subst (λ m. LeastSailing (p ∷ ps) t (Some m)) (sym e) (inl (l, refl), (λ b. ⊎_elim (λ w. omega (arith, w.1)) (λ w. omega (arith, h.1 b w)))))
        (λ c. let e : min p.arrival a ≡ a = omega arith in subst (λ m. LeastSailing (p ∷ ps) t (Some m)) (sym e) (inr h.0, (λ b. ⊎_elim (λ w. omega (arith, w.1)) (λ w. h.1 b w))))
        (cases_lt p.arrival a)

    after : p.departure < t → (o : Option ℕ) → LeastSailing ps t o → LeastSailing (p ∷ ps) t o
    after l None h = λ a. ⊎_elim (λ w. omega (arith, w.0)) (h a)
    after l (Some a) h = (inr h.0, (λ b. ⊎_elim (λ w. absurd (omega (arith, w.0))) (h.1 b)))

pub sailing_least : (ps : List Point) (t : ℕ) → LeastSailing ps t (sailing ps t)
sailing_least [] t = λ a h. h
sailing_least (p ∷ ps) t = least_more p ps t (sailing ps t) (sailing_least ps t)
