-- What a road's arrivals and latest departures obey.
use Rattle.std.specs.Prelude.{ℕ, ◌+◌, ◌<◌, ◌≤◌, ◌↔◌, List, [], ◌∷◌, Some, None, Option, nat_le}
use Rattle.std.proofs.Common.{arith, le_trans}
use Rattle.std.proofs.lemmas.Bool.{leb-true, leb-false, cond_both}
use Rattle.network.specs.Laws.{NoLater, NotBefore, Between}
use Rattle.network.proofs.Orders.{no_later_trans, not_before_less}
use Rattle.records.specs.declared.layout.Point.{Point}
use Rattle.records.specs.Rules.{Timely, AllTimely, Follows, Rising}
use Rattle.books.specs.Roads.{up_to, along, road, DepartsBefore, ArrivesBy, back_from, departure_of, back_along, road_back}
use Rattle.books.specs.Timed.{Timed}
use Rattle.books.specs.Lines.{between_low, between_high, between_more, back_high, segment}

-- the point before, if there is one, is timely
abbrev TimelyBefore : ℕ → ℕ → Option Point → Type 0
TimelyBefore floor last None = Unit {0}
TimelyBefore floor last (Some p) = Timely floor last p

up_to_low : (floor last : ℕ) (before : Option Point) (q : Point) (t : ℕ) → TimelyBefore floor last before → Timely floor last q → Follows before q → t ≤ q.departure → t + floor ≤ up_to before q t
up_to_low floor last None q t tp tq f h = omega arith
up_to_low floor last (Some p) q t tp tq f h = between_low p q f floor t tp.takes tq.takes h

up_to_high : (before : Option Point) (q : Point) (t : ℕ) → Follows before q → t ≤ q.departure → up_to before q t ≤ q.arrival
up_to_high None q t f h = omega arith
up_to_high (Some p) q t f h = between_high p q f t h

up_to_more : (before : Option Point) (q : Point) (s t : ℕ) → Follows before q → s ≤ t → up_to before q s ≤ up_to before q t
up_to_more None q s t f h = omega arith
up_to_more (Some p) q s t f h = between_more p q f s t h

along_between : (floor last : ℕ) (before : Option Point) (ps : List Point) (t : ℕ) → TimelyBefore floor last before → AllTimely floor last ps → Rising before ps → Between (t + floor) last (along before ps t)
along_between floor last before [] t tb ts r = tt
along_between floor last before (q ∷ qs) t tb ts r =
    cond_both (nat_le t q.departure) (Some (up_to before q t)) (along (Some q) qs t) (Between (t + floor) last)
    (λ e. let h = leb-true t q.departure e in (up_to_low floor last before q t tb ts.0 r.0 h, le_trans (up_to_high before q t r.0 h) ts.0.arrives))
    (λ e. along_between floor last (Some q) qs t ts.0 ts.1 r.1)

-- an arrival is at least the departure plus the floor, and at most the last tick
road_between : (floor last : ℕ) (ps : List Point) → AllTimely floor last ps → Rising None ps → (t : ℕ) → Between (t + floor) last (road ps t)
road_between floor last ps ts r t = along_between floor last None ps t tt ts r

-- after p nothing arrives earlier than p
along_above : (p : Point) (ps : List Point) (t : ℕ) → Rising (Some p) ps → NoLater (Some p.arrival) (along (Some p) ps t)
along_above p [] t r = tt
along_above p (q ∷ qs) t r =
    cond_both (nat_le t q.departure) (Some (up_to (Some p) q t)) (along (Some q) qs t) (NoLater (Some p.arrival))
    (λ e. omega arith)
    (λ e. no_later_trans (Some p.arrival) (Some q.arrival) _ r.0.1 (along_above q qs t r.1))

along_fifo : (before : Option Point) (ps : List Point) (s t : ℕ) → Rising before ps → s ≤ t → NoLater (along before ps s) (along before ps t)
along_fifo before [] s t r h = tt
along_fifo before (q ∷ qs) s t r h =
    cond_both (nat_le s q.departure) (Some (up_to before q s)) (along (Some q) qs s) (λ o. NoLater o (along before (q ∷ qs) t))
    (λ es.
    cond_both (nat_le t q.departure) (Some (up_to before q t)) (along (Some q) qs t) (NoLater (Some (up_to before q s)))
    (λ et. up_to_more before q s t r.0 h)
    (λ et. no_later_trans (Some (up_to before q s)) (Some q.arrival) _ (up_to_high before q s r.0 (leb-true s q.departure es)) (along_above q qs t r.1)))
    (λ es.
    cond_both (nat_le t q.departure) (Some (up_to before q t)) (along (Some q) qs t) (NoLater (along (Some q) qs s))
    (λ et. absurd (let sq = leb-false s q.departure es in let tq = leb-true t q.departure et in omega arith))
    (λ et. along_fifo (Some q) qs s t r.1 h))

-- a later departure never arrives earlier
road_fifo : (ps : List Point) → Rising None ps → (s t : ℕ) → s ≤ t → NoLater (road ps s) (road ps t)
road_fifo ps r s t h = along_fifo None ps s t r h

-- the latest departure by the points after p isn't before p's departure
back_along_low : (p : Point) (ps : List Point) (a : ℕ) → Rising (Some p) ps → NotBefore p.departure (back_along (Some p) ps a)
back_along_low p [] a r = omega arith
back_along_low p (q ∷ qs) a r =
    cond_both (nat_le q.arrival a) (back_along (Some q) qs a) (back_from (Some p) q a) (NotBefore p.departure)
    (λ e. not_before_less p.departure q.departure _ (omega arith) (back_along_low q qs a r.1))
    (λ e. omega arith)

back_from_high : (before : Option Point) (q : Point) (a d : ℕ) → Follows before q → ArrivesBy before a → a < q.arrival → NotBefore d (back_from before q a) → d ≤ q.departure
back_from_high None q a d f l h n = absurd n
back_from_high (Some p) q a d f l h n = le_trans n (back_high p q f a l h)

back_from_exact : (before : Option Point) (q : Point) (a d : ℕ) → Follows before q → ArrivesBy before a → a < q.arrival → (up_to before q d ≤ a) ↔ NotBefore d (back_from before q a)
back_from_exact None q a d f l h = ((λ n. omega arith), (λ n. absurd n))
back_from_exact (Some p) q a d f l h = segment p q f a l h d

-- after the last point no departure is left
none_left : (before : Option Point) (d : ℕ) → DepartsBefore before d → NotBefore d (departure_of before) → ⊥
none_left None d h n = n
none_left (Some p) d h n = omega arith

along_exact : (before : Option Point) (ps : List Point) (a d : ℕ) → Rising before ps → ArrivesBy before a → DepartsBefore before d → NoLater (along before ps d) (Some a) ↔ NotBefore d (back_along before ps a)
along_exact before [] a d r l h = ((λ n. absurd n), none_left before d h)
along_exact before (q ∷ qs) a d r l h =
    cond_both (nat_le q.arrival a) (back_along (Some q) qs a) (back_from before q a) (λ o. NoLater (along before (q ∷ qs) d) (Some a) ↔ NotBefore d o)
    (λ ea.
    let qa = leb-true q.arrival a ea in
    cond_both (nat_le d q.departure) (Some (up_to before q d)) (along (Some q) qs d) (λ o. NoLater o (Some a) ↔ NotBefore d (back_along (Some q) qs a))
    (λ ed. let qd = leb-true d q.departure ed in ((λ _. not_before_less d q.departure _ qd (back_along_low q qs a r.1)), (λ _. le_trans (up_to_high before q d r.0 qd) qa)))
    (λ ed. along_exact (Some q) qs a d r.1 qa (leb-false d q.departure ed)))
    (λ ea.
    let qa = leb-false q.arrival a ea in
    cond_both (nat_le d q.departure) (Some (up_to before q d)) (along (Some q) qs d) (λ o. NoLater o (Some a) ↔ NotBefore d (back_from before q a))
    (λ ed. back_from_exact before q a d r.0 l qa)
    (λ ed.
    let qd = leb-false d q.departure ed in (
      (λ n. absurd (let m : q.arrival ≤ a = no_later_trans (Some q.arrival) _ (Some a) (along_above q qs d r.1) n in omega arith)),
      (λ n. absurd (let m = back_from_high before q a d r.0 l qa n in omega arith)),
    )))

-- departing at d arrives by a exactly when d is no later than the latest departure that is computed
road_exact : (ps : List Point) (a d : ℕ) → Rising None ps → NoLater (road ps d) (Some a) ↔ NotBefore d (road_back ps a)
road_exact ps a d r = along_exact None ps a d r tt tt

pub road_timed : (floor last : ℕ) (ps : List Point) → AllTimely floor last ps → Rising None ps → Timed floor last (road ps) (road_back ps)
road_timed floor last ps ts r = record { between = road_between floor last ps ts r; fifo = road_fifo ps r; exact = λ a d. road_exact ps a d r }
