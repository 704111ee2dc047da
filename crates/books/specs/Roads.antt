-- When a road arrives.
use Rattle.std.specs.Prelude.{ℕ, ◌+◌, ◌-◌, ◌*◌, ◌/◌, ◌<◌, ◌≤◌, cond, List, [], ◌∷◌, Some, None, Option, nat_le}
use Rattle.records.specs.declared.layout.Point.{Point}

-- the arrival for t between neighbouring points p and q, the quotient rounded down
abbrev pub between : Point → Point → ℕ → ℕ
between p q t = p.arrival + ((t - p.departure) * (q.arrival - p.arrival)) / (q.departure - p.departure)

-- the arrival for a tick t up to q's departure, and after that of the point before q, if there is one
abbrev pub up_to : Option Point → Point → ℕ → ℕ
up_to None q t = q.arrival
up_to (Some p) q t = between p q t

-- the arrival for t by the points that are left; after the last point there is none
abbrev pub along : Option Point → List Point → ℕ → Option ℕ
along before [] t = None
along before (q ∷ qs) t = cond (nat_le t q.departure) (Some (up_to before q t)) (along (Some q) qs t)

-- the arrival for t on a road with these points
abbrev pub road : List Point → ℕ → Option ℕ
road ps t = along None ps t

-- the point before, if there is one, departs before tick t
abbrev pub DepartsBefore : Option Point → ℕ → Type 0
DepartsBefore None t = Unit {0}
DepartsBefore (Some p) t = p.departure < t

-- the point before, if there is one, arrives by tick a
abbrev pub ArrivesBy : Option Point → ℕ → Type 0
ArrivesBy None a = Unit {0}
ArrivesBy (Some p) a = p.arrival ≤ a

-- The latest departure along a road, point by point as it is computed. That it is the latest is proved.

-- the latest tick before q's departure whose arrival between p and q is at most a: the greatest t with (t - x) * (v - y) < (a - y + 1) * (u - x)
abbrev pub back : Point → Point → ℕ → ℕ
back p q a = p.departure + ((a - p.arrival + 1) * (q.departure - p.departure) - 1) / (q.arrival - p.arrival)

-- where q arrives after a: after the point before, or never
abbrev pub back_from : Option Point → Point → ℕ → Option ℕ
back_from None q a = None
back_from (Some p) q a = Some (back p q a)

abbrev pub departure_of : Option Point → Option ℕ
departure_of None = None
departure_of (Some p) = Some p.departure

-- by the points that are left, where the point before arrives by a
abbrev pub back_along : Option Point → List Point → ℕ → Option ℕ
back_along before [] a = departure_of before
back_along before (q ∷ qs) a = cond (nat_le q.arrival a) (back_along (Some q) qs a) (back_from before q a)

abbrev pub road_back : List Point → ℕ → Option ℕ
road_back ps a = back_along None ps a

-- The first and the last of a chain's points.

abbrev pub last_of : Point → List Point → Point
last_of p [] = p
last_of p (q ∷ qs) = last_of q qs

abbrev pub ends_of : List Point → Option (Point × Point)
ends_of [] = None
ends_of (p ∷ ps) = Some (p, last_of p ps)
