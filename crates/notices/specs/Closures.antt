-- Links that are shut for a while.
use Rattle.std.specs.Prelude.{ℕ, zero, suc, ◌-◌, Bool, cond, ◌&&◌, List, Some, None, Option, ◌==◌, nat_le, nat_lt}
use Rattle.network.specs.Meaning.{Meaning}
use Rattle.layers.specs.Retimed.{Arrivals}
use Rattle.notices.specs.declared.notice.Closure.{Closure}
use Rattle.std.specs.List.{list_any}

-- whether two closures are the same notice
abbrev pub same : Closure → Closure → Bool
same c d = d.link == c.link && (d.from == c.from && d.until == c.until)

-- whether a closure shuts link k at tick t
abbrev pub shuts : ℕ → ℕ → Closure → Bool
shuts k t c = c.link == k && (nat_le c.from t && nat_lt t c.until)

-- whether one of the closures shuts link k at tick t
abbrev pub shut : List Closure → ℕ → ℕ → Bool
shut cs k t = list_any (shuts k t) cs

-- the earliest of the `count` ticks from t that isn't shut
abbrev pub open_from : (ℕ → Bool) → ℕ → ℕ → Option ℕ
open_from sh t zero = None
open_from sh t (suc count) = cond (sh t) (open_from sh (suc t) count) (Some t)

-- the latest of the ticks below `count` that isn't shut
abbrev pub open_below : (ℕ → Bool) → ℕ → Option ℕ
open_below sh zero = None
open_below sh (suc t) = cond (sh t) (open_below sh t) (Some t)

-- the earliest tick from t to the last at which link k isn't shut
abbrev pub next_open : List Closure → ℕ → ℕ → ℕ → Option ℕ
next_open cs k t last = open_from (shut cs k) t (suc last - t)

-- the latest tick up to t at which link k isn't shut
abbrev pub last_open : List Closure → ℕ → ℕ → Option ℕ
last_open cs k t = open_below (shut cs k) (suc t)

-- what follows from a tick, if there is one
abbrev pub entering : (ℕ → Option ℕ) → Option ℕ → Option ℕ
entering f None = None
entering f (Some t) = f t

-- the arrivals under closures: a link is entered at the earliest tick at which it isn't shut
abbrev pub closed : List Closure → Meaning → Arrivals
closed cs net k t = entering (net.arrival k) (next_open cs k t net.last)
