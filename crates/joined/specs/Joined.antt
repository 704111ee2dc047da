-- Two networks as one: the second's links are numbered on after the first's.
use Rattle.std.specs.Prelude.{ℕ, ◌+◌, ◌-◌, cond, ◌&&◌, Some, None, Option, ◌==◌, nat_le}
use Rattle.network.specs.Meaning.{Meaning}
use Rattle.refusals.specs.declared.joining.Misfit.{Misfit}
use Rattle.refusals.specs.declared.joining.Misfit.TheVariants.{Unequal, TooManyLinks}

-- why two networks can't be joined, or none where they fit
abbrev pub misfit : Meaning → Meaning → Option Misfit
misfit a b =
    cond (a.places == b.places && a.last == b.last)
    (cond (nat_le (a.links + b.links) 8192) None (Some TooManyLinks))
    (Some Unequal)

-- what the first says of one of its links, and the second of one that comes after them
abbrev pub by_link : {X : Type 0} → Meaning → (ℕ → X) → (ℕ → X) → ℕ → X
by_link a first second k = cond (nat_le k a.links) (first k) (second (k - a.links))

abbrev pub both : Meaning → Meaning → Meaning
both a b =
    record {
      places = a.places;
      links = a.links + b.links;
      last = a.last;
      tail = by_link a a.tail b.tail;
      head = by_link a a.head b.head;
      floor = by_link a a.floor b.floor;
      arrival = by_link a a.arrival b.arrival;
    }

-- this where the two fit, else that
abbrev pub if_fit : {X : Type 0} → Option Misfit → X → X → X
if_fit None x y = x
if_fit (Some m) x y = y

-- both where they fit, else the first alone
abbrev pub joined : Meaning → Meaning → Meaning
joined a b = if_fit (misfit a b) (both a b) a

-- the second's own number for link k of the two, if it is one of the second's
abbrev pub second_link : Meaning → Meaning → ℕ → Option ℕ
second_link a b k = cond (nat_le k a.links) None (if_fit (misfit a b) (Some (k - a.links)) None)

-- the number here of link j of the second, or 0 where there is none
abbrev pub numbered_on : Meaning → Meaning → ℕ → ℕ
numbered_on a b j = cond (j == 0) 0 (if_fit (misfit a b) (a.links + j) 0)
