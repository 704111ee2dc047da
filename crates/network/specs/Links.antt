-- The links out of a place and into a place, in rising order of their numbers. Zero says that no link is left.
use Rattle.std.specs.Prelude.{◌≡◌, ℕ, zero, suc, ◌-◌, ◌<◌, ◌≤◌, cond, ◌==◌}
use Rattle.network.specs.Meaning.{Meaning, among}

-- the lowest of the `count` links after link `after` whose end is `place`, or 0
abbrev pub lowest : (ℕ → ℕ) → ℕ → ℕ → ℕ → ℕ
lowest end place after zero = 0
lowest end place after (suc count) = cond (end (suc after) == place) (suc after) (lowest end place (suc after) count)

-- the lowest link with that end at a place
abbrev pub first : Meaning → (ℕ → ℕ) → ℕ → ℕ
first net end v = cond (among v net.places) (lowest end v 0 net.links) 0

-- the lowest greater link with the same end
abbrev pub next : Meaning → (ℕ → ℕ) → ℕ → ℕ
next net end k = cond (among k net.links) (lowest end (end k) k (net.links - k)) 0

abbrev pub first_out : Meaning → ℕ → ℕ
first_out net v = first net net.tail v

abbrev pub next_out : Meaning → ℕ → ℕ
next_out net k = next net net.tail k

abbrev pub first_in : Meaning → ℕ → ℕ
first_in net v = first net net.head v

abbrev pub next_in : Meaning → ℕ → ℕ
next_in net k = next net net.head k

-- k is the lowest of the links after link `after`, of the links 1 to n, whose end is `place`; or k is 0, and there is none
pub record IsLowest (end : ℕ → ℕ) (place after n k : ℕ) : Type 0 where
  pub found : 1 ≤ k → (after < k) × (k ≤ n) × (end k ≡ place)
  pub none_lower : (j : ℕ) → after < j → j ≤ n → end j ≡ place → (1 ≤ k) × (k ≤ j)

-- The scan finds what its name says.
abbrev pub LowestIsLowest : Type 0
LowestIsLowest = (end : ℕ → ℕ) (place after n : ℕ) → IsLowest end place after n (lowest end place after (n - after))
