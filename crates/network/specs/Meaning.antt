-- What a network means: numbered places, numbered links between them, and when each link arrives.
use Rattle.std.specs.Prelude.{ℕ, ◌≤◌, Bool, ◌&&◌, Option, nat_le}

-- Places are 1 to `places`, links 1 to `links` and ticks 0 to `last`.
-- A link leads from its tail to its head and never takes less than its floor.
-- `arrival k t` is when link k, entered at tick t, is left again, or none where it can't be driven then.
pub record Meaning : Type 0 where
  pub places : ℕ
  pub links : ℕ
  pub last : ℕ
  pub tail : ℕ → ℕ
  pub head : ℕ → ℕ
  pub floor : ℕ → ℕ
  pub arrival : ℕ → ℕ → Option ℕ

-- k is one of the numbers 1 to n
pub record Among (k n : ℕ) : Type 0 where
  pub low : 1 ≤ k
  pub high : k ≤ n

-- the same as a test
abbrev pub among : ℕ → ℕ → Bool
among k n = nat_le 1 k && nat_le k n

abbrev pub IsPlace : Meaning → ℕ → Type 0
IsPlace net v = Among v net.places

abbrev pub IsLink : Meaning → ℕ → Type 0
IsLink net k = Among k net.links
