-- The laws that every network keeps, whatever it is made of.
use Rattle.std.specs.Prelude.{◌≡◌, ℕ, ◌+◌, ◌<◌, ◌≤◌, Some, None, Option}
use Rattle.network.specs.Meaning.{Meaning, Among, IsPlace, IsLink}

-- arrival a is no later than arrival b, where none is later than every tick
abbrev pub NoLater : Option ℕ → Option ℕ → Type 0
NoLater a None = Unit {0}
NoLater None (Some b) = ⊥
NoLater (Some a) (Some b) = a ≤ b

-- tick x is no later than departure d, where none is before every tick
abbrev pub NotBefore : ℕ → Option ℕ → Type 0
NotBefore x None = ⊥
NotBefore x (Some d) = x ≤ d

-- an arrival, where there is one, lies from `least` to `most`
abbrev pub Between : ℕ → ℕ → Option ℕ → Type 0
Between least most None = Unit {0}
Between least most (Some a) = (least ≤ a) × (a ≤ most)

-- what is said of a link that isn't there
pub record Absent (net : Meaning) (k : ℕ) : Type 0 where
  pub tail : net.tail k ≡ 0
  pub head : net.head k ≡ 0
  pub floor : net.floor k ≡ 0
  pub arrival : (t : ℕ) → net.arrival k t ≡ None

pub record Laws (net : Meaning) : Type 0 where
  -- the limits
  pub places : Among net.places 1024
  pub links : net.links ≤ 8192
  pub last : Among net.last 604800
  -- a link leads from a place to a place, and its floor is a tick above 0
  pub tail : (k : ℕ) → IsLink net k → IsPlace net (net.tail k)
  pub head : (k : ℕ) → IsLink net k → IsPlace net (net.head k)
  pub floor : (k : ℕ) → IsLink net k → Among (net.floor k) net.last
  -- an arrival is at least the departure plus the floor, and at most the last tick
  pub arrival : (k t : ℕ) → IsLink net k → t ≤ net.last → Between (t + net.floor k) net.last (net.arrival k t)
  -- a later departure never arrives earlier
  pub fifo : (k s t : ℕ) → IsLink net k → s ≤ t → t ≤ net.last → NoLater (net.arrival k s) (net.arrival k t)
  -- a link or a tick that isn't there
  pub no_link : (k : ℕ) → (IsLink net k → ⊥) → Absent net k
  pub no_tick : (k t : ℕ) → net.last < t → net.arrival k t ≡ None
