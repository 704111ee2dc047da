-- Which estimates of the way ahead a search may rely on.
use Rattle.std.specs.Prelude.{◌≡◌, ℕ, ◌+◌, ◌≤◌}
use Rattle.network.specs.Meaning.{Meaning, IsLink}

-- Along a link the estimate h never falls by more than the link's floor.
abbrev pub Consistent : Meaning → (ℕ → ℕ) → Type 0
Consistent net h = (k : ℕ) → IsLink net k → h (net.tail k) ≤ net.floor k + h (net.head k)

-- an estimate that a search for place d may use: it is consistent, and 0 at d
pub record Fit (net : Meaning) (h : ℕ → ℕ) (d : ℕ) : Type 0 where
  pub consistent : Consistent net h
  pub here : h d ≡ 0

-- The estimate that says nothing is fit for every search.
abbrev pub NothingIsFit : Type 0
NothingIsFit = (net : Meaning) (d : ℕ) → Fit net (λ v. 0) d
