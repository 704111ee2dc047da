-- Road lists by the labels of a search.
use Rattle.std.specs.Prelude.{◌≡◌, ℕ, ◌≤◌, List, Some, None, Option, ◌≢◌, ◌⊎◌}
use Rattle.network.specs.Meaning.{Meaning, IsPlace}
use Rattle.search.specs.declared.roads.RoadsBack.{RoadsBack}
use Rattle.search.specs.Labels.{label, Early, Sought}

-- v is a place with a label, in a table whose labels are early
pub record Labelled (net : Meaning) (cells : List ℕ) (v : ℕ) : Type 0 where
  pub place : IsPlace net v
  pub there : 1 ≤ label cells v
  pub early : Early net.places cells

-- The next road of a walk from place v back to the start s: the lowest link that fits there, from whose tail the walk goes on. It
-- ends at the start, and where no link fits.
abbrev pub GoesBack : Meaning → List ℕ → ℕ → ℕ → Option ℕ → ℕ → Type 0
GoesBack net cells s v None v' = (v ≡ s) ⊎ Sought net cells v None
GoesBack net cells s v (Some k) v' = (v ≢ s) × Sought net cells v (Some k) × (v' ≡ net.tail k)

-- what such a walk gives, and that it stays on its network, its labels and its start
abbrev pub back_steps : {N : Type 0} → (N → Meaning) → RoadsBack N → Option ℕ → RoadsBack N → Type 0
back_steps meaning s r t = (t.net ≡ s.net) × (t.labels ≡ s.labels) × (t.start ≡ s.start) × GoesBack (meaning s.net.now) s.labels.now s.start s.at r t.at
