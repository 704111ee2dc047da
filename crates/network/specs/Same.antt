-- Networks of one meaning: whatever they are made of, nobody who drives them can tell them apart.
use Rattle.std.specs.Prelude.{◌≡◌, ℕ, ◌≤◌}
use Rattle.network.specs.Meaning.{Meaning, IsLink}
use Rattle.network.specs.Laws.{Laws}

-- the same counts and, for each link and tick that is there, the same ends, floor and arrival
pub record SameMeaning (a b : Meaning) : Type 0 where
  pub places : a.places ≡ b.places
  pub links : a.links ≡ b.links
  pub last : a.last ≡ b.last
  pub tail : (k : ℕ) → IsLink a k → a.tail k ≡ b.tail k
  pub head : (k : ℕ) → IsLink a k → a.head k ≡ b.head k
  pub floor : (k : ℕ) → IsLink a k → a.floor k ≡ b.floor k
  pub arrival : (k t : ℕ) → IsLink a k → t ≤ a.last → a.arrival k t ≡ b.arrival k t

-- Where both keep the laws they are equal, so that whatever is said of the one holds of the other.
abbrev pub SameMeaningIsOne : Type 0
SameMeaningIsOne = (a b : Meaning) → Laws a → Laws b → SameMeaning a b → a ≡ b
