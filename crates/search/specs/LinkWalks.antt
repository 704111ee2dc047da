-- Walks over the links out of a place or into it.
use Rattle.std.specs.Prelude.{◌≡◌, ℕ, zero, suc, ◌-◌, ◌≤◌, Some, None, Option}
use Rattle.network.specs.Meaning.{Meaning}
use Rattle.network.specs.Links.{next}
use Rattle.search.specs.declared.links.Links.{Links}
use Rattle.search.specs.declared.links.Side.{Side}
use Rattle.search.specs.declared.links.Side.TheVariants.{Out, Into}

-- the ends that the links on a side of a place have there
abbrev pub end_on : Meaning → Side → ℕ → ℕ
end_on net Out = net.tail
end_on net Into = net.head

-- the link at hand comes, and then the next with the same end is at hand; 0 says that none is left
abbrev pub Comes : Meaning → (ℕ → ℕ) → ℕ → Option ℕ → ℕ → Type 0
Comes net end at None at' = at ≡ 0
Comes net end at (Some k) at' = (k ≡ at) × (1 ≤ k) × (at' ≡ next net end k)

-- what a walk gives, and that it stays on its side of its place
abbrev pub link_steps : {N : Type 0} → (N → Meaning) → Links N → Option ℕ → Links N → Type 0
link_steps meaning s r t = (t.net ≡ s.net) × (t.side ≡ s.side) × Comes (meaning s.net.now) (end_on (meaning s.net.now) s.side) s.next r t.next

-- how many links a walk that has come to a link has left, at most
abbrev pub links_left : ℕ → ℕ → ℕ
links_left links zero = 0
links_left links (suc k) = suc (links - suc k)
