-- The table of labels, what its functions do, and what a search leaves in it.
use Rattle.std.specs.Prelude.{◌≡◌, ℕ, zero, suc, ◌+◌, ◌<◌, ◌≤◌, Bool, true, false, List, length, Some, None, Option, ◌≢◌, nat_le, slice_index}
use Rattle.network.specs.Meaning.{Meaning, IsLink}
use Rattle.journeys.specs.Journey.{Journey}

-- the label of a place in a table that begins with place 1: 0 for none, else the tick of arrival and one
abbrev pub label : List ℕ → ℕ → ℕ
label cells zero = 0
label cells (suc i) = slice_index cells i

-- the arrival that a label says
abbrev pub arrival_of : ℕ → Option ℕ
arrival_of zero = None
arrival_of (suc a) = Some a

-- the arrivals that the labels say
abbrev pub arrivals_in : List ℕ → ℕ → Option ℕ
arrivals_in cells v = arrival_of (label cells v)

-- the arrival at the goal, where one is given
abbrev pub goal_arrival : List ℕ → Option ℕ → Option ℕ
goal_arrival cells None = None
goal_arrival cells (Some goal) = arrivals_in cells goal

-- a label is there, and its arrival is no later than tick a
abbrev pub By : ℕ → ℕ → Type 0
By l a = (1 ≤ l) × (l ≤ suc a)

-- an answer says whether P holds
pub record Tells (P : Type 0) (said : Bool) : Type 0 where
  pub yes : said ≡ true → P
  pub no : said ≡ false → P → ⊥

-- what lowering the label of place w to arrival b does, and whether it was lowered
pub record Lowers (before after : List ℕ) (w b : ℕ) (said : Bool) : Type 0 where
  pub others : (v : ℕ) → (v ≢ w) → label after v ≡ label before v
  pub yes : said ≡ true → label after w ≡ suc b
  pub less : said ≡ true → 1 ≤ label before w → suc b < label before w
  pub no : said ≡ false → label after w ≡ label before w
  pub low : said ≡ false → 1 ≤ label before w
  pub high : said ≡ false → label before w ≤ suc b

-- the labels of places above n are as they were
abbrev pub Untouched : ℕ → List ℕ → List ℕ → Type 0
Untouched n before after = (v : ℕ) → n < v → label after v ≡ label before v

-- the labels of places up to n are taken out
pub record Wiped (n : ℕ) (before after : List ℕ) : Type 0 where
  pub front : (v : ℕ) → v ≤ n → label after v ≡ 0
  pub rest : Untouched n before after

-- a table has a cell for each place of a network, and a queue room for each
pub record Room (net : Meaning) (table : List ℕ) (capacity : ℕ) : Type 0 where
  pub cells : length table ≡ net.places
  pub queue : net.places ≤ capacity

-- a number is at most a limit, where there is one
abbrev pub Within : Option ℕ → ℕ → Type 0
Within None x = Unit {0}
Within (Some g) x = x ≤ g

-- a key is past a limit
abbrev pub Past : Option ℕ → ℕ → Type 0
Past None key = ⊥
Past (Some g) key = g < key

-- the arrival o at place v is there and is, with the estimate, within the limit
abbrev pub Near : (ℕ → ℕ) → Option ℕ → ℕ → Option ℕ → Type 0
Near h limit v None = ⊥
Near h limit v (Some a) = Within limit (a + h v)

-- the same as tests
abbrev pub is_within : Option ℕ → ℕ → Bool
is_within None x = true
is_within (Some g) x = nat_le x g

abbrev pub is_near : (ℕ → ℕ) → Option ℕ → ℕ → Option ℕ → Bool
is_near h limit v None = false
is_near h limit v (Some a) = is_within limit (a + h v)

-- the arrival that a place's label says is near
abbrev pub NearIn : (ℕ → ℕ) → Option ℕ → List ℕ → ℕ → Type 0
NearIn h limit cells v = Near h limit v (arrivals_in cells v)

-- the labels of the places up to n say no tick that is past the greatest
abbrev pub Early : ℕ → List ℕ → Type 0
Early n cells = (v : ℕ) → v ≤ n → label cells v ≤ 604801

-- each label is the arrival of a journey
abbrev pub Sound : Meaning → ℕ → ℕ → List ℕ → Type 0
Sound net s t cells = (v a : ℕ) → v ≤ net.places → label cells v ≡ suc a → (roads : List ℕ) × Journey net s t roads v a

-- The labels after a search for the goal, or for all places where none is given: each is the arrival of a journey, and no journey
-- whose arrival is, with the estimate, within the goal's is earlier than the label of its place.
pub record Found (net : Meaning) (h : ℕ → ℕ) (s t : ℕ) (goal : Option ℕ) (cells : List ℕ) : Type 0 where
  pub sound : Sound net s t cells
  pub best : (v a : ℕ) (roads : List ℕ) → Journey net s t roads v a → Within (goal_arrival cells goal) (a + h v) → By (label cells v) a

-- link k, entered at the label of its tail, arrives at tick b
pub record Carries (net : Meaning) (cells : List ℕ) (b k : ℕ) : Type 0 where
  pub link : IsLink net k
  pub from : ℕ
  pub from_label : label cells (net.tail k) ≡ suc from
  pub carries : net.arrival k from ≡ Some b

-- link k leads into place v and, entered at the label of its tail, arrives at the label of v
pub record Fits (net : Meaning) (cells : List ℕ) (v k : ℕ) : Type 0 where
  pub link : IsLink net k
  pub into : net.head k ≡ v
  pub from : ℕ
  pub to : ℕ
  pub from_label : label cells (net.tail k) ≡ suc from
  pub to_label : label cells v ≡ suc to
  pub carries : net.arrival k from ≡ Some to

-- the answer is the lowest link into v that fits the labels, or none where none does
abbrev pub Sought : Meaning → List ℕ → ℕ → Option ℕ → Type 0
Sought net cells v None = (j : ℕ) → Fits net cells v j → ⊥
Sought net cells v (Some k) = Fits net cells v k × ((j : ℕ) → Fits net cells v j → k ≤ j)
