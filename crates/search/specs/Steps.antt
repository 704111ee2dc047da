-- What the loops of a search keep.
use Rattle.std.specs.Prelude.{◌≡◌, ℕ, zero, suc, ◌+◌, ◌<◌, ◌≤◌, ◌⊎◌, List, Some, None, Option, ◌≢◌}
use Rattle.network.specs.Meaning.{Meaning, IsPlace, IsLink}
use Rattle.queues.specs.Queue.{lowered}
use Rattle.search.specs.Labels.{By, Within, Sound, Fits, label}

-- a label is there and is no later than an arrival, where there is one
abbrev pub Relaxed : ℕ → Option ℕ → Type 0
Relaxed l None = Unit {0}
Relaxed l (Some b) = By l b

-- link k comes before the link `at` that a walk has come to; 0 is the walk's end
abbrev pub Before : ℕ → ℕ → Type 0
Before at k = 1 ≤ at → k < at

-- a walk over the links whose end is p has come to the link `at`; 0 is the walk's end
abbrev pub AtLink : Meaning → (ℕ → ℕ) → ℕ → ℕ → Type 0
AtLink net end p at = 1 ≤ at → IsLink net at × (end at ≡ p)

-- what is kept of a place that is held with a key
pub record Keyed (net : Meaning) (h : ℕ → ℕ) (cells : List ℕ) (v key : ℕ) : Type 0 where
  pub place : IsPlace net v
  pub labelled : 1 ≤ label cells v
  pub sum : label cells v + h v ≡ suc key

-- What a search keeps of the labels and the keys held, while the links of place p from `at` on have yet to be relaxed.
pub record State (net : Meaning) (h : ℕ → ℕ) (s t p at : ℕ) (cells : List ℕ) (held : ℕ → Option ℕ) : Type 0 where
  pub sound : Sound net s t cells
  pub began : By (label cells s) t
  pub keyed : (v key : ℕ) → held v ≡ Some key → Keyed net h cells v key
  pub done : (k a : ℕ) → IsLink net k → held (net.tail k) ≡ None → label cells (net.tail k) ≡ suc a → (net.tail k ≡ p → Before at k) → Relaxed (label cells (net.head k)) (net.arrival k a)

-- what a label weighs in the measure of a search
abbrev pub weight : ℕ → ℕ → ℕ
weight last zero = last + 2
weight last (suc a) = suc a

-- what a key that is held adds
abbrev pub extra : Option ℕ → ℕ
extra None = 0
extra (Some key) = 1

-- what a place counts in the measure
abbrev pub rank : ℕ → List ℕ → (ℕ → Option ℕ) → ℕ → ℕ
rank last cells held v = weight last (label cells v) + extra (held v)

-- the sum over the places 1 to n
abbrev pub total : (ℕ → ℕ) → ℕ → ℕ
total f zero = 0
total f (suc n) = f (suc n) + total f n

-- nothing changes at a place with this label and this key
pub record Kept (l l' : ℕ) (o o' : Option ℕ) : Type 0 where
  pub same_label : l' ≡ l
  pub same_key : o' ≡ o

-- the label l of place w, held with the key o or none, is lowered to arrival b
pub record Better (h : ℕ → ℕ) (w b l l' : ℕ) (o o' : Option ℕ) : Type 0 where
  pub new_label : l' ≡ suc b
  pub less : 1 ≤ l → suc b < l
  pub new_key : o' ≡ Some (lowered o (b + h w))

-- what an arrival o at place w does to its label and its key: nothing, where the label is no later, else both are lowered
abbrev pub Arrives : (ℕ → ℕ) → ℕ → Option ℕ → ℕ → ℕ → Option ℕ → Option ℕ → Type 0
Arrives h w o l l' k k' = (Kept l l' k k' × Relaxed l o) ⊎ ((b : ℕ) × (o ≡ Some b) × Better h w b l l' k k')

-- What relaxing link k from tick a does.
pub record Step (net : Meaning) (h : ℕ → ℕ) (k a : ℕ) (cells cells' : List ℕ) (held held' : ℕ → Option ℕ) : Type 0 where
  pub others : (v : ℕ) → (v ≢ net.head k) → Kept (label cells v) (label cells' v) (held v) (held' v)
  pub here : Arrives h (net.head k) (net.arrival k a) (label cells (net.head k)) (label cells' (net.head k)) (held (net.head k)) (held' (net.head k))

-- What a walk over the links of place p, from the first up to the link `at`, does.
pub record Walk (net : Meaning) (h : ℕ → ℕ) (p at : ℕ) (cells cells' : List ℕ) (held held' : ℕ → Option ℕ) : Type 0 where
  pub keeps : (s t : ℕ) → State net h s t p 1 cells held → State net h s t p at cells' held'
  pub falls : (v : ℕ) → rank net.last cells' held' v ≤ rank net.last cells held v

-- A walk under way, from tick a: what it did, the link that it has come to, and that its place stays as it is.
pub record Walking (net : Meaning) (h : ℕ → ℕ) (p a at : ℕ) (cells cells' : List ℕ) (held held' : ℕ → Option ℕ) : Type 0 where
  pub walked : Walk net h p at cells cells' held held'
  pub link : AtLink net net.tail p at
  pub tail_label : label cells' p ≡ suc a
  pub tail_free : held' p ≡ None

-- each place whose label is, with the estimate, within the bound has its links relaxed
abbrev pub Settled : Meaning → (ℕ → ℕ) → Option ℕ → List ℕ → Type 0
Settled net h bound cells = (k a : ℕ) → IsLink net k → label cells (net.tail k) ≡ suc a → Within bound (a + h (net.tail k)) → Relaxed (label cells (net.head k)) (net.arrival k a)

-- a walk over the links into place v has come to the link `at`, and passed none that fits
pub record Seeking (net : Meaning) (cells : List ℕ) (v at : ℕ) : Type 0 where
  pub link : AtLink net net.head v at
  pub passed : (j : ℕ) → Fits net cells v j → Before at j → ⊥
