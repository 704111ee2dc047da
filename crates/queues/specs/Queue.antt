-- What a queue holds, as the key of each place that is held, and what each of its functions does to that.
use Rattle.std.specs.Prelude.{◌≡◌, ℕ, ◌≤◌, min, Bool, true, false, ◌≢◌, Some, None, Option}

-- nothing is held
abbrev pub Empty : (ℕ → Option ℕ) → Type 0
Empty held = (v : ℕ) → held v ≡ None

-- the key of a place that is offered with `key`, where it had the key `old` or none
abbrev pub lowered : Option ℕ → ℕ → ℕ
lowered None key = key
lowered (Some old) key = min old key

-- What an offer of a place with a key does, and what it answers.
pub record Offered (before after : ℕ → Option ℕ) (capacity place key : ℕ) (said : Bool) : Type 0 where
  -- a place from 1 to the capacity is added or its key lowered, and the answer is yes
  pub accepted : 1 ≤ place → place ≤ capacity → (said ≡ true) × (after place ≡ Some (lowered (before place) key))
  -- no other place changes
  pub others : (v : ℕ) → v ≢ place → after v ≡ before v
  -- any other place gets no, and nothing changes
  pub refused : ((1 ≤ place) × (place ≤ capacity) → ⊥) → (said ≡ false) × ((v : ℕ) → after v ≡ before v)

-- the pair with the least key, and among equal keys the lowest place
pub record Best (held : ℕ → Option ℕ) (key place : ℕ) : Type 0 where
  pub there : held place ≡ Some key
  pub least : (v k : ℕ) → held v ≡ Some k → key ≤ k
  pub lowest : (v : ℕ) → held v ≡ Some key → place ≤ v

-- the best pair, or none where nothing is held
abbrev pub BestOf : (ℕ → Option ℕ) → Option (ℕ × ℕ) → Type 0
BestOf held None = Empty held
BestOf held (Some p) = Best held p.0 p.1

-- the best pair is taken out, and no other place changes
pub record Removed (before after : ℕ → Option ℕ) (key place : ℕ) : Type 0 where
  pub best : Best before key place
  pub gone : after place ≡ None
  pub others : (v : ℕ) → v ≢ place → after v ≡ before v

-- what taking does: the best pair is taken out and answered, and none is answered where nothing is held
abbrev pub Taken : (ℕ → Option ℕ) → (ℕ → Option ℕ) → Option (ℕ × ℕ) → Type 0
Taken before after None = Empty before × Empty after
Taken before after (Some p) = Removed before after p.0 p.1
