-- What a planner may rely on.
use Rattle.std.specs.Prelude.{◌≡◌, ℕ, ◌<◌, ◌≤◌, Bool, true, false, ◌||◌, List, [], ◌∷◌, Some, None, Option, ◌≢◌}
use Rattle.notices.specs.declared.notice.Closure.{Closure}
use Rattle.notices.specs.declared.notice.Delay.{Delay}
use Rattle.std.specs.List.{list_any}
use Rattle.notices.specs.Closures.{same, shuts, shut, next_open}
use Rattle.notices.specs.Delays.{on_link, delay_on}
use Rattle.notices.specs.Calls.{up_refusal, up_after, down_refusal, down_after, set_refusal, set_after, clear_refusal, clear_after}

-- o is the earliest tick from t to the last that isn't shut, or none where each of them is shut
pub record EarliestOpen (sh : ℕ → Bool) (t last : ℕ) (o : Option ℕ) : Type 0 where
  pub found : (u : ℕ) → o ≡ Some u → (t ≤ u) × (u ≤ last) × (sh u ≡ false)
  pub before : (u s : ℕ) → o ≡ Some u → t ≤ s → s < u → sh s ≡ true
  pub never : (s : ℕ) → o ≡ None → t ≤ s → s ≤ last → sh s ≡ true

-- Under closures a link is entered at the earliest tick at which it isn't shut.
abbrev pub NextOpenIsEarliest : Type 0
NextOpenIsEarliest = (cs : List Closure) (k t last : ℕ) → EarliestOpen (shut cs k) t last (next_open cs k t last)

-- A closure that goes up shuts its link for its ticks, besides what was shut before.
abbrev pub UpShutsItsTicks : Type 0
UpShutsItsTicks = (cs : List Closure) (c : Closure) → up_refusal cs c ≡ None → (k t : ℕ) → shut (up_after cs c) k t ≡ (shut cs k t || shuts k t c)

-- no two of a list are alike
abbrev pub NoneTwice : {X : Type 0} → (X → X → Bool) → List X → Type 0
NoneTwice alike [] = Unit {0}
NoneTwice alike (x ∷ xs) = (list_any (alike x) xs ≡ false) × NoneTwice alike xs

-- A closure that comes down no longer stands, and what the others shut stays shut.
pub record ClosureIsDown (cs : List Closure) (c : Closure) : Type 0 where
  pub gone : NoneTwice same cs → list_any (same c) (down_after cs c) ≡ false
  pub others : (k t : ℕ) → shut cs k t ≡ (shut (down_after cs c) k t || shuts k t c)

abbrev pub DownTakesOneClosure : Type 0
DownTakesOneClosure = (cs : List Closure) (c : Closure) → down_refusal cs c ≡ None → ClosureIsDown cs c

-- No closure ever stands twice.
pub record NoClosureTwice : Type 0 where
  pub new : NoneTwice same []
  pub up : (cs : List Closure) (c : Closure) → NoneTwice same cs → NoneTwice same (up_after cs c)
  pub down : (cs : List Closure) (c : Closure) → NoneTwice same cs → NoneTwice same (down_after cs c)

-- every link but k is delayed as before
abbrev pub OthersStay : ℕ → List Delay → List Delay → Type 0
OthersStay k before after = (j : ℕ) → (j ≢ k) → delay_on j after ≡ delay_on j before

-- no link has two delays
abbrev pub OneEach : List Delay → Type 0
OneEach ds = NoneTwice (λ d. on_link d.link) ds

-- After a delay is set, its link has that delay, and every other link is delayed as before.
pub record DelayIsSet (ds : List Delay) (d : Delay) : Type 0 where
  pub set : delay_on d.link (set_after ds d) ≡ d.ticks
  pub others : OthersStay d.link ds (set_after ds d)

abbrev pub SetDelaysOneLink : Type 0
SetDelaysOneLink = (ds : List Delay) (d : Delay) → set_refusal ds d ≡ None → DelayIsSet ds d

-- After a link is cleared, it has no delay, and every other link is delayed as before.
pub record DelayIsCleared (ds : List Delay) (k : ℕ) : Type 0 where
  pub cleared : OneEach ds → delay_on k (clear_after ds k) ≡ 0
  pub others : OthersStay k ds (clear_after ds k)

abbrev pub ClearFreesOneLink : Type 0
ClearFreesOneLink = (ds : List Delay) (k : ℕ) → clear_refusal ds k ≡ None → DelayIsCleared ds k

-- No link ever has two delays.
pub record OneDelayEach : Type 0 where
  pub new : OneEach []
  pub set : (ds : List Delay) (d : Delay) → OneEach ds → OneEach (set_after ds d)
  pub clear : (ds : List Delay) (k : ℕ) → OneEach ds → OneEach (clear_after ds k)
