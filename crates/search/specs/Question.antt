-- What a question is answered, and when it is refused.
use Rattle.std.specs.Prelude.{◌≡◌, ℕ, ◌+◌, ◌-◌, ◌<◌, ◌≤◌, Bool, cond, ◌↔◌, List, length, take, drop, Some, None, Ok, Err, Option, Result, nat_le}
use Rattle.network.specs.Meaning.{Meaning, among}
use Rattle.network.specs.Laws.{NotBefore}
use Rattle.journeys.specs.Journey.{Drive, CanReach, FirstArrival, NoWay}
use Rattle.journeys.specs.Earliest.{earliest}
use Rattle.journeys.specs.Roads.{Back, RoadList}
use Rattle.journeys.specs.Turned.{turned}
use Rattle.queues.specs.Queue.{Empty}
use Rattle.refusals.specs.declared.refusal.Refusal.{Refusal}
use Rattle.refusals.specs.declared.refusal.Refusal.TheVariants.{NoPlace, NoTick, ShortTable, ShortQueue, ShortList}
use Rattle.std.specs.Borrow.{MutBor}
use Rattle.search.specs.declared.memory.Memory.{Memory}
use Rattle.search.specs.declared.question.Question.{Question}
use Rattle.search.specs.declared.question.Answer.{Answer}
use Rattle.search.specs.declared.question.Answer.TheVariants.{Found, NoWay as CutOff}
use Rattle.search.specs.Estimate.{Fit}
use Rattle.search.specs.Counting.{Count, TakenPlace}
use Rattle.search.specs.Labels.{Wiped}

-- this refusal, unless the test holds; then what comes after
abbrev pub unless : Bool → Refusal → Option Refusal → Option Refusal
unless holds refusal after = cond holds after (Some refusal)

-- what refuses a question before the search, in this order: the start, the destination, the tick, the lengths of the working table and of the queue
unfoldable pub refusal_of : Meaning → ℕ → ℕ → ℕ → ℕ → ℕ → Option Refusal
refusal_of net table capacity s d t =
    unless (among s net.places) NoPlace
    (unless (among d net.places) NoPlace
    (unless (nat_le t net.last) NoTick
    (unless (nat_le net.places table) ShortTable
    (unless (nat_le net.places capacity) ShortQueue None))))

-- a reply to a question
abbrev pub Reply : Type 0
Reply = Result Answer Refusal

-- how many cells of the list a reply fills: one for each road
abbrev pub filled : Reply → ℕ
filled (Ok (Found tick roads taken)) = roads
filled (Ok (CutOff taken)) = 0
filled (Err refusal) = 0

-- What a depart-at question is answered, where it is not refused before the search.

-- the tick is the earliest arrival; the roads now in the list are the one road list and, driven without waiting, arrive then
pub record Departure (net : Meaning) (h : ℕ → ℕ) (s d t tick : ℕ) (roads : List ℕ) (count : ℕ) : Type 0 where
  pub earliest : FirstArrival net s t d tick
  pub one_list : RoadList net s t d roads
  pub driven : Drive net s t roads d tick
  pub taken : Count (TakenPlace net h s t (Some tick)) net.places count

-- no journey arrives
pub record NoDeparture (net : Meaning) (s d t count : ℕ) : Type 0 where
  pub none : NoWay net s t d
  pub taken : Count (TakenPlace net (λ v. 0) s t None) net.places count

-- there is a way, whose road list has `needed` roads, and the list that was lent has fewer cells
abbrev pub TooShort : Type 0 → (List ℕ → Type 0) → ℕ → ℕ → Type 0
TooShort Way IsList needed cells = Way × ((roads : List ℕ) × IsList roads × (needed ≡ length roads)) × (cells < needed)

-- some tick is the earliest arrival
abbrev pub Reached : Meaning → ℕ → ℕ → ℕ → Type 0
Reached net s d t = (tick : ℕ) × FirstArrival net s t d tick

-- What one search gives, over the network that is searched: the roads come as they are found, from the end back.
pub record Way (net : Meaning) (h : ℕ → ℕ) (s d t tick : ℕ) (roads : List ℕ) (count : ℕ) : Type 0 where
  pub first : FirstArrival net s t d tick
  pub back : Back net (earliest net s t) s d roads
  pub taken : Count (TakenPlace net h s t (Some tick)) net.places count

abbrev pub Searched : Meaning → (ℕ → ℕ) → ℕ → ℕ → ℕ → List ℕ → Reply → Type 0
Searched net h s d t list (Ok (Found tick roads taken)) = (roads ≤ length list) × Way net h s d t tick (take roads list) taken
Searched net h s d t list (Ok (CutOff taken)) = NoDeparture net s d t taken
Searched net h s d t list (Err (ShortList needed)) = TooShort (Reached net s d t) (Back net (earliest net s t) s d) needed (length list)
Searched net h s d t list (Err NoPlace) = ⊥
Searched net h s d t list (Err NoTick) = ⊥
Searched net h s d t list (Err ShortTable) = ⊥
Searched net h s d t list (Err ShortQueue) = ⊥

abbrev pub Departs : Meaning → (ℕ → ℕ) → ℕ → ℕ → ℕ → List ℕ → Reply → Type 0
Departs net h s d t list (Ok (Found tick roads taken)) = (roads ≤ length list) × Departure net h s d t tick (take roads list) taken
Departs net h s d t list (Ok (CutOff taken)) = NoDeparture net s d t taken
Departs net h s d t list (Err (ShortList needed)) = TooShort (Reached net s d t) (RoadList net s t d) needed (length list)
Departs net h s d t list (Err NoPlace) = ⊥
Departs net h s d t list (Err NoTick) = ⊥
Departs net h s d t list (Err ShortTable) = ⊥
Departs net h s d t list (Err ShortQueue) = ⊥

-- What an arrive_by question is answered: the same search on the network turned, from the destination back to the start.

-- the earliest arrivals of that search
abbrev pub backward : Meaning → ℕ → ℕ → ℕ → Option ℕ
backward net d y = earliest (turned net) d (net.last - y)

-- the one road list to be at d by y, from s on
abbrev pub RoadListBy : Meaning → ℕ → ℕ → ℕ → List ℕ → Type 0
RoadListBy net s d y roads = Back (turned net) (backward net d y) d s roads

-- who leaves s at x can be at d by y exactly when x is no later than the departure answered
abbrev pub Latest : Meaning → ℕ → ℕ → ℕ → Option ℕ → Type 0
Latest net s d y answered = (x : ℕ) → x ≤ net.last → CanReach net s x d y ↔ NotBefore x answered

pub record Arrival (net : Meaning) (h : ℕ → ℕ) (s d y tick : ℕ) (roads : List ℕ) (count : ℕ) : Type 0 where
  pub latest : Latest net s d y (Some tick)
  pub one_list : RoadListBy net s d y roads
  pub driven : (a : ℕ) × Drive net s tick roads d a × (a ≤ y)
  pub taken : Count (TakenPlace (turned net) h d (net.last - y) (Some (net.last - tick))) net.places count

pub record NoArrival (net : Meaning) (s d y count : ℕ) : Type 0 where
  pub none : Latest net s d y None
  pub taken : Count (TakenPlace (turned net) (λ v. 0) d (net.last - y) None) net.places count

-- the tick that the search starts at: y counted back from the last, or one above the last where y is above it
abbrev pub back_tick : ℕ → ℕ → ℕ
back_tick last y = cond (nat_le y last) (last - y) (last + 1)

-- the reply of that search with its tick counted back from the last
abbrev pub counted_back : ℕ → Reply → Reply
counted_back last (Ok (Found tick roads taken)) = Ok (Found (last - tick) roads taken)
counted_back last (Ok (CutOff taken)) = Ok (CutOff taken)
counted_back last (Err refusal) = Err refusal

abbrev pub Arrives : Meaning → (ℕ → ℕ) → ℕ → ℕ → ℕ → List ℕ → Reply → Type 0
Arrives net h s d y list (Ok (Found tick roads taken)) = (roads ≤ length list) × Arrival net h s d y tick (take roads list) taken
Arrives net h s d y list (Ok (CutOff taken)) = NoArrival net s d y taken
Arrives net h s d y list (Err (ShortList needed)) = TooShort ((tick : ℕ) × Latest net s d y (Some tick)) (RoadListBy net s d y) needed (length list)
Arrives net h s d y list (Err NoPlace) = ⊥
Arrives net h s d y list (Err NoTick) = ⊥
Arrives net h s d y list (Err ShortTable) = ⊥
Arrives net h s d y list (Err ShortQueue) = ⊥

-- what counts of the memory that a question is lent
pub record Lent : Type 0 where
  pub table : List ℕ
  pub list : List ℕ
  pub held : ℕ → Option ℕ
  pub capacity : ℕ

-- the memory as it is lent, and as it is left
abbrev pub lent : {Q : Type 0} → (Q → ℕ → Option ℕ) → (Q → ℕ) → Memory Q → Lent
lent held capacity m = record { table = m.table.now; list = m.list.now; held = held m.queue.now; capacity = capacity m.queue.now }

abbrev pub left : {Q : Type 0} → (Q → ℕ → Option ℕ) → (Q → ℕ) → MutBor Q × (MutBor (List ℕ) × (MutBor (List ℕ) × Unit {0})) → Lent
left held capacity m = record { table = m.1.0.now; list = m.1.1.0.now; held = held m.0.now; capacity = capacity m.0.now }

-- What a question does to what it is lent, and when `Told` holds of the reply.
pub record Asked (refused : Option Refusal) (places : ℕ) (fit : Type 0) (Told : Reply → Type 0) (before after : Lent) (reply : Reply) : Type 0 where
  -- refused before the search: that refusal, and nothing changes
  pub refusal : (r : Refusal) → refused ≡ Some r → reply ≡ Err r
  pub untouched : (r : Refusal) → refused ≡ Some r → (after.table ≡ before.table) × ((v : ℕ) → after.held v ≡ before.held v)
  -- else the reply, which a fit estimate makes right
  pub told : refused ≡ None → fit → Told reply
  -- the first cells of the working table, one for each place, are zero and its others stay; the queue is empty
  pub wiped : refused ≡ None → Wiped places before.table after.table
  pub empty : refused ≡ None → Empty after.held
  -- the cells after the roads stay, and so does the queue's capacity
  pub rest : drop (filled reply) after.list ≡ drop (filled reply) before.list
  pub capacity : after.capacity ≡ before.capacity

-- what refuses a question before the search, by the memory that it is lent
abbrev pub refused : Meaning → Question → Lent → Option Refusal
refused net q before = refusal_of net (length before.table) before.capacity q.start q.destination q.tick

-- A question over the network that is searched, a depart-at question and an arrive_by question, by the memory before and after.
abbrev pub Asks : Meaning → (ℕ → ℕ) → Question → Lent → Lent → Reply → Type 0
Asks net h q before after = Asked (refused net q before) net.places (Fit net h q.destination) (Searched net h q.start q.destination q.tick after.list) before after

abbrev pub DepartsAt : Meaning → (ℕ → ℕ) → Question → Lent → Lent → Reply → Type 0
DepartsAt net h q before after = Asked (refused net q before) net.places (Fit net h q.destination) (Departs net h q.start q.destination q.tick after.list) before after

-- (its estimate is one for the search back to the start)
abbrev pub ArrivesBy : Meaning → (ℕ → ℕ) → Question → Lent → Lent → Reply → Type 0
ArrivesBy net h q before after = Asked (refused net q before) net.places (Fit (turned net) h q.start) (Arrives net h q.start q.destination q.tick after.list) before after
