-- From what a search gives to what a question is answered.
use Rattle.std.proofs.Common.{◌≡◌, ℕ, ◌-◌, ◌≤◌, ◌↔◌, List, ◌++◌, reverse, length, take, drop, Some, None, Ok, Err, Option, sym, refl, ap, ◌∙◌, subst, arith, length-append, length-drop}
use Rattle.std.proofs.lemmas.List.{reverse-reverse, length-reverse, length-take, take_at, drop_at}
use Rattle.std.proofs.lemmas.Bool.{cond-true, le-leb}
use Rattle.network.specs.Meaning.{Meaning, IsPlace}
use Rattle.network.specs.Laws.{Laws, NotBefore}
use Rattle.journeys.specs.Journey.{Drive, CanReach, FirstArrival, Earliest}
use Rattle.journeys.specs.Earliest.{earliest}
use Rattle.journeys.specs.Roads.{Back, RoadList}
use Rattle.journeys.specs.Turned.{less, turned, latest_start}
use Rattle.journeys.proofs.Rides.{journey_within}
use Rattle.journeys.proofs.Arrivals.{computed}
use Rattle.journeys.proofs.RoadLists.{one_list}
use Rattle.journeys.proofs.Turning.{turned_laws}
use Rattle.journeys.proofs.Starts.{start_exact, arrive_by}
use Rattle.refusals.specs.declared.refusal.Refusal.TheVariants.{NoPlace, NoTick, ShortTable, ShortQueue, ShortList}
use Rattle.search.specs.declared.question.Answer.TheVariants.{Found, NoWay as CutOff}
use Rattle.search.specs.Counting.{Count, TakenPlace}
use Rattle.search.specs.declared.question.Question.{Question}
use Rattle.search.specs.Question.{Reply, Searched, Departs, Arrives, Latest, Lent, Asks, DepartsAt, ArrivesBy, back_tick, counted_back, filled}
use Rattle.search.proofs.Refusing.{admitted, refusal_turned}

module _ (net : Meaning) (law : Laws net) (h : ℕ → ℕ) (s d t : ℕ) (start : IsPlace net s) (tick : t ≤ net.last) (list : List ℕ) where
  -- a road list, driven
  driven : (a : ℕ) (roads : List ℕ) → FirstArrival net s t d a → RoadList net s t d roads → Drive net s t roads d a
  driven a roads first found =
      let one = one_list net law s t d a start tick (sym ((computed net law s t d (Some a) start tick).0 first)) in
      subst (λ r. Drive net s t r d a) (sym (one.only roads found)) one.driven

  pub departs : (found : List ℕ) → length list ≡ length found → (reply : Reply) → take (filled reply) list ≡ reverse (take (filled reply) found) → Searched net h s d t found reply → Departs net h s d t list reply
  departs found long (Ok (Found a roads n)) turned w =
      let one : RoadList net s t d (take roads list) = subst (Back net (earliest net s t) s d) (sym (ap reverse turned ∙ reverse-reverse (take roads found))) w.1.back in
      (omega (arith, w.0), record { earliest = w.1.first; one_list = one; driven = driven a (take roads list) w.1.first one; taken = w.1.taken })
  departs found long (Ok (CutOff n)) turned w = w
  departs found long (Err (ShortList needed)) turned (reached, (back, by, count), short) = (reached, (reverse back, subst (Back net (earliest net s t) s d) (sym (reverse-reverse back)) by, count ∙ sym (length-reverse back)), omega (arith, short))
  departs found long (Err NoPlace) turned w = w
  departs found long (Err NoTick) turned w = w
  departs found long (Err ShortTable) turned w = w
  departs found long (Err ShortQueue) turned w = w

module _ (net : Meaning) (law : Laws net) (h : ℕ → ℕ) (s d y : ℕ) (start : IsPlace net s) (destination : IsPlace net d) (deadline : y ≤ net.last) (list : List ℕ) where
  -- the latest departure by the earliest arrival of the turned search
  latest_from : (o : Option ℕ) → Earliest (turned net) d (net.last - y) s o → latest_start net s d y ≡ less net.last o
  latest_from o e = ap (less net.last) (sym ((computed (turned net) (turned_laws net law) d (net.last - y) s o destination (omega arith)).0 e))

  latest : (o : Option ℕ) → Earliest (turned net) d (net.last - y) s o → Latest net s d y (less net.last o)
  latest o e x l = subst (λ z. CanReach net s x d y ↔ NotBefore x z) (latest_from o e) (start_exact net law s d y destination deadline x l)

  pub arrives : (reply : Reply) → Searched (turned net) h d s (net.last - y) list reply → Arrives net h s d y list (counted_back net.last reply)
  arrives (Ok (Found a roads n)) w =
      let late = (journey_within (turned net) (turned_laws net law) w.1.first.reached.1 (omega arith)).1 in
      let e : a ≡ net.last - (net.last - a) = omega arith in (
        w.0,
        record {
          latest = latest (Some a) w.1.first;
          one_list = w.1.back;
          driven = arrive_by net law s d y destination deadline (net.last - a) (take roads list) (latest_from (Some a) w.1.first) w.1.back;
          taken = subst (λ x. Count (TakenPlace (turned net) h d (net.last - y) (Some x)) net.places n) e w.1.taken;
        },
      )
  arrives (Ok (CutOff n)) w = record { none = latest None w.none; taken = w.taken }
  arrives (Err (ShortList needed)) ((a, first), list, short) = ((net.last - a, latest (Some a) first), list, short)
  arrives (Err NoPlace) w = w
  arrives (Err NoTick) w = w
  arrives (Err ShortTable) w = w
  arrives (Err ShortQueue) w = w

-- a depart-at question, by the list as its roads were found and as they are turned round
module _ (net : Meaning) (law : Laws net) (h : ℕ → ℕ) (q : Question) (before after : Lent) (reply : Reply) where
  asked_turned : (list : List ℕ) → length list ≡ length after.list → take (filled reply) list ≡ reverse (take (filled reply) after.list) → drop (filled reply) list ≡ drop (filled reply) after.list → Asks net h q before after reply → DepartsAt net h q before (record after { list = list }) reply
  asked_turned list long turned rest a =
      record {
        refusal = a.refusal;
        untouched = a.untouched;
        told = λ n fit. let m = admitted _ _ _ _ _ _ n in departs net law h q.start q.destination q.tick m.start m.tick list after.list long reply turned (a.told n fit);
        wiped = a.wiped;
        empty = a.empty;
        rest = rest ∙ a.rest;
        capacity = a.capacity;
      }

  pub asked_found : (front : List ℕ) (n : ℕ) → n ≡ filled reply → n ≤ length after.list → front ≡ reverse (take n after.list) → (told : Reply) → told ≡ reply → Asks net h q before after told → DepartsAt net h q before (record after { list = front ++ drop n after.list }) reply
  asked_found front n e l turned told et a =
      let found = after.list in
      let long : length front ≡ n = simp (length-reverse, length-take) at (ap length turned) ∙ omega arith in
      asked_turned (front ++ drop n found)
      (simp (length-append, length-drop) (omega (arith, long)))
      (subst (λ m. take m (front ++ drop n found) ≡ reverse (take m found)) e (take_at front (drop n found) n long ∙ turned))
      (subst (λ m. drop m (front ++ drop n found) ≡ drop m found) e (drop_at front (drop n found) n long))
      (subst (Asks net h q before after) et a)

  pub asked_none : filled reply ≡ 0 → (told : Reply) → told ≡ reply → Asks net h q before after told → DepartsAt net h q before after reply
  asked_none e told et a = asked_turned after.list refl (subst (λ m. take m after.list ≡ reverse (take m after.list)) (sym e) refl) refl (subst (Asks net h q before after) et a)

pub filled_back : (last : ℕ) (reply : Reply) → filled (counted_back last reply) ≡ filled reply
filled_back last (Ok (Found a roads n)) = refl
filled_back last (Ok (CutOff n)) = refl
filled_back last (Err r) = refl

-- an arrive-by question, by the question on the turned network
module _ (net : Meaning) (law : Laws net) (h : ℕ → ℕ) (q : Question) (before after : Lent) where
  abbrev Backward : Meaning → ℕ → Reply → Type 0
  Backward back tick = Asks back h (record { start = q.destination; destination = q.start; tick = tick }) before after

  asked_back : (reply : Reply) → Backward (turned net) (back_tick net.last q.tick) reply → ArrivesBy net h q before after (counted_back net.last reply)
  asked_back reply a =
      let same = refusal_turned net (length before.table) before.capacity q.start q.destination q.tick in
      record {
        refusal = λ r e. ap (counted_back net.last) (a.refusal r (same ∙ e));
        untouched = λ r e. a.untouched r (same ∙ e);
        told = λ n fit.
            let m = admitted _ _ _ _ _ _ n in
            let tick : back_tick net.last q.tick ≡ net.last - q.tick = cond-true _ _ _ (le-leb q.tick net.last m.tick) in
            arrives net law h q.start q.destination q.tick m.start m.destination m.tick after.list reply (subst (λ t. Searched (turned net) h q.destination q.start t after.list reply) tick (a.told (same ∙ n) fit));
        wiped = λ n. a.wiped (same ∙ n);
        empty = λ n. a.empty (same ∙ n);
        rest = subst (λ k. drop k after.list ≡ drop k before.list) (sym (filled_back net.last reply)) a.rest;
        capacity = a.capacity;
      }

  pub asked_by : (back : Meaning) (last tick : ℕ) (reply told : Reply) → back ≡ turned net → last ≡ net.last → tick ≡ back_tick last q.tick → told ≡ counted_back last reply → Backward back tick reply → ArrivesBy net h q before after told
  asked_by back last tick reply told eb el et er a =
      subst (ArrivesBy net h q before after) (sym (er ∙ ap (λ l. counted_back l reply) el))
      (asked_back reply (subst (λ t. Backward (turned net) t reply) (et ∙ ap (λ l. back_tick l q.tick) el) (subst (λ m. Backward m tick reply) eb a)))
