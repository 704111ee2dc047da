-- What the labels of a search tell of the question that it was for.
use Rattle.std.proofs.Common.{◌≡◌, ℕ, suc, ◌+◌, ◌<◌, ◌≤◌, List, reverse, length, Some, None, sym, ap, subst, arith}
use Rattle.network.specs.Meaning.{Meaning, IsPlace}
use Rattle.network.specs.Laws.{Laws}
use Rattle.journeys.specs.Journey.{FirstArrival, Earliest}
use Rattle.journeys.specs.Earliest.{earliest}
use Rattle.journeys.specs.Roads.{Back, road_list}
use Rattle.journeys.proofs.Rides.{journey_within}
use Rattle.journeys.proofs.Arrivals.{exact, computed}
use Rattle.journeys.proofs.RoadLists.{one_list}
use Rattle.search.specs.Counting.{Count, TakenPlace}
use Rattle.search.specs.Labels.{label, arrival_of, arrivals_in, Within, NearIn, Found}
use Rattle.search.specs.Estimate.{Fit}
use Rattle.search.specs.Question.{Way, NoDeparture, TooShort, Reached}
use Rattle.search.proofs.Tables.{within_less, arrival_some}
use Rattle.search.proofs.Goals.{near_first, first_near, goal_label, counted}
use Rattle.search.proofs.Backs.{back_labels}

module _ (net : Meaning) (law : Laws net) (h : ℕ → ℕ) (s d t : ℕ) (cells : List ℕ) (start : IsPlace net s) (destination : IsPlace net d) (tick : t ≤ net.last) (fit : Fit net h d) (done : Found net h s t (Some d) cells) where
  first_of : (v a : ℕ) → earliest net s t v ≡ Some a → FirstArrival net s t v a
  first_of v a e = subst (Earliest net s t v) e (exact net law s t start tick v)

  earliest_of : (v a : ℕ) → FirstArrival net s t v a → earliest net s t v ≡ Some a
  earliest_of v a f = sym ((computed net law s t v (Some a) start tick).0 f)

  label_of : (v a : ℕ) → arrivals_in cells v ≡ Some a → label cells v ≡ suc a
  label_of v a e = arrival_some (label cells v) a e

  first_late : (v a : ℕ) → FirstArrival net s t v a → a ≤ net.last
  first_late v a f = (journey_within net law f.reached.1 tick).1

  -- the road list, found backward by the labels and by the earliest arrivals alike
  record FoundBack : Type 0 where
    list : List ℕ
    by_earliest : Back net (earliest net s t) s d list
    by_labels : Back net (arrivals_in cells) s d list

  found_back : (a : ℕ) → arrivals_in cells d ≡ Some a → FoundBack
  found_back a e =
      let f = (goal_label net h s t d cells done destination.high fit.here).1 a e in
      let ed = earliest_of d a f in
      let one = one_list net law s t d a start tick ed in
      record {
        list = reverse (road_list net s t d);
        by_earliest = one.found;
        by_labels =
            back_labels net law h fit.consistent (Within (arrivals_in cells d)) (λ x y l b. within_less (arrivals_in cells d) x y l b) (earliest net s t) (arrivals_in cells)
            (λ v b place ev w. ap arrival_of (first_near net h s t d cells done v b place.high (first_of v b ev) w))
            (λ v b place lv w. earliest_of v b (near_first net h s t d cells done v b place.high (label_of v b lv) w))
            (λ v b place ev. first_late v b (first_of v b ev))
            (λ v b place lv. (journey_within net law (done.sound v b place.high (label_of v b lv)).1 tick).1)
            one.found a destination ed (subst (λ l. Within l (a + h d)) (sym e) (omega (arith, fit.here)));
      }

  pub told_none : (n : ℕ) → arrivals_in cells d ≡ None → Count (NearIn h (arrivals_in cells d) cells) net.places n → NoDeparture net s d t n
  told_none n z k = record {
    none = (goal_label net h s t d cells done destination.high fit.here).0 z;
    taken = subst (λ l. Count (TakenPlace net h s t l) net.places n) z (counted net h s t d cells done n k);
  }

  module _ (a : ℕ) (labelled : arrivals_in cells d ≡ Some a) (roads : ℕ) (counts : (back : List ℕ) → Back net (arrivals_in cells) s d back → roads ≡ length back) where
    pub told_short : (room : ℕ) → room < roads → TooShort (Reached net s d t) (Back net (earliest net s t) s d) roads room
    told_short room l = let f = found_back a labelled in ((a, (goal_label net h s t d cells done destination.high fit.here).1 a labelled), (f.list, f.by_earliest, counts f.list f.by_labels), l)

    pub told_way : (list : List ℕ) (n : ℕ) → Count (NearIn h (arrivals_in cells d) cells) net.places n
        → ((back : List ℕ) → Back net (arrivals_in cells) s d back → roads ≡ length back → list ≡ back)
        → Way net h s d t a list n
    told_way list n k written =
        let f = found_back a labelled in
        record {
          first = (goal_label net h s t d cells done destination.high fit.here).1 a labelled;
          back = subst (Back net (earliest net s t) s d) (sym (written f.list f.by_labels (counts f.list f.by_labels))) f.by_earliest;
          taken = subst (λ l. Count (TakenPlace net h s t l) net.places n) labelled (counted net h s t d cells done n k);
        }
