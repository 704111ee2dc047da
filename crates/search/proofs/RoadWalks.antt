-- The walk from a place back to the start, and the loop that writes its roads.
use Rattle.std.proofs.Common.{◌≡◌, ℕ, zero, suc, ◌+◌, ◌<◌, ◌≤◌, ◌≢◌, List, ◌∷◌, length, get_or, drop, set, Some, None, Option, sym, refl, ap, ◌∙◌, subst, inl, inr, ⊎_elim, arith, length-drop}
use denote.Ref.{Bor}
use Rattle.std.specs.Iterator.{AlwaysYields}
use Rattle.std.proofs.Math.ListN.{length-set}
use Rattle.std.proofs.lemmas.Bool.{cases_lt, cases_eq}
use Rattle.std.proofs.lemmas.Iterator.{YieldsList}
use Rattle.std.proofs.lemmas.List.{drop_all, drop_more, ext_get_or, get_or-set_same, get_or-set_other}
use Rattle.network.specs.Meaning.{Meaning}
use Rattle.network.specs.Laws.{Laws}
use Rattle.journeys.specs.Earliest.{after}
use Rattle.journeys.specs.Roads.{InTime, Lowest, Back}
use Rattle.journeys.specs.Roads.Back.{home, over}
use Rattle.journeys.proofs.Rides.{after_some}
use Rattle.search.specs.declared.roads.RoadsBack.{RoadsBack}
use Rattle.search.specs.Labels.{label, arrival_of, arrivals_in, Fits, Sought}
use Rattle.search.specs.RoadLists.{GoesBack, back_steps}
use Rattle.search.proofs.Backs.{back_first, back_home}
use Rattle.search.proofs.Tables.{arrival_some, some_none, some_same}

-- a list from its i-th element on
pub record Split (xs : List ℕ) (i x : ℕ) (rest : List ℕ) : Type 0 where
  pub within : i < length xs
  pub here : get_or xs i 0 ≡ x
  pub after : drop (i + 1) xs ≡ rest

split : (xs : List ℕ) (i x : ℕ) (rest : List ℕ) → drop i xs ≡ x ∷ rest → Split xs i x rest
split xs i x rest e =
    ⊎_elim
    (λ l. let d = drop_more xs i 0 l in let h : get_or xs i 0 ≡ x = cc in let a : drop (i + 1) xs ≡ rest = cc in record { within = l; here = h; after = a })
    (λ l. absurd (let d = drop_all i xs l in let n : length (drop i xs) ≡ suc (length rest) = ap length e in let z : length (drop i xs) ≡ 0 = ap length d in omega arith))
    (cases_lt i (length xs))

module _ (net : Meaning) (law : Laws net) (cells : List ℕ) where
  pub in_time : {v k : ℕ} → Fits net cells v k → InTime net (arrivals_in cells) v k
  in_time {v} {k} f = record {
    link = f.link;
    into = f.into;
    timely = ap (λ l. after net k (arrival_of l)) f.from_label ∙ (f.carries ∙ sym (ap arrival_of f.to_label));
  }

  pub fits : {v k : ℕ} → 1 ≤ label cells v → InTime net (arrivals_in cells) v k → Fits net cells v k
  fits {v} {k} there f = go (label cells v) refl there
    where
      go : (l : ℕ) → label cells v ≡ l → 1 ≤ l → Fits net cells v k
      go zero e n = absurd (omega arith)
      go (suc a) e n =
          let (x, lx, arr) = after_some net k a (arrivals_in cells (net.tail k)) (f.timely ∙ ap arrival_of e) in
          record { link = f.link; into = f.into; from = x; to = a; from_label = arrival_some _ x lx; to_label = e; carries = arr }

  -- the link that is sought is the first road of the list
  sought_road : {v k : ℕ} → 1 ≤ label cells v → Sought net cells v (Some k) → (j : ℕ) → Lowest net (arrivals_in cells) v j → k ≡ j
  sought_road {v} {k} there s j low =
      let m = s.1 j (fits there low.in_time) in
      let n = low.lowest k (in_time s.0) in
      omega (arith, m, n)

-- a walk from place v back to the start, over the labels of a table
module _ {N : Type 0} (meaning : N → Meaning) (net : Meaning) (law : Laws net) (cells : List ℕ) (start : ℕ) where
  -- it has come to place v
  pub record At (v : ℕ) (s : RoadsBack N) : Type 0 where
    pub over : meaning s.net.now ≡ net
    pub labels : s.labels.now ≡ cells
    pub from : s.start ≡ start
    pub at : s.at ≡ v
    pub there : 1 ≤ label cells v

  steps_at : {v : ℕ} {s : RoadsBack N} (r : Option ℕ) (t : RoadsBack N) → At v s → back_steps meaning s r t → GoesBack net cells start v r t.at
  steps_at {v} {s} r t was step =
      subst (λ m. GoesBack m cells start v r t.at) was.over
      (subst (λ c. GoesBack (meaning s.net.now) c start v r t.at) was.labels
      (subst (λ x. GoesBack (meaning s.net.now) s.labels.now x v r t.at) was.from
      (subst (λ x. GoesBack (meaning s.net.now) s.labels.now s.start x r t.at) was.at step.3)))

  -- a walk is begun
  pub begun : {v : ℕ} {s : RoadsBack N} {lent : Bor N} {table : Bor (List ℕ)} → 1 ≤ label cells v → s ≡ record { net = lent; labels = table; start = start; at = v } → meaning lent.now ≡ net → table.now ≡ cells → At v s
  begun there e n c = record { over = ap (λ r. meaning r.net.now) e ∙ n; labels = ap (λ r. r.labels.now) e ∙ c; from = ap (λ r. r.start) e; at = ap (λ r. r.at) e; there = there }

  -- it goes on at the tail of the road that comes
  pub onward : {v : ℕ} {s : RoadsBack N} (k : ℕ) (t : RoadsBack N) → At v s → back_steps meaning s (Some k) t → At (net.tail k) t
  onward {v} {s} k t was step = let goes = steps_at (Some k) t was step in
      record { over = ap (λ (n : Bor N). meaning n.now) step.0 ∙ was.over; labels = ap (λ (c : Bor (List ℕ)). c.now) step.1 ∙ was.labels; from = step.2 ∙ was.from; at = goes.2; there = omega (arith, goes.1.0.from_label) }

  -- the next road, where the list is not at its end
  pub next_road : {v k : ℕ} {s : RoadsBack N} → At v s → (v ≢ start) → Lowest net (arrivals_in cells) v k → (r : Option ℕ) (t : RoadsBack N) → back_steps meaning s r t → r ≡ Some k
  next_road {v} {k} was ne low None t step = absurd (⊎_elim (λ e. ne e) (λ none. none k (fits net law cells was.there low.in_time)) (steps_at None t was step))
  next_road {v} {k} was ne low (Some j) t step = ap Some (sought_road net law cells was.there (steps_at (Some j) t was step).1 k low)

  always : {v : ℕ} {back : List ℕ} → Back net (arrivals_in cells) start v back → (s : RoadsBack N) → At v s → AlwaysYields (back_steps meaning) (λ k. k) s back
  always home s was = λ k t step. (steps_at (Some k) t was step).0 refl
  always (over {v} {k} {rest} ne low b) s was = (
    λ t step. absurd (some_none (next_road was ne low None t step) refl),
    λ j t step. let e : j ≡ k = some_same (next_road was ne low (Some j) t step) in (e, always b t (subst (λ i. At (net.tail i) t) e (onward j t was step))),
  )

  pub YieldsList-from_back : {v : ℕ} {back : List ℕ} → Back net (arrivals_in cells) start v back → (s : RoadsBack N) → At v s → YieldsList (back_steps meaning) (λ k. k) s back
  YieldsList-from_back b s was = record { runs = always b s was }

  -- what the loop that writes the roads from a place to a list keeps, where it has written i of them
  pub record Writing (place : ℕ) (list : List ℕ) (i : ℕ) (s : RoadsBack N) : Type 0 where
    pub walk : At s.at s
    pub left : (back : List ℕ) → Back net (arrivals_in cells) start place back → length list ≡ length back → Back net (arrivals_in cells) start s.at (drop i back)
    pub front : (back : List ℕ) → Back net (arrivals_in cells) start place back → length list ≡ length back → (j : ℕ) → j < i → get_or list j 0 ≡ get_or back j 0

  pub writing_none : {place : ℕ} {s : RoadsBack N} (list : List ℕ) → At place s → Writing place list 0 s
  writing_none {place} {s} list was = record {
    walk = subst (λ v. At v s) (sym was.at) was;
    left = λ back b e. subst (λ v. Back net (arrivals_in cells) start v back) (sym was.at) b;
    front = λ back b e j l. absurd (omega arith);
  }

  module _ {place : ℕ} {list : List ℕ} {i : ℕ} {s : RoadsBack N} (was : Writing place list i s) (more : i < length list) where
    -- the next road of the list
    record Next (back : List ℕ) (r : Option ℕ) : Type 0 where
      road : ℕ
      is : r ≡ Some road
      here : get_or back i 0 ≡ road
      onward : Back net (arrivals_in cells) start (net.tail road) (drop (i + 1) back)

    next : (back : List ℕ) → Back net (arrivals_in cells) start place back → length list ≡ length back → (r : Option ℕ) (t : RoadsBack N) → back_steps meaning s r t → Next back r
    next back b e r t step = elim (cases_eq s.at start) [
      | inl q ↦ absurd (let n : length (drop i back) ≡ 0 = ap length (back_home (was.left back b e) q) in omega (arith, length-drop i back))
      | inr ne ↦
          let f = back_first (was.left back b e) ne in
          let p = split back i f.road f.rest f.is in
          record { road = f.road; is = next_road was.walk ne f.lowest r t step; here = p.here; onward = subst (Back net (arrivals_in cells) start (net.tail f.road)) (sym p.after) f.onward }
    ]

    pub writing_stuck : {r : Option ℕ} (t : RoadsBack N) → r ≡ None → back_steps meaning s r t → (back : List ℕ) → Back net (arrivals_in cells) start place back → length list ≡ length back → list ≡ back
    writing_stuck {r} t none step back b e = absurd (some_none (next back b e r t step).is none)

    pub writing_more : {k : ℕ} (t : RoadsBack N) → back_steps meaning s (Some k) t → Writing place (set list i k) (i + 1) t
    writing_more {k} t step =
        let on = onward k t was.walk step in
        let follows = λ (back : List ℕ) (b : Back net (arrivals_in cells) start place back) (e : length (set list i k) ≡ length back). next back b (sym (length-set list i k) ∙ e) (Some k) t step in
        record {
          walk = subst (λ v. At v t) (sym on.at) on;
          left = λ back b e.
              let n = follows back b e in
              subst (λ v. Back net (arrivals_in cells) start v (drop (i + 1) back)) (ap net.tail (sym (some_same n.is)) ∙ sym on.at) n.onward;
          front = λ back b e j l.
              let n = follows back b e in
              ⊎_elim
              (λ q. subst (λ x. get_or (set list i k) x 0 ≡ get_or back x 0) (sym q) (get_or-set_same list i k 0 more ∙ (some_same n.is ∙ sym n.here)))
              (λ q. get_or-set_other list i j k 0 q ∙ was.front back b (sym (length-set list i k) ∙ e) j (omega (arith, q)))
              (cases_eq j i);
        }

  pub writing_all : {place : ℕ} {list : List ℕ} {i : ℕ} {s : RoadsBack N} → Writing place list i s → length list ≤ i → (back : List ℕ) → Back net (arrivals_in cells) start place back → length list ≡ length back → list ≡ back
  writing_all {place} {list} was h back b e = ext_get_or 0 list back e (λ j l. was.front back b e j (omega arith))
