-- What the labels that a search leaves say of earliest arrivals, and of how many places it takes.
use Rattle.std.proofs.Common.{◌≡◌, ℕ, zero, suc, ◌+◌, ◌≤◌, Bool, true, false, cond, List, [], ◌∷◌, ◌++◌, length, Some, None, Option, sym, refl, ap, ◌∙◌, subst, inl, inr, arith, length-append}
use Rattle.std.specs.List.{filter, range_with_len}
use Rattle.std.proofs.lemmas.List.Elements.{filter-append}
use Rattle.std.proofs.lemmas.Bool.{cases_lt, false≢true, leb-true, le-leb}
use Rattle.network.specs.Meaning.{Meaning, IsPlace}
use Rattle.network.specs.Laws.{Laws}
use Rattle.journeys.specs.Journey.{FirstArrival, NoWay}
use Rattle.search.specs.Labels.{Within, Early, Sound, Found, Near, NearIn, label, arrival_of, arrivals_in, is_within, is_near}
use Rattle.search.specs.RoadLists.{Labelled}
use Rattle.search.specs.Counting.{Count, TakenPlace}
use Rattle.search.specs.Counting.Count.{nothing, counts, passes}
use Rattle.search.proofs.Tables.{label_cases, within_less, arrival_some, none_label}
use Rattle.search.proofs.Turns.{sound_early}

-- labels that say arrivals of journeys are early enough to be counted
pub early : {net : Meaning} {s t : ℕ} → Laws net → t ≤ net.last → (cells : List ℕ) → Sound net s t cells → (n : ℕ) → n ≤ net.places → Early n cells
early laws in_time cells sound n few v l = omega (arith, sound_early laws cells in_time sound v (omega arith), laws.last.high)

-- a place that a search has reached has a label, in a table whose labels are early
pub reached : {net : Meaning} {s t v a : ℕ} → Laws net → t ≤ net.last → IsPlace net v → (cells : List ℕ) → Sound net s t cells → arrivals_in cells v ≡ Some a → Labelled net cells v
reached {v = v} laws in_time place cells sound e = record {
  place = place;
  there = omega (arith, arrival_some (label cells v) _ e);
  early = early laws in_time cells sound _ (omega arith);
}

-- one number more at the end
range_more : (a n : ℕ) → range_with_len a (suc n) ≡ range_with_len a n ++ (a + n) ∷ []
range_more a zero = let e : a ≡ a + 0 = omega arith in ap (λ x. x ∷ []) e
range_more a (suc n) = ap (λ l. a ∷ l) (range_more (a + 1) n ∙ let e : a + 1 + n ≡ a + suc n = omega arith in rw e refl)

-- the numbers that pass a test are as many as there are
pub count_passing : (P : ℕ → Type 0) (test : ℕ → Bool) → ((v : ℕ) → test v ≡ true → P v) → ((v : ℕ) → test v ≡ false → P v → ⊥) → (n : ℕ) → Count P n (length (filter test (range_with_len 1 n)))
count_passing P test passing failing zero = nothing
count_passing P test passing failing (suc n) =
    subst (λ l. Count P (suc n) (length (filter test l))) (sym (range_more 1 n))
    (subst (λ l. Count P (suc n) (length l)) (sym (filter-append test (range_with_len 1 n) ((1 + n) ∷ [])))
    (subst (Count P (suc n)) (sym (length-append (filter test (range_with_len 1 n)) (filter test ((1 + n) ∷ []))))
    (last (length (filter test (range_with_len 1 n))) (count_passing P test passing failing n) (test (1 + n)) refl)))
  where
    last : (m : ℕ) → Count P n m → (b : Bool) → test (1 + n) ≡ b → Count P (suc n) (m + length (filter test ((1 + n) ∷ [])))
    last m k true e = subst (λ t. Count P (suc n) (m + length (cond t ((1 + n) ∷ []) []))) (sym e) (subst (Count P (suc n)) (omega arith) (counts (subst P (omega arith) (passing (1 + n) e)) k))
    last m k false e = subst (λ t. Count P (suc n) (m + length (cond t ((1 + n) ∷ []) []))) (sym e) (subst (Count P (suc n)) (omega arith) (passes (λ p. failing (1 + n) e (subst P (omega arith) p)) k))

-- the test of an arrival tells whether it is near
within_cases : (limit : Option ℕ) (x : ℕ) (b : Bool) → is_within limit x ≡ b → ((b ≡ true) → Within limit x) × ((b ≡ false) → Within limit x → ⊥)
within_cases None x b e = (λ _. tt, λ n _. false≢true (sym (e ∙ n)))
within_cases (Some g) x b e = (λ y. leb-true x g (e ∙ y), λ n w. false≢true (sym (e ∙ n) ∙ le-leb x g w))

pub near_yes : (h : ℕ → ℕ) (limit : Option ℕ) (v : ℕ) (o : Option ℕ) → is_near h limit v o ≡ true → Near h limit v o
near_yes h limit v None e = absurd (false≢true e)
near_yes h limit v (Some a) e = (within_cases limit (a + h v) true e).0 refl

pub near_no : (h : ℕ → ℕ) (limit : Option ℕ) (v : ℕ) (o : Option ℕ) → is_near h limit v o ≡ false → Near h limit v o → ⊥
near_no h limit v None e n = n
near_no h limit v (Some a) e n = (within_cases limit (a + h v) false e).1 refl n

-- a count of one property is a count of another that holds of the same numbers
count_same : (P Q : ℕ → Type 0) {m d : ℕ} → ((v : ℕ) → 1 ≤ v → v ≤ m → (P v → Q v) × (Q v → P v)) → Count P m d → Count Q m d
count_same P Q f nothing = nothing
count_same P Q f (counts {n} p k) = counts ((f (suc n) (omega arith) (omega arith)).0 p) (count_same P Q (λ v l h. f v l (omega arith)) k)
count_same P Q f (passes {n} p k) = passes (λ q. p ((f (suc n) (omega arith) (omega arith)).1 q)) (count_same P Q (λ v l h. f v l (omega arith)) k)

module _ (net : Meaning) (h : ℕ → ℕ) (s t goal : ℕ) (cells : List ℕ) (done : Found net h s t (Some goal) cells) where
  -- a label within the bound is the first arrival
  pub near_first : (v a : ℕ) → v ≤ net.places → label cells v ≡ suc a → Within (arrivals_in cells goal) (a + h v) → FirstArrival net s t v a
  near_first v a m e w =
      record {
        reached = done.sound v a m e;
        least = λ b roads j. elim (cases_lt b a) [
          | inl l ↦ absurd (omega (arith, (done.best v b roads j (within_less (arrivals_in cells goal) (b + h v) (a + h v) (omega arith) w)).1, e))
          | inr g ↦ g
        ];
      }

  -- a first arrival within the bound is the label
  pub first_near : (v a : ℕ) → v ≤ net.places → FirstArrival net s t v a → Within (arrivals_in cells goal) (a + h v) → label cells v ≡ suc a
  first_near v a m first w =
      let (roads, j) = first.reached in
      let best = done.best v a roads j w in
      elim (label_cases (label cells v)) [
        | inl z ↦ absurd (omega (arith, best.0, z))
        | inr (x, e) ↦ (let (r, i) = done.sound v x m e in omega (arith, e, best.1, first.least x r i))
      ]

  -- the goal's label says whether there is a way to it, and when that first arrives
  pub goal_label : goal ≤ net.places → h goal ≡ 0 → (arrivals_in cells goal ≡ None → NoWay net s t goal) × ((a : ℕ) → arrivals_in cells goal ≡ Some a → FirstArrival net s t goal a)
  goal_label m z = (
    λ e b roads j. let by = done.best goal b roads j (subst (λ l. Within l (b + h goal)) (sym e) tt) in none_label (label cells goal) e by.0,
    λ a e. near_first goal a m (arrival_some (label cells goal) a e) (subst (λ l. Within l (a + h goal)) (sym e) (omega (arith, z))),
  )

  -- the places that the labels say are taken are those that are
  near_taken : (v : ℕ) → v ≤ net.places → (NearIn h (arrivals_in cells goal) cells v → TakenPlace net h s t (arrivals_in cells goal) v) × (TakenPlace net h s t (arrivals_in cells goal) v → NearIn h (arrivals_in cells goal) cells v)
  near_taken v m = (λ n. there (arrivals_in cells goal) refl (arrivals_in cells v) refl n, λ r. back (arrivals_in cells goal) refl r)
    where
      there : (bound : Option ℕ) → arrivals_in cells goal ≡ bound → (l : Option ℕ) → arrivals_in cells v ≡ l → Near h bound v l → TakenPlace net h s t bound v
      there bound eb None e n = absurd n
      there None eb (Some a) e n = (a, near_first v a m (arrival_some (label cells v) a e) (subst (λ b. Within b (a + h v)) (sym eb) n))
      there (Some g) eb (Some a) e n = (a, near_first v a m (arrival_some (label cells v) a e) (subst (λ b. Within b (a + h v)) (sym eb) n), n)

      exact : (a : ℕ) → FirstArrival net s t v a → Within (arrivals_in cells goal) (a + h v) → NearIn h (arrivals_in cells goal) cells v
      exact a first w = subst (Near h (arrivals_in cells goal) v) (sym (ap arrival_of (first_near v a m first w))) w

      back : (bound : Option ℕ) → arrivals_in cells goal ≡ bound → TakenPlace net h s t bound v → NearIn h (arrivals_in cells goal) cells v
      back None eb (a, first) = exact a first (subst (λ b. Within b (a + h v)) (sym eb) tt)
      back (Some g) eb (a, first, w) = exact a first (subst (λ b. Within b (a + h v)) (sym eb) w)

  -- the labels that are near count the places that are taken
  pub counted : (n : ℕ) → Count (NearIn h (arrivals_in cells goal) cells) net.places n → Count (TakenPlace net h s t (arrivals_in cells goal)) net.places n
  counted n k = count_same _ _ (λ v l m. near_taken v m) k
