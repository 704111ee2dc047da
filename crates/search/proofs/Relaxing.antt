-- What relaxing one link, and then each link out of a place, keeps.
use Rattle.std.proofs.Common.{◌≡◌, ℕ, zero, suc, ◌+◌, ◌≤◌, ◌⊎◌, List, [], ◌∷◌, ◌++◌, Some, None, Option, sym, refl, ap, ◌∙◌, subst, inl, inr, arith}
use Rattle.std.proofs.lemmas.Bool.{cases_eq}
use Rattle.network.specs.Meaning.{Meaning, IsPlace, IsLink}
use Rattle.network.specs.Laws.{Laws}
use Rattle.network.specs.Links.{first, next, IsLowest}
use Rattle.queues.specs.Queue.{lowered}
use Rattle.journeys.specs.Journey.{Journey}
use Rattle.journeys.specs.Journey.Journey.{stay, ride}
use Rattle.journeys.proofs.Rides.{onto, within}
use Rattle.search.specs.Labels.{label}
use Rattle.search.specs.Steps.{Before, Relaxed, State, Step, Kept, Better, Walking, rank, weight}
use Rattle.search.proofs.Tables.{some_none}
use Rattle.search.proofs.Walks.{first_lowest, next_lowest, lowest_link, lowest_none}

-- a label that is lowered stays relaxed
relaxed_less : (l l' : ℕ) (o : Option ℕ) → (1 ≤ l → (1 ≤ l') × (l' ≤ l)) → Relaxed l o → Relaxed l' o
relaxed_less l l' None less r = tt
relaxed_less l l' (Some b) less r = let n = less r.0 in (n.0, omega (arith, n.1, r.1))

-- a label that is lowered weighs less
weight_falls : (last l x : ℕ) → x ≤ last + 1 → (1 ≤ l → suc x ≤ l) → suc x ≤ weight last l
weight_falls last zero x h f = omega arith
weight_falls last (suc y) x h f = f (omega arith)

-- a key that no key held is below is the key held after its offer
lowered_to : (o : Option ℕ) (key : ℕ) → ((k : ℕ) → o ≡ Some k → key ≤ k) → lowered o key ≡ key
lowered_to None key f = refl
lowered_to (Some k) key f = let l = f k refl in grind arith

module _ {net : Meaning} {h : ℕ → ℕ} {k a : ℕ} {cells cells' : List ℕ} {held held' : ℕ → Option ℕ} (laws : Laws net)
    (did : Step net h k a cells cells' held held') (link : IsLink net k) (in_time : a ≤ net.last) where
  -- a place stays as it is, or is the head and gets a lower label
  Way : ℕ → Type 0
  Way v = Kept (label cells v) (label cells' v) (held v) (held' v)
      ⊎ ((b : ℕ) × (v ≡ net.head k) × (net.arrival k a ≡ Some b) × Better h v b (label cells v) (label cells' v) (held v) (held' v))

  -- each place goes one way
  way : (v : ℕ) → Way v
  unfolding Way
  way v = elim (cases_eq v (net.head k)) [
    | inl e ↦ subst Way (sym e) (elim did.here [ inl (x, r) ↦ inl x | inr (b, q, x) ↦ inr (b, refl, q, x) ])
    | inr n ↦ inl (did.others v n)
  ]

  -- a label that is there is never raised
  step_less : (v : ℕ) → 1 ≤ label cells v → (1 ≤ label cells' v) × (label cells' v ≤ label cells v)
  unfolding Way
  step_less v l = elim (way v) [
    | inl x ↦ (omega (arith, x.same_label), omega (arith, x.same_label))
    | inr (b, e, q, x) ↦ (omega (arith, x.new_label), omega (arith, x.new_label, x.less l))
  ]

  -- no place counts more
  pub step_rank : (v : ℕ) → rank net.last cells' held' v ≤ rank net.last cells held v
  unfolding Way
  step_rank v = elim (way v) [
    | inl x ↦ rw (x.same_label, x.same_key) (omega arith)
    | inr (b, e, q, x) ↦
        let lim = within net laws k a b link in_time q in
        let lighter = weight_falls net.last (label cells v) (suc b) (omega (arith, lim.1)) (λ l. omega (arith, x.less l)) in
        rw (x.new_label, x.new_key) (omega (arith, lighter))
  ]

  module _ {p : ℕ} (tail : net.tail k ≡ p) (reached : label cells p ≡ suc a) where
    -- the link's tail keeps its label and its key
    pub step_tail : Kept (label cells p) (label cells' p) (held p) (held' p)
    unfolding Way
    step_tail = elim (way p) [
      | inl x ↦ x
      | inr (b, e, q, x) ↦ absurd (omega (arith, (within net laws k a b link in_time q).0, x.less (omega (arith, reached)), reached))
    ]

    -- the link is relaxed from its tail's label
    tail_tick : (j x : ℕ) → j ≡ k → label cells (net.tail j) ≡ suc x → a ≡ x
    tail_tick j x e l = let at_p : label cells p ≡ suc x = subst (λ z. label cells z ≡ suc x) (ap net.tail e ∙ tail) l in omega (arith, at_p, reached)

    -- the link is relaxed
    step_here : Relaxed (label cells' (net.head k)) (net.arrival k a)
    step_here = elim did.here [
      | inl (x, r) ↦ subst (λ l. Relaxed l (net.arrival k a)) (sym x.same_label) r
      | inr (b, q, x) ↦ subst (Relaxed (label cells' (net.head k))) (sym q) (omega (arith, x.new_label), omega (arith, x.new_label))
    ]

    -- a journey to the tail goes on to the head
    rode : (s t x v : ℕ) → v ≡ net.head k → net.arrival k a ≡ Some x → (roads : List ℕ) × Journey net s t roads p a → (roads : List ℕ) × Journey net s t roads v x
    rode s t x v q arrives (roads, j) =
        let there : Journey net s t roads (net.tail k) a = subst (λ z. Journey net s t roads z a) (sym tail) j in
        (roads ++ (k ∷ []), subst (λ z. Journey net s t (roads ++ (k ∷ [])) z x) (sym q) (onto there (ride a x link (omega arith) in_time arrives stay)))

    -- what a search keeps, one link further
    pub step_state : (s t : ℕ) → State net h s t p k cells held → State net h s t p (suc k) cells' held'
    unfolding Way
    step_state s t was =
        record {
          sound = λ v x low e. elim (way v) [
            | inl y ↦ was.sound v x low (sym y.same_label ∙ e)
            | inr (b, q, arrives, y) ↦
                let same : b ≡ x = omega (arith, y.new_label, e) in
                rode s t x v q (arrives ∙ ap {B = Option ℕ} Some same) (was.sound p a (subst (λ z. z ≤ net.places) tail (laws.tail k link).high) reached)
          ];
          began = ((step_less s was.began.0).0, omega (arith, (step_less s was.began.0).1, was.began.1));
          keyed = λ v x e. elim (way v) [
            | inl y ↦
                let old = was.keyed v x (sym y.same_key ∙ e) in
                record { place = old.place; labelled = omega (arith, old.labelled, y.same_label); sum = omega (arith, old.sum, y.same_label) }
            | inr (b, q, arrives, y) ↦
                let key : lowered (held v) (b + h v) ≡ b + h v = lowered_to (held v) (b + h v) (λ z f. let old = was.keyed v z f in omega (arith, old.labelled, old.sum, y.less old.labelled)) in
                let new = y.new_key in
                let x_is : x ≡ lowered (held v) (b + h v) = cc in
                record { place = subst (IsPlace net) (sym q) (laws.head k link); labelled = omega (arith, y.new_label); sum = omega (arith, y.new_label, x_is, key) }
          ];
          done = λ j x lj free e from. elim (way (net.tail j)) [
            | inr (b, q, arrives, y) ↦ absurd (some_none y.new_key free)
            | inl y ↦ elim (cases_eq j k) [
              | inl jk ↦ subst (λ i. Relaxed (label cells' (net.head i)) (net.arrival i x)) (sym jk)
                  (subst (λ z. Relaxed (label cells' (net.head k)) (net.arrival k z)) (tail_tick j x jk (sym y.same_label ∙ e)) step_here)
              | inr n ↦ relaxed_less (label cells (net.head j)) (label cells' (net.head j)) (net.arrival j x) (step_less (net.head j))
                  (was.done j x lj (sym y.same_key ∙ free) (sym y.same_label ∙ e) (λ f _. omega (arith, from f (omega arith), n)))
            ]
          ];
        }

-- a walk that has come as far, by the links that there are
state_moves : {net : Meaning} {h : ℕ → ℕ} {s t p : ℕ} {cells : List ℕ} {held : ℕ → Option ℕ} (at at' : ℕ) → ((j : ℕ) → IsLink net j → net.tail j ≡ p → Before at' j → Before at j) → State net h s t p at cells held → State net h s t p at' cells held
state_moves at at' f was =
    record { sound = was.sound; began = was.began; keyed = was.keyed; done = λ k a i free e from. was.done k a i free e (λ q. f k i q (from q)) }

module _ {net : Meaning} {h : ℕ → ℕ} {p a : ℕ} where
  -- a walk begins at the first link out of a place
  pub walk_start : {cells : List ℕ} {held : ℕ → Option ℕ} {at : ℕ} → at ≡ first net net.tail p → IsPlace net p → label cells p ≡ suc a → held p ≡ None → Walking net h p a at cells cells held held
  walk_start {at = at} e i reached free =
      let low = subst (IsLowest net.tail p 0 net.links) (sym e) (first_lowest net net.tail p i) in
      record {
        walked = record {
          keeps = λ s t was. state_moves 1 at (λ j ij q b _. absurd (omega (arith, lowest_none net net.tail low ij q b, ij.low))) was;
          falls = λ v. omega arith;
        };
        link = lowest_link net net.tail low;
        tail_label = reached;
        tail_free = free;
      }

  -- a walk goes on from a link that is relaxed
  pub walk_more : {k here at : ℕ} {before cells cells' : List ℕ} {held-before held held' : ℕ → Option ℕ} → Laws net → a ≤ net.last → Walking net h p a here before cells held-before held → k ≡ here → 1 ≤ k → Step net h k a cells cells' held held' → at ≡ next net net.tail k → Walking net h p a at before cells' held-before held'
  walk_more {k} {here} {at} {before} {cells} {cells'} {held-before} {held} laws in_time came from l did e =
      let was = subst (λ x. Walking net h p a x before cells held-before held) (sym from) came in
      let (i, tail) = was.link l in
      let low = subst (λ q. IsLowest net.tail q k net.links at) tail (subst (IsLowest net.tail (net.tail k) k net.links) (sym e) (next_lowest net net.tail k i)) in
      let kept = step_tail laws did i in_time tail was.tail_label in
      record {
        walked = record {
          keeps = λ s t began. state_moves (suc k) at
              (λ j ij q b _. omega (arith, lowest_none net net.tail low ij q b))
              (step_state laws did i in_time tail was.tail_label s t (was.walked.keeps s t began));
          falls = λ v. omega (arith, was.walked.falls v, step_rank laws did i in_time v);
        };
        link = lowest_link net net.tail low;
        tail_label = kept.same_label ∙ was.tail_label;
        tail_free = kept.same_key ∙ was.tail_free;
      }
