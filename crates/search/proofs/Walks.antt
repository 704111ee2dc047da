-- Walks over the links out of a place or into it, in rising order.
use Rattle.std.proofs.Common.{◌≡◌, ℕ, zero, suc, ◌-◌, ◌<◌, ◌≤◌, Bool, true, false, List, [], ◌∷◌, Some, None, Option, sym, ap, ◌∙◌, subst, inl, inr, arith}
use Rattle.std.specs.Bool.{⊤}
use Rattle.std.specs.Fn.{CalledAt}
use Rattle.std.specs.Iterator.{Yields, YieldsThen}
use Rattle.std.specs.List.{FoldsTo}
use Rattle.std.specs.Option.{MatchOption}
use denote.Param.Members.{Mut}
use denote.Ref.{Bor}
use Rattle.std.proofs.lemmas.Bool.{cases_lt, cases_order, cases_Bool, cond-true, cond-false, false≢true}
use Rattle.network.specs.Meaning.{Meaning, IsPlace, IsLink, among}
use Rattle.network.specs.Laws.{Laws}
use Rattle.network.specs.Links.{first, next, lowest, IsLowest}
use Rattle.network.proofs.Lowest.{lowest_found}
use Rattle.network.proofs.Ranges.{true_among, among_true}
use Rattle.search.specs.Labels.{label, Carries, Fits, Sought}
use Rattle.search.specs.declared.links.Links.{Links}
use Rattle.search.specs.declared.links.Side.{Side}
use Rattle.search.specs.declared.links.Side.TheVariants.{Into}
use Rattle.search.specs.LinkWalks.{Comes, end_on, link_steps, links_left}
use Rattle.search.specs.Steps.{Before, AtLink, Seeking}

-- each link comes before the end of a walk
pub at_end : (k : ℕ) → Before 0 k
at_end k l = absurd (omega arith)

module _ (net : Meaning) (end : ℕ → ℕ) where
  -- the first link is the lowest
  pub first_lowest : (p : ℕ) → IsPlace net p → IsLowest end p 0 net.links (first net end p)
  first_lowest p i =
      let none : net.links - 0 ≡ net.links = omega arith in
      let e : lowest end p 0 (net.links - 0) ≡ first net end p = ap (lowest end p 0) none ∙ sym (cond-true _ _ _ (true_among p net.places i)) in
      subst (IsLowest end p 0 net.links) e (lowest_found end p 0 net.links)

  -- the next link is the lowest after it
  pub next_lowest : (k : ℕ) → IsLink net k → IsLowest end (end k) k net.links (next net end k)
  next_lowest k i = subst (IsLowest end (end k) k net.links) (sym (cond-true _ _ _ (true_among k net.links i))) (lowest_found end (end k) k net.links)

  -- the lowest link after another is where a walk goes on
  pub lowest_link : {p after k : ℕ} → IsLowest end p after net.links k → AtLink net end p k
  lowest_link low l = let f = low.found l in (record { low = l; high = f.1 }, f.2)

  -- no link after another comes before the lowest
  pub lowest_none : {p after k j : ℕ} → IsLowest end p after net.links k → IsLink net j → end j ≡ p → Before k j → j ≤ after
  lowest_none {p} {after} {k} {j} low i e b = elim (cases_order j after) [
    | inl q ↦ omega arith
    | inr (inl l) ↦ omega arith
    | inr (inr l) ↦ (let n = low.none_lower j l i.high e in absurd (omega (arith, n.1, b n.0)))
  ]

  -- what is left of a walk falls
  pub walk_falls : {k after : ℕ} → 1 ≤ k → after ≡ next net end k → links_left net.links after < links_left net.links k
  walk_falls {k} {after} low e = subst (λ z. links_left net.links z < links_left net.links k) (sym e) (go k (next net end k) low (elim (cases_Bool (among k net.links)) [
    | inl t ↦ (λ l. let f = (next_lowest k (among_true k net.links t)).found l in (f.0, f.1))
    | inr n ↦ (λ l. absurd (let z : next net end k ≡ 0 = cond-false _ _ _ n in omega arith))
  ]))
    where
      go : (k after : ℕ) → 1 ≤ k → (1 ≤ after → (k < after) × (after ≤ net.links)) → links_left net.links after < links_left net.links k
      go zero after l u = absurd (omega arith)
      go (suc c) zero l u = omega arith
      go (suc c) (suc d) l u = let w = u (omega arith) in omega (arith, w.0, w.1)

module _ (net : Meaning) (law : Laws net) (cells : List ℕ) (p : ℕ) where
  -- a walk begins at the first link into a place
  seek_start : {at : ℕ} → at ≡ first net net.head p → Seeking net cells p at
  seek_start {at} e = elim (cases_Bool (among p net.places)) [
    | inl t ↦
        let low = subst (IsLowest net.head p 0 net.links) (sym e) (first_lowest net net.head p (among_true p net.places t)) in
        record {
          link = lowest_link net net.head low;
          passed = λ j f b. omega (arith, lowest_none net net.head low f.link f.into b, f.link.low);
        }
    | inr n ↦
        let z : first net net.head p ≡ 0 = cond-false _ _ _ n in
        record {
          link = λ l. absurd (omega (arith, e));
          passed = λ j f b. absurd (false≢true (sym n ∙ true_among p net.places (subst (IsPlace net) f.into (law.head j f.link))));
        }
  ]

  -- a link into the place fits exactly where it carries to the label of that
  carries_fits : {k own : ℕ} → net.head k ≡ p → label cells p ≡ suc own → Carries net cells own k → Fits net cells p k
  carries_fits into own c = record { link = c.link; into = into; from = c.from; to = _; from_label = c.from_label; to_label = own; carries = c.carries }

  fits_carries : {k own : ℕ} → label cells p ≡ suc own → Fits net cells p k → Carries net cells own k
  fits_carries own f = record { link = f.link; from = f.from; from_label = f.from_label; carries = f.carries ∙ ap Some (omega (arith, own, f.to_label)) }

  -- a walk goes on from a link that doesn't fit
  seek_more : {k at : ℕ} → Seeking net cells p k → 1 ≤ k → (Fits net cells p k → ⊥) → at ≡ next net net.head k → Seeking net cells p at
  seek_more {k} {at} was l off e =
      let o = was.link l in
      let low = subst (λ q. IsLowest net.head q k net.links at) o.1 (subst (IsLowest net.head (net.head k) k net.links) (sym e) (next_lowest net net.head k o.0)) in
      record {
        link = lowest_link net net.head low;
        passed = λ j f b. elim (cases_order j k) [
          | inl q ↦ off (subst (Fits net cells p) q f)
          | inr (inl m) ↦ was.passed j f (λ _. m)
          | inr (inr m) ↦ omega (arith, lowest_none net net.head low f.link f.into b)
        ];
      }

-- what a walk over the links on a side gives next, by the network that it is over
pub comes : {N : Type 0} (meaning : N → Meaning) {net : Meaning} (side : Side) (s t : Links N) (r : Option ℕ) → meaning s.net.now ≡ net → s.side ≡ side → link_steps meaning s r t → Comes net (end_on net side) s.next r t.next
comes meaning {net} side s t r over on step = subst (λ m. Comes m (end_on m side) s.next r t.next) over (subst (λ x. Comes (meaning s.net.now) (end_on (meaning s.net.now) x) s.next r t.next) on step.2)

-- what a walk over the links into a place finds, where the call of f says whether a link carries to the label of that
module _ {N F : Type 0} (meaning : N → Meaning) (lent : Bor N) (law : Laws (meaning lent.now)) (cells : List ℕ) (p own : ℕ) (labelled : label cells p ≡ suc own)
    {g : Mut F (Bor ℕ × Unit {0}) Bool} (f : F)
    (yes : (k : ℕ) (q : F) → CalledAt g f k true q → Carries (meaning lent.now) cells own k)
    (no : (k : ℕ) (q : F) → CalledAt g f k false q → (q ≡ f) × (Carries (meaning lent.now) cells own k → ⊥)) where
  -- a walk under way
  record Along (s : Links N) : Type 0 where
    net : s.net ≡ lent
    side : s.side ≡ Into
    passed : Seeking (meaning lent.now) cells p s.next

  passed_all : (xs : List ℕ) (s t : Links N) (j : F) → Along s → Yields (link_steps meaning) s xs t → FoldsTo (λ a x b. CalledAt g a x false b) f xs j → (j ≡ f) × Along t
  passed_all [] s t j was y calls = (sym calls, subst Along y was)
  passed_all (k ∷ xs) s t j was (u, step, y) (q, call, calls) =
      let (here, low, after) = comes meaning {net = meaning lent.now} Into s u (Some k) (ap (λ (n : Bor N). meaning n.now) was.net) was.side step in
      let (same, off) = no k q call in
      let at_k : Seeking (meaning lent.now) cells p k = subst (Seeking (meaning lent.now) cells p) (sym here) was.passed in
      passed_all xs u t j
      (record { net = step.0 ∙ was.net; side = step.1 ∙ was.side; passed = seek_more (meaning lent.now) law cells p at_k low (λ f. off (fits_carries (meaning lent.now) law cells p labelled f)) after })
      y (subst (λ z. FoldsTo (λ a x b. CalledAt g a x false b) z xs j) same calls)

  pub sought : (s u : Links N) (r : Option ℕ) → s.net ≡ lent → s.side ≡ Into → s.next ≡ first (meaning lent.now) (meaning lent.now).head p
      → (xs : List ℕ) × (j : F) × YieldsThen (link_steps meaning) s xs r u × FoldsTo (λ a x b. CalledAt g a x false b) f xs j × MatchOption r ⊤ (λ x. (h : F) × CalledAt g j x true h) → Sought (meaning lent.now) cells p r
  sought s u r net side e (xs, j, (t, y, last), calls, found) =
      let (same, was) = passed_all xs s t j (record { net = net; side = side; passed = seek_start (meaning lent.now) law cells p e }) y calls in
      go r (comes meaning {net = meaning lent.now} Into t u r (ap (λ (n : Bor N). meaning n.now) was.net) was.side last) found same was.passed
    where
      go : {at : ℕ} (r : Option ℕ) → Comes (meaning lent.now) (meaning lent.now).head at r u.next → MatchOption r ⊤ (λ x. (h : F) × CalledAt g j x true h) → j ≡ f → Seeking (meaning lent.now) cells p at → Sought (meaning lent.now) cells p r
      go None end _ same was = λ k fits. was.passed k fits (λ l. absurd (omega arith))
      go (Some k) (here, low, _) (h, call) same was =
          let at_k : Seeking (meaning lent.now) cells p k = subst (Seeking (meaning lent.now) cells p) (sym here) was in (
            carries_fits (meaning lent.now) law cells p (at_k.link low).1 labelled (yes k h (subst (λ z. CalledAt g z k true h) same call)),
            λ i fits. elim (cases_lt i k) [ inl m ↦ absurd (at_k.passed i fits (λ _. m)) | inr m ↦ m ],
          )
