-- The first and the next links of two networks joined.
use Rattle.std.proofs.Common.{◌≡◌, ℕ, ◌+◌, ◌-◌, ◌<◌, ◌≤◌, cond, eqb, leb, ◌⊎◌, Some, None, Option, sym, refl, ap, ◌∙◌, subst, inl, inr, ⊎_elim, arith}
use Rattle.std.proofs.lemmas.Bool.{cases_lt, lt-leb, leb-false, eqb-true, eqb-false, eq-eqb, cond_both, cond-true, cond-false}
use Rattle.network.specs.Meaning.{Meaning, Among, IsPlace, IsLink}
use Rattle.network.specs.Links.{first, next, IsLowest}
use Rattle.network.proofs.Ranges.{cases_among}
use Rattle.network.proofs.Lowest.{one_lowest, first_lowest, next_lowest, no_first, no_next}
use Rattle.refusals.specs.declared.joining.Misfit.{Misfit}
use Rattle.joined.specs.Joined.{misfit, by_link, both, if_fit, joined, second_link, numbered_on}
use Rattle.joined.specs.Joins.{Fits, fits, low, high}

-- The lowest links of two: where a link ends goes by the m links of the first and then by the n of the second.
module _ (m n : ℕ) (end one two : ℕ → ℕ) (of_one : (k : ℕ) → k ≤ m → end k ≡ one k) (of_two : (j : ℕ) → 1 ≤ j → end (m + j) ≡ two j) (v after : ℕ) where
  -- a link of the first is the lowest where there is one
  lowest_one : (x : ℕ) → 1 ≤ x → IsLowest one v after m x → IsLowest end v after (m + n) x
  lowest_one x l h =
      let f = h.found l in
      record {
        found = λ _. (f.0, omega (arith, f.1), of_one x f.1 ∙ f.2);
        none_lower = λ j a b e. ⊎_elim (λ mj. (l, omega (arith, f.1))) (λ jm. h.none_lower j a jm (sym (of_one j jm) ∙ e)) (cases_lt m j);
      }

  -- else it is the lowest of the second, from where the scan comes to those
  lowest_two : (from y : ℕ) → ((j : ℕ) → after < j → j ≤ m → end j ≡ v → ⊥) → ((j : ℕ) → from < j → after < m + j) → ((j : ℕ) → 1 ≤ j → after < m + j → from < j) → IsLowest two v from n y → IsLowest end v after (m + n) (cond (eqb y 0) 0 (m + y))
  lowest_two from y skip on back h =
      cond_both (eqb y 0) 0 (m + y) (IsLowest end v after (m + n))
      (λ t. let z = eqb-true y 0 t in record { found = λ l. absurd (omega arith); none_lower = λ j a b e. absurd (let w = lower j a b e in omega (arith, w)) })
      (λ t.
      let ne = eqb-false y 0 t in
      let f = h.found (omega arith) in
      record { found = λ _. (on y f.0, omega (arith, f.1), of_two y (omega arith) ∙ f.2); none_lower = λ j a b e. let w = lower j a b e in (omega arith, omega (arith, w)) })
    where
      -- a link of the two that ends at v is one of the second's, and not below y
      lower : (j : ℕ) → after < j → j ≤ m + n → end j ≡ v → (1 ≤ y) × (m + y ≤ j)
      lower j a b e =
          ⊎_elim
          (λ mj.
          let split : j ≡ m + (j - m) = omega arith in
          let w = h.none_lower (j - m) (back (j - m) (omega arith) (omega arith)) (omega arith) (sym (of_two (j - m) (omega arith)) ∙ (ap end (sym split) ∙ e)) in
          (w.0, omega (arith, w.1)))
          (λ jm. absurd (skip j a jm e))
          (cases_lt m j)

-- The first and the next links of two joined, for an end of links, tails or heads.
module _ (a b : Meaning) (end : Meaning → ℕ → ℕ) (split : (k : ℕ) → end (both a b) k ≡ by_link a (end a) (end b) k) where
  of_a : (k : ℕ) → k ≤ a.links → end (both a b) k ≡ end a k
  of_a k h = split k ∙ low a (end a) (end b) k h

  of_b : (j : ℕ) → 1 ≤ j → end (both a b) (a.links + j) ≡ end b j
  of_b j l = let e : a.links + j - a.links ≡ j = omega arith in split (a.links + j) ∙ (high a (end a) (end b) (a.links + j) (omega arith) ∙ ap (end b) e)

  module _ (f : Fits a b) where
    same_place : (v : ℕ) → IsPlace a v → IsPlace b v
    same_place v l = subst (Among v) f.places l

    both_first : (v : ℕ) → IsPlace a v → (x : ℕ) → IsLowest (end (both a b)) v 0 (a.links + b.links) x → x ≡ first (both a b) (end (both a b)) v
    both_first v l x h = one_lowest _ v 0 _ x _ h (first_lowest (both a b) (end (both a b)) v l)

  pub first_of_first : (v : ℕ) → (first a (end a) v ≡ 0 → ⊥) → first a (end a) v ≡ first (joined a b) (end (joined a b)) v
  first_of_first v some = go (misfit a b) refl (cases_among v a.places)
    where
      go : (o : Option Misfit) → misfit a b ≡ o → IsPlace a v ⊎ (IsPlace a v → ⊥) → first a (end a) v ≡ first (if_fit o (both a b) a) (end (if_fit o (both a b) a)) v
      go None e (inl l) = both_first (fits a b e) v l _ (lowest_one a.links b.links (end (both a b)) (end a) (end b) of_a of_b v 0 _ (omega arith) (first_lowest a (end a) v l))
      go None e (inr n) = absurd (some (no_first a (end a) v n))
      go (Some m) e l = refl

  pub first_of_second : (v : ℕ) → first a (end a) v ≡ 0 → numbered_on a b (first b (end b) v) ≡ first (joined a b) (end (joined a b)) v
  first_of_second v none = go (misfit a b) refl (cases_among v a.places)
    where
      y : ℕ
      y = first b (end b) v

      nothing : (m : Misfit) → cond (eqb y 0) 0 (if_fit (Some m) (a.links + y) 0) ≡ 0
      nothing m = cond_both (eqb y 0) 0 0 (λ z. z ≡ 0) (λ _. refl) (λ _. refl)

      go : (o : Option Misfit) → misfit a b ≡ o → IsPlace a v ⊎ (IsPlace a v → ⊥) → cond (eqb y 0) 0 (if_fit o (a.links + y) 0) ≡ first (if_fit o (both a b) a) (end (if_fit o (both a b) a)) v
      go None e (inl l) =
          let f = fits a b e in
          let h = subst (IsLowest (end a) v 0 a.links) none (first_lowest a (end a) v l) in
          both_first f v l _
          (lowest_two a.links b.links (end (both a b)) (end a) (end b) of_a of_b v 0 0 y
          (λ j p q r. let w = h.none_lower j p q (sym (of_a j q) ∙ r) in omega (arith, w))
          (λ j p. omega arith)
          (λ j p q. omega arith)
          (first_lowest b (end b) v (same_place f v l)))
      go None e (inr n) = cond-true _ _ _ (eq-eqb y 0 (no_first b (end b) v (λ l. n (subst (Among v) (sym (fits a b e).places) l)))) ∙ sym (no_first (both a b) (end (both a b)) v n)
      go (Some m) e l = nothing m ∙ sym none

  both_next : (k : ℕ) → IsLink (both a b) k → (v x : ℕ) → end (both a b) k ≡ v → IsLowest (end (both a b)) v k (a.links + b.links) x → x ≡ next (both a b) (end (both a b)) k
  both_next k l v x e h = one_lowest _ _ k _ x _ (subst (λ w. IsLowest (end (both a b)) w k (a.links + b.links) x) (sym e) h) (next_lowest (both a b) (end (both a b)) k l)

  -- which links are the second's
  seconds : (k j : ℕ) → second_link a b k ≡ Some j → (misfit a b ≡ None) × (a.links < k) × (k ≡ a.links + j)
  seconds k j = go (misfit a b)
    where
      go : (o : Option Misfit) → cond (leb k a.links) None (if_fit o (Some (k - a.links)) None) ≡ Some j → (o ≡ None) × (a.links < k) × (k ≡ a.links + j)
      go None =
          cond_both (leb k a.links) None (Some (k - a.links)) (λ r. r ≡ Some j → (◌≡◌ {A = Option Misfit} None None) × (a.links < k) × (k ≡ a.links + j))
          (λ t e. absurd (let z : ◌≡◌ {A = ℕ} 0 1 = cc in omega arith))
          (λ t e. let l = leb-false k a.links t in let q : k - a.links ≡ j = cc in (refl, l, omega arith))
      go (Some m) = cond_both (leb k a.links) None None (λ r. r ≡ Some j → (Some m ≡ None) × (a.links < k) × (k ≡ a.links + j)) (λ t e. absurd (let z : ◌≡◌ {A = ℕ} 0 1 = cc in omega arith)) (λ t e. absurd (let z : ◌≡◌ {A = ℕ} 0 1 = cc in omega arith))

  firsts : (k : ℕ) → second_link a b k ≡ None → misfit a b ≡ None → k ≤ a.links
  firsts k e f = ⊎_elim (λ h. absurd (let s : second_link a b k ≡ Some (k - a.links) = cond-false _ None _ (lt-leb k a.links h) ∙ ap (λ o. if_fit o (Some (k - a.links)) None) f in let z : ◌≡◌ {A = ℕ} 0 1 = cc in omega arith)) (λ h. h) (cases_lt a.links k)

  -- a number of the second's where the two fit
  on : (y : ℕ) → misfit a b ≡ None → numbered_on a b y ≡ cond (eqb y 0) 0 (a.links + y)
  on y f = ap (λ o. cond (eqb y 0) 0 (if_fit o (a.links + y) 0)) f

  pub next_in_second : (k j : ℕ) → second_link a b k ≡ Some j → numbered_on a b (next b (end b) j) ≡ next (joined a b) (end (joined a b)) k
  next_in_second k j e =
      let s = seconds k j e in
      on (next b (end b) j) s.0 ∙ (here s.1 s.2 (cases_among j b.links) ∙ sym (ap (λ o. next (if_fit o (both a b) a) (end (if_fit o (both a b) a)) k) s.0))
    where
      here : a.links < k → k ≡ a.links + j → IsLink b j ⊎ (IsLink b j → ⊥) → cond (eqb (next b (end b) j) 0) 0 (a.links + next b (end b) j) ≡ next (both a b) (end (both a b)) k
      here l q (inl i) =
          both_next k (record { low = omega arith; high = omega (arith, i.high) }) (end b j) _ (ap (end (both a b)) q ∙ of_b j i.low)
          (lowest_two a.links b.links (end (both a b)) (end a) (end b) of_a of_b (end b j) k j _ (λ x y z w. omega arith) (λ x y. omega arith) (λ x y z. omega arith) (next_lowest b (end b) j i))
      here l q (inr n) = cond-true _ _ _ (eq-eqb _ 0 (no_next b (end b) j n)) ∙ sym (no_next (both a b) (end (both a b)) k (λ i. n (record { low = omega arith; high = omega (arith, i.high) })))

  pub next_in_first : (k : ℕ) → second_link a b k ≡ None → (next a (end a) k ≡ 0 → ⊥) → next a (end a) k ≡ next (joined a b) (end (joined a b)) k
  next_in_first k s some = go (misfit a b) refl (cases_among k a.links)
    where
      go : (o : Option Misfit) → misfit a b ≡ o → IsLink a k ⊎ (IsLink a k → ⊥) → next a (end a) k ≡ next (if_fit o (both a b) a) (end (if_fit o (both a b) a)) k
      go None e (inl l) =
          both_next k (record { low = l.low; high = omega (arith, l.high) }) (end a k) _ (of_a k l.high)
          (lowest_one a.links b.links (end (both a b)) (end a) (end b) of_a of_b (end a k) k _ (omega arith) (next_lowest a (end a) k l))
      go None e (inr n) = absurd (some (no_next a (end a) k n))
      go (Some m) e l = refl

  pub next_past_first : ((k : ℕ) → IsLink a k → IsPlace a (end a k)) → ((k : ℕ) → (IsLink a k → ⊥) → end a k ≡ 0) → (k : ℕ) → second_link a b k ≡ None → next a (end a) k ≡ 0 → numbered_on a b (first b (end b) (end a k)) ≡ next (joined a b) (end (joined a b)) k
  next_past_first place absent k s none = go (misfit a b) refl (cases_among k a.links)
    where
      y : ℕ
      y = first b (end b) (end a k)

      go : (o : Option Misfit) → misfit a b ≡ o → IsLink a k ⊎ (IsLink a k → ⊥) → cond (eqb y 0) 0 (if_fit o (a.links + y) 0) ≡ next (if_fit o (both a b) a) (end (if_fit o (both a b) a)) k
      go None e (inl l) =
          let h = subst (IsLowest (end a) (end a k) k a.links) none (next_lowest a (end a) k l) in
          both_next k (record { low = l.low; high = omega (arith, l.high) }) (end a k) _ (of_a k l.high)
          (lowest_two a.links b.links (end (both a b)) (end a) (end b) of_a of_b (end a k) k 0 y
          (λ j p q r. let w = h.none_lower j p q (sym (of_a j q) ∙ r) in omega (arith, w))
          (λ j p. omega (arith, l.high))
          (λ j p q. p)
          (first_lowest b (end b) (end a k) (same_place (fits a b e) (end a k) (place k l))))
      go None e (inr n) =
          let kl = firsts k s e in
          let z : y ≡ 0 = ap (first b (end b)) (absent k n) ∙ no_first b (end b) 0 (λ i. omega (arith, i.low)) in
          cond-true _ _ _ (eq-eqb y 0 z) ∙ sym (no_next (both a b) (end (both a b)) k (λ i. n (record { low = i.low; high = kl })))
      go (Some m) e l = cond_both (eqb y 0) 0 0 (λ z. z ≡ 0) (λ _. refl) (λ _. refl) ∙ sym none
