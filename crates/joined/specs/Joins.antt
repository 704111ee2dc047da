-- Two networks joined keep the laws.
use Rattle.std.specs.Prelude.{◌≡◌, ℕ, ◌+◌, ◌-◌, ◌<◌, ◌≤◌, Bool, cond, ◌&&◌, Some, None, Option, ◌==◌, nat_le, refl}
use Rattle.std.proofs.Common.{sym, ap, subst, subst₂, ◌∙◌, ⊎_elim, arith}
use Rattle.std.proofs.lemmas.Bool.{cases_lt, le-leb, lt-leb, leb-true, eqb-true, and_parts, cond_both, cond-true, cond-false}
use Rattle.network.specs.Meaning.{Meaning, Among, IsPlace, IsLink}
use Rattle.network.specs.Laws.{Laws, NoLater, Between}
use Rattle.refusals.specs.declared.joining.Misfit.{Misfit}
use Rattle.refusals.specs.declared.joining.Misfit.TheVariants.{Unequal, TooManyLinks}
use Rattle.joined.specs.Joined.{misfit, by_link, both, if_fit, joined}

-- what fitting says
pub record Fits (a b : Meaning) : Type 0 where
  pub places : a.places ≡ b.places
  pub last : a.last ≡ b.last
  pub links : a.links + b.links ≤ 8192

pub fits : (a b : Meaning) → misfit a b ≡ None → Fits a b
fits a b =
    cond_both same (cond few None (Some TooManyLinks)) (Some Unequal) (λ o. o ≡ None → Fits a b)
    (λ t.
    cond_both few None (Some TooManyLinks) (λ o. o ≡ None → Fits a b)
    (λ u e. let p = and_parts _ _ t in record { places = eqb-true _ _ p.0; last = eqb-true _ _ p.1; links = leb-true _ _ u })
    (λ u e. absurd (let z : ◌≡◌ {A = ℕ} 0 1 = cc in omega arith)))
    (λ t e. absurd (let z : ◌≡◌ {A = ℕ} 0 1 = cc in omega arith))
  where
    same : Bool
    same = a.places == b.places && a.last == b.last

    few : Bool
    few = nat_le (a.links + b.links) 8192

-- what the two say of a link, where they fit
module _ {X : Type 0} (a : Meaning) (f g : ℕ → X) where
  pub low : (k : ℕ) → k ≤ a.links → by_link a f g k ≡ f k
  low k h = cond-true _ _ _ (le-leb k a.links h)

  pub high : (k : ℕ) → a.links < k → by_link a f g k ≡ g (k - a.links)
  high k h = cond-false _ _ _ (lt-leb k a.links h)

  -- a fact of each link of the two
  each : (b : Meaning) (P : ℕ → X → Type 0) → ((k : ℕ) → IsLink a k → P k (f k)) → ((k j : ℕ) → IsLink b j → P k (g j)) → (k : ℕ) → IsLink (both a b) k → P k (by_link a f g k)
  each b P one two k l =
      ⊎_elim
      (λ h. subst (P k) (sym (high k h)) (two k (k - a.links) (record { low = omega arith; high = omega (arith, l.high) })))
      (λ h. subst (P k) (sym (low k h)) (one k (record { low = l.low; high = h })))
      (cases_lt a.links k)

  -- and of what isn't one
  neither : (b : Meaning) (P : X → Type 0) → ((k : ℕ) → (IsLink a k → ⊥) → P (f k)) → ((k : ℕ) → (IsLink b k → ⊥) → P (g k)) → (k : ℕ) → (IsLink (both a b) k → ⊥) → P (by_link a f g k)
  neither b P one two k n =
      ⊎_elim
      (λ h. subst P (sym (high k h)) (two (k - a.links) (λ l. n (record { low = omega arith; high = omega (arith, l.high) }))))
      (λ h. subst P (sym (low k h)) (one k (λ l. n (record { low = l.low; high = omega (arith, l.high) }))))
      (cases_lt a.links k)

module _ (a b : Meaning) (la : Laws a) (lb : Laws b) (f : Fits a b) where
  both_between : (k t : ℕ) → IsLink (both a b) k → t ≤ a.last → Between (t + (both a b).floor k) a.last ((both a b).arrival k t)
  both_between k t l tl =
      ⊎_elim
      (λ h.
      let j : IsLink b (k - a.links) = record { low = omega arith; high = omega (arith, l.high) } in
      subst₂ (λ floor (arrival : ℕ → Option ℕ). Between (t + floor) a.last (arrival t)) (sym (high a a.floor b.floor k h)) (sym (high a a.arrival b.arrival k h))
      (subst (λ last. t ≤ last → Between (t + b.floor (k - a.links)) last (b.arrival (k - a.links) t)) (sym f.last) (lb.arrival (k - a.links) t j) tl))
      (λ h. subst₂ (λ floor (arrival : ℕ → Option ℕ). Between (t + floor) a.last (arrival t)) (sym (low a a.floor b.floor k h)) (sym (low a a.arrival b.arrival k h)) (la.arrival k t (record { low = l.low; high = h }) tl))
      (cases_lt a.links k)

  both_no_tick : (k t : ℕ) → a.last < t → (both a b).arrival k t ≡ None
  both_no_tick k t h =
      ⊎_elim
      (λ l. ap (λ (arrival : ℕ → Option ℕ). arrival t) (high a a.arrival b.arrival k l) ∙ lb.no_tick (k - a.links) t (subst (λ last. last < t) f.last h))
      (λ l. ap (λ (arrival : ℕ → Option ℕ). arrival t) (low a a.arrival b.arrival k l) ∙ la.no_tick k t h)
      (cases_lt a.links k)

  both_laws : Laws (both a b)
  both_laws = record {
    places = la.places;
    links = f.links;
    last = la.last;
    tail = each a a.tail b.tail b (λ k v. IsPlace a v) la.tail (λ k j l. subst (Among (b.tail j)) (sym f.places) (lb.tail j l));
    head = each a a.head b.head b (λ k v. IsPlace a v) la.head (λ k j l. subst (Among (b.head j)) (sym f.places) (lb.head j l));
    floor = each a a.floor b.floor b (λ k v. Among v a.last) la.floor (λ k j l. subst (Among (b.floor j)) (sym f.last) (lb.floor j l));
    arrival = both_between;
    fifo = λ k s t l st tl. each a a.arrival b.arrival b (λ k arrival. NoLater (arrival s) (arrival t)) (λ k l. la.fifo k s t l st tl) (λ k j l. lb.fifo j s t l st (subst (λ z. t ≤ z) f.last tl)) k l;
    no_link = λ k n. record {
      tail = neither a a.tail b.tail b (λ v. v ≡ 0) (λ k n. (la.no_link k n).tail) (λ k n. (lb.no_link k n).tail) k n;
      head = neither a a.head b.head b (λ v. v ≡ 0) (λ k n. (la.no_link k n).head) (λ k n. (lb.no_link k n).head) k n;
      floor = neither a a.floor b.floor b (λ v. v ≡ 0) (λ k n. (la.no_link k n).floor) (λ k n. (lb.no_link k n).floor) k n;
      arrival = λ t. neither a a.arrival b.arrival b (λ arrival. arrival t ≡ None) (λ k n. (la.no_link k n).arrival t) (λ k n. (lb.no_link k n).arrival t) k n;
    };
    no_tick = both_no_tick;
  }

pub joined_laws : (a b : Meaning) → Laws a → Laws b → Laws (joined a b)
joined_laws a b la lb = go (misfit a b) refl
  where
    go : (o : Option Misfit) → misfit a b ≡ o → Laws (if_fit o (both a b) a)
    go None e = both_laws a b la lb (fits a b e)
    go (Some m) e = la
