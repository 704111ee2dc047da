-- The lowest link with a given end.
use Rattle.std.proofs.Common.{◌≡◌, ℕ, zero, suc, ◌+◌, ◌-◌, ◌<◌, ◌≤◌, eqb, sym, ap, ◌∙◌, subst, ⊎_elim, arith}
use Rattle.std.proofs.lemmas.Bool.{cases_eq, cases_lt, eqb-true, eqb-false, cond_both, cond-true, cond-false}
use Rattle.network.specs.Meaning.{Meaning, IsPlace, IsLink}
use Rattle.network.specs.Links.{lowest, first, next, IsLowest}
use Rattle.network.proofs.Ranges.{true_among, false_among, cases_among}

module _ (end : ℕ → ℕ) (v : ℕ) where
  scanned : (after count : ℕ) → IsLowest end v after (after + count) (lowest end v after count)
  scanned after zero = record { found = λ l. absurd (omega arith); none_lower = λ j l m e. absurd (omega arith) }
  scanned after (suc count) =
      cond_both (eqb (end (suc after)) v) (suc after) (lowest end v (suc after) count) (IsLowest end v after (after + suc count))
      (λ t. record { found = λ l. (omega arith, omega arith, eqb-true _ _ t); none_lower = λ j l m e. (omega arith, l) })
      (λ t.
      let s = scanned (suc after) count in
      record {
        found = λ l. let f = s.found l in (omega (arith, f.0), omega (arith, f.1), f.2);
        none_lower = λ j l m e. ⊎_elim (λ q. absurd (eqb-false _ _ t (ap end (sym q) ∙ e))) (λ q. s.none_lower j (omega arith) (omega arith) e) (cases_eq j (suc after));
      })

  pub lowest_found : (after n : ℕ) → IsLowest end v after n (lowest end v after (n - after))
  lowest_found after n =
      let s = scanned after (n - after) in
      record {
        found = λ l. let f = s.found l in (f.0, short f.0 f.1, f.2);
        none_lower = λ j l m e. s.none_lower j l (omega arith) e;
      }
    where
      short : {k : ℕ} → after < k → k ≤ after + (n - after) → k ≤ n
      short l m = omega arith

-- there is one lowest link
pub one_lowest : (end : ℕ → ℕ) (v after n k j : ℕ) → IsLowest end v after n k → IsLowest end v after n j → k ≡ j
one_lowest end v after n k j g h = ⊎_elim (λ z. ⊎_elim (λ y. omega arith) (λ y. absurd (let b = below j k h g y in omega (arith, b))) (cases_lt j 1)) (λ z. let b = below k j g h z in let c = below j k h g (omega (arith, b)) in omega (arith, b, c)) (cases_lt k 1)
  where
    below : (k j : ℕ) → IsLowest end v after n k → IsLowest end v after n j → 1 ≤ k → (1 ≤ j) × (j ≤ k)
    below k j g h l = let f = g.found l in h.none_lower k f.0 f.1 f.2

-- the first link of a place, and the next one after a link, are lowest links
module _ (net : Meaning) (end : ℕ → ℕ) where
  pub first_lowest : (v : ℕ) → IsPlace net v → IsLowest end v 0 net.links (first net end v)
  first_lowest v l = let e : net.links - 0 ≡ net.links = omega arith in subst (IsLowest end v 0 net.links) (ap (lowest end v 0) e ∙ sym (cond-true _ _ _ (true_among v _ l))) (lowest_found end v 0 net.links)

  pub next_lowest : (k : ℕ) → IsLink net k → IsLowest end (end k) k net.links (next net end k)
  next_lowest k l = subst (IsLowest end (end k) k net.links) (sym (cond-true _ _ _ (true_among k _ l))) (lowest_found end (end k) k net.links)

  pub no_first : (v : ℕ) → (IsPlace net v → ⊥) → first net end v ≡ 0
  no_first v n = cond-false _ _ _ (false_among v _ n)

  pub no_next : (k : ℕ) → (IsLink net k → ⊥) → next net end k ≡ 0
  no_next k n = cond-false _ _ _ (false_among k _ n)

  high : (v after k : ℕ) → IsLowest end v after net.links k → k ≤ net.links
  high v after k h = ⊎_elim (λ z. omega arith) (λ z. (h.found z).1) (cases_lt k 1)

  pub first_high : (v : ℕ) → first net end v ≤ net.links
  first_high v = ⊎_elim (λ l. high v 0 _ (first_lowest v l)) (λ n. omega (arith, no_first v n)) (cases_among v net.places)

  pub next_high : (k : ℕ) → next net end k ≤ net.links
  next_high k = ⊎_elim (λ l. high (end k) k _ (next_lowest k l)) (λ n. omega (arith, no_next k n)) (cases_among k net.links)
