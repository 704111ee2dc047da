-- Lawful networks of one meaning are equal.
use Rattle.std.proofs.Common.{◌≡◌, ℕ, ◌<◌, sym, ◌∙◌, subst, ⊎_elim}
use Rattle.std.proofs.lemmas.Bool.{cases_lt}
use Rattle.network.specs.Meaning.{Meaning, Among, IsLink}
use Rattle.network.specs.Laws.{Laws}
use Rattle.network.specs.Same.{SameMeaning}
use Rattle.network.proofs.Ranges.{cases_among}

module _ (a b : Meaning) (la : Laws a) (lb : Laws b) (same : SameMeaning a b) where
  absent : (k : ℕ) → (IsLink a k → ⊥) → IsLink b k → ⊥
  absent k n l = n (subst (Among k) (sym same.links) l)

  -- an answer that agrees for each link, and is fixed where there is none
  each : {X : Type 0} (f g : ℕ → X) (none : X) → ((k : ℕ) → IsLink a k → f k ≡ g k) → ((k : ℕ) → (IsLink a k → ⊥) → f k ≡ none) → ((k : ℕ) → (IsLink b k → ⊥) → g k ≡ none) → (k : ℕ) → f k ≡ g k
  each f g none there gone_a gone-b k = ⊎_elim (there k) (λ n. gone_a k n ∙ sym (gone-b k (absent k n))) (cases_among k a.links)

  tails : (k : ℕ) → a.tail k ≡ b.tail k
  tails = each a.tail b.tail 0 same.tail (λ k n. (la.no_link k n).tail) (λ k n. (lb.no_link k n).tail)

  heads : (k : ℕ) → a.head k ≡ b.head k
  heads = each a.head b.head 0 same.head (λ k n. (la.no_link k n).head) (λ k n. (lb.no_link k n).head)

  floors : (k : ℕ) → a.floor k ≡ b.floor k
  floors = each a.floor b.floor 0 same.floor (λ k n. (la.no_link k n).floor) (λ k n. (lb.no_link k n).floor)

  arrivals : (k t : ℕ) → a.arrival k t ≡ b.arrival k t
  arrivals k t =
      ⊎_elim
      (λ h. la.no_tick k t h ∙ sym (lb.no_tick k t (subst (λ last. last < t) same.last h)))
      (λ h. ⊎_elim (λ l. same.arrival k t l h) (λ n. (la.no_link k n).arrival t ∙ sym ((lb.no_link k (absent k n)).arrival t)) (cases_among k a.links))
      (cases_lt a.last t)

  pub same_one : a ≡ b
  same_one i = record {
    places = same.places i;
    links = same.links i;
    last = same.last i;
    tail = λ k. tails k i;
    head = λ k. heads k i;
    floor = λ k. floors k i;
    arrival = λ k t. arrivals k t i;
  }
