-- The turns of a search: how it begins, what taking a place out and relaxing its links keeps, and how it ends.
use Rattle.std.proofs.Common.{◌≡◌, ℕ, zero, suc, ◌+◌, ◌<◌, ◌≤◌, Bool, List, [], Some, None, Option, sym, refl, ◌∙◌, subst, inl, inr, arith}
use Rattle.std.proofs.lemmas.Bool.{cases_eq, cases_Bool}
use Rattle.network.specs.Meaning.{Meaning, IsPlace}
use Rattle.network.specs.Laws.{Laws}
use Rattle.queues.specs.Queue.{Best, Empty, Offered, Removed, lowered}
use Rattle.journeys.specs.Journey.{Journey}
use Rattle.journeys.specs.Journey.Journey.{stay}
use Rattle.journeys.proofs.Rides.{journey_within}
use Rattle.search.specs.Estimate.{Consistent}
use Rattle.search.specs.Labels.{Lowers, Past, Found, Sound, goal_arrival, label}
use Rattle.search.specs.Steps.{Keyed, State, Walk, Settled, rank, total}
use Rattle.search.proofs.Walks.{at_end}
use Rattle.search.proofs.Tables.{some_none}
use Rattle.search.proofs.Complete.{complete}

-- the label of a place says no tick past the last
pub sound_early : {net : Meaning} {s t : ℕ} → Laws net → (cells : List ℕ) → t ≤ net.last → Sound net s t cells → (v : ℕ) → v ≤ net.places → label cells v ≤ suc net.last
sound_early {net} laws cells in_time sound v high = go (label cells v) refl
  where
    go : (l : ℕ) → label cells v ≡ l → l ≤ suc net.last
    go zero e = omega arith
    go (suc a) e = omega (arith, (journey_within net laws (sound v a high e).1 in_time).1)

-- a sum rises nowhere where no part of it does
total_most : (f g : ℕ → ℕ) → ((v : ℕ) → f v ≤ g v) → (n : ℕ) → total f n ≤ total g n
total_most f g m zero = omega arith
total_most f g m (suc n) = omega (arith, m (suc n), total_most f g m n)

-- a sum falls where one part of it falls and none rises
total_less : (f g : ℕ → ℕ) (p : ℕ) → ((v : ℕ) → f v ≤ g v) → f p < g p → (n : ℕ) → 1 ≤ p → p ≤ n → total f n < total g n
total_less f g p m l zero low high = absurd (omega arith)
total_less f g p m l (suc n) low high = elim (cases_eq p (suc n)) [
  | inl e ↦ let here : f (suc n) < g (suc n) = subst (λ z. f z < g z) e l in omega (arith, here, total_most f g m n)
  | inr k ↦ omega (arith, m (suc n), total_less f g p m l n low (omega (arith, k)))
]

module _ {net : Meaning} {h : ℕ → ℕ} {s t : ℕ} where
  -- what a search keeps holds where the start alone is labelled and held
  pub begin_state : {blank cells : List ℕ} {none held : ℕ → Option ℕ} {capacity : ℕ} {r q : Bool} → Laws net → IsPlace net s → net.places ≤ capacity → ((v : ℕ) → v ≤ net.places → label blank v ≡ 0) → Lowers blank cells s t r → Empty none → Offered none held capacity s (t + h s) q → State net h s t 0 0 cells held
  begin_state {cells = cells} {held = held} {r = r} laws place wide wiped lowers empty offered =
      record {
        sound = λ v a m e. elim (cases_eq v s) [
          | inl vs ↦
              let same : t ≡ a = omega (arith, at_s, subst (λ z. label cells z ≡ suc a) vs e) in
              ([], subst (λ z. Journey net s t [] z a) (sym vs) (subst (λ z. Journey net s t [] s z) same stay))
          | inr n ↦ absurd (omega (arith, lowers.others v n, wiped v m, e))
        ];
        began = (omega (arith, at_s), omega (arith, at_s));
        keyed = λ v k e. elim (cases_eq v s) [
          | inl vs ↦
              let at_k : held s ≡ Some k = subst (λ z. held z ≡ Some k) vs e in
              let key : k ≡ t + h s = cc (key_s) in
              subst (λ z. Keyed net h cells z k) (sym vs) (record { place = place; labelled = omega (arith, at_s); sum = omega (arith, at_s, key) })
          | inr n ↦ absurd (some_none e (offered.others v n ∙ empty v))
        ];
        done = λ k a i free e from. elim (cases_eq (net.tail k) s) [
          | inl ks ↦ absurd (some_none key_s (subst (λ z. held z ≡ None) ks free))
          | inr n ↦ absurd (omega (arith, lowers.others (net.tail k) n, wiped (net.tail k) (laws.tail k i).high, e))
        ];
      }
    where
      at_s : label cells s ≡ suc t
      at_s = elim (cases_Bool r) [ inl y ↦ lowers.yes y | inr n ↦ absurd (omega (arith, lowers.low n, wiped s place.high)) ]

      key_s : held s ≡ Some (t + h s)
      key_s = subst (λ o. held s ≡ Some (lowered o (t + h s))) (empty s) (offered.accepted place.low (omega (arith, place.high))).1

  -- a place is taken out of the queue
  module _ {cells : List ℕ} {held held' : ℕ → Option ℕ} {key p : ℕ} (was : State net h s t 0 0 cells held) (out : Removed held held' key p) where
    -- what is held yet was held before
    still_held : (v k : ℕ) → held' v ≡ Some k → held v ≡ Some k
    still_held v k e = elim (cases_eq v p) [
      | inl q ↦ absurd (some_none e (subst (λ z. held' z ≡ None) (sym q) out.gone))
      | inr n ↦ sym (out.others v n) ∙ e
    ]

    -- its links have yet to be relaxed
    taken_state : State net h s t p 1 cells held'
    taken_state =
        record {
          sound = was.sound;
          began = was.began;
          keyed = λ v k e. was.keyed v k (still_held v k e);
          done = λ k a i free e from. elim (cases_eq (net.tail k) p) [
            | inl q ↦ absurd (omega (arith, from q (omega arith), i.low))
            | inr n ↦ was.done k a i (sym (out.others (net.tail k) n) ∙ free) e (λ z. at_end k)
          ];
        }

    -- it counts less
    rank_falls : rank net.last cells held' p < rank net.last cells held p
    rank_falls = rw (out.gone, out.best.there) (omega arith)

    -- no place counts more
    rank_kept : (v : ℕ) → rank net.last cells held' v ≤ rank net.last cells held v
    rank_kept v = elim (cases_eq v p) [
      | inl q ↦ subst (λ z. rank net.last cells held' z ≤ rank net.last cells held z) (sym q) (omega (arith, rank_falls))
      | inr n ↦ rw (out.others v n) (omega arith)
    ]

    -- and its links are relaxed
    module _ {cells' : List ℕ} {held'' : ℕ → Option ℕ} (walk : Walk net h p 0 cells cells' held' held'') where
      -- the measure falls
      pub turn_falls : total (rank net.last cells' held'') net.places < total (rank net.last cells held) net.places
      turn_falls =
          let place = (was.keyed p key out.best.there).place in
          total_less (rank net.last cells' held'') (rank net.last cells held) p
          (λ v. omega (arith, walk.falls v, rank_kept v)) (omega (arith, walk.falls p, rank_falls)) net.places place.low place.high

      -- the turn keeps what a search keeps
      pub turn_state : State net h s t 0 0 cells' held''
      turn_state =
          let now = walk.keeps s t taken_state in
          record { sound = now.sound; began = now.began; keyed = now.keyed; done = λ k a i free e from. now.done k a i free e (λ q. at_end k) }

  -- where the least key is past the bound, each label within the bound is settled
  pub past_settled : {cells : List ℕ} {held : ℕ → Option ℕ} {key p : ℕ} → State net h s t 0 0 cells held → Best held key p → (bound : Option ℕ) → Past bound key → Settled net h bound cells
  past_settled was best None past = absurd past
  past_settled {cells} {held} was best (Some g) past = λ k a i e w. was.done k a i (free (net.tail k) a e w) e (λ q. at_end k)
    where
      free : (u a : ℕ) → label cells u ≡ suc a → a + h u ≤ g → held u ≡ None
      free u a e w = go (held u) refl
        where
          go : (o : Option ℕ) → held u ≡ o → o ≡ None
          go None q = refl
          go (Some x) q = absurd (omega (arith, (was.keyed u x q).sum, best.least u x q, e, past))

  -- where nothing is held, each label is settled
  pub empty_settled : {cells : List ℕ} {held : ℕ → Option ℕ} → State net h s t 0 0 cells held → Empty held → (bound : Option ℕ) → Settled net h bound cells
  empty_settled was none bound = λ k a i e w. was.done k a i (none (net.tail k)) e (λ q. at_end k)

  -- where each label that counts is settled, a search is done
  pub found : {cells : List ℕ} {held : ℕ → Option ℕ} → Laws net → (goal : Option ℕ) → State net h s t 0 0 cells held → Settled net h (goal_arrival cells goal) cells → Consistent net h → Found net h s t goal cells
  found {cells} laws goal was settled even =
      record { sound = was.sound; best = λ v a roads j w. complete net h laws even (goal_arrival cells goal) cells settled j was.began w }
