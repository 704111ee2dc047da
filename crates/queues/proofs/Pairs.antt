-- The pairs of keys and places that a scan of a table goes over, and the least of them.
use Rattle.std.proofs.Common.{◌≡◌, Bool, true, false, cond, ℕ, zero, suc, ◌+◌, ◌<◌, ◌≤◌, ◌⊎◌, List, [], ◌∷◌, get_or, Some, None, Option, sym, refl, ap, ◌∙◌, subst, inl, inr, arith}
use denote.Ref.{Bor}
use denote.Param.Members.{Mut}
use Rattle.std.specs.Bool.{⊤}
use Rattle.std.specs.Fn.{CalledAt}
use Rattle.std.specs.Iterator.{Drains, KeyTurn, PicksMinByKey}
use Rattle.std.proofs.lemmas.Iterator.{YieldsList, items_from_drains}
use Rattle.std.specs.List.{filter_map, cons_option, enumerate_from, fold, reduce, FoldsTo}
use Rattle.std.specs.Prelude.{nat_lt}
use Rattle.std.specs.Ordering.{nat_cmp, ordering_then, min_by_ordering}
use Rattle.std.specs.declared.cmp.Ordering.{Ordering}
use Rattle.std.specs.declared.cmp.Ordering.TheVariants.{Less, Equal, Greater}
use mathlib.Core.List.{map-id}
use Rattle.std.proofs.lemmas.Bool.{cases_order, cases_lt, lt-ltb, ltb-true}
use Rattle.std.proofs.lemmas.Bool.Decides.{nat_tests}
use Rattle.queues.specs.Queue.{BestOf}
use Rattle.queues.specs.Scan.{held_in}

-- the key and the place of entry `at`, if it has a key and the place 32 bits
abbrev pub placed : ℕ → Option ℕ → Option (ℕ × ℕ)
placed at None = None
placed at (Some k) = cond (nat_lt at 4294967295) (Some (k, at + 1)) None

abbrev pub turned : ℕ × Option ℕ → Option (ℕ × ℕ)
turned p = placed p.0 p.1

-- the pairs that the entries make, the first of them entry n
abbrev pub pairs : ℕ → List (Option ℕ) → List (ℕ × ℕ)
pairs n keys = filter_map turned (enumerate_from n keys)

abbrev pub In : List (ℕ × ℕ) → ℕ × ℕ → Type 0
In [] q = ⊥
In (x ∷ xs) q = (x ≡ q) ⊎ In xs q

abbrev From : ℕ → List (Option ℕ) → ℕ × ℕ → Type 0
From n keys q = (i : ℕ) × (n + i < 4294967295) × (q.1 ≡ n + i + 1) × (get_or keys i None ≡ Some q.0)

from_later : (n : ℕ) (key : Option ℕ) (keys : List (Option ℕ)) (q : ℕ × ℕ) → From (n + 1) keys q → From n (key ∷ keys) q
from_later n key keys q (i, l, e, g) = (suc i, omega arith, omega arith, g)

from_here : (n k : ℕ) (keys : List (Option ℕ)) (q : ℕ × ℕ) (b : Bool) → nat_lt n 4294967295 ≡ b → (In (pairs (n + 1) keys) q → From (n + 1) keys q) → In (cons_option (cond b (Some (k, n + 1)) None) (pairs (n + 1) keys)) q → From n (Some k ∷ keys) q
from_here n k keys q true l later (inl e) = (0, let m = ltb-true n 4294967295 l in omega arith, sym (ap (λ (p : ℕ × ℕ). p.1) e) ∙ omega arith, ap (λ (p : ℕ × ℕ). Some p.0) e)
from_here n k keys q true l later (inr h) = from_later n (Some k) keys q (later h)
from_here n k keys q false l later h = from_later n (Some k) keys q (later h)

-- a pair is one of an entry
pub from_pairs : (n : ℕ) (keys : List (Option ℕ)) (q : ℕ × ℕ) → In (pairs n keys) q → (i : ℕ) × (n + i < 4294967295) × (q.1 ≡ n + i + 1) × (get_or keys i None ≡ Some q.0)
from_pairs n [] q h = absurd h
from_pairs n (None ∷ keys) q h = from_later n None keys q (from_pairs (n + 1) keys q h)
from_pairs n (Some k ∷ keys) q h = from_here n k keys q (nat_lt n 4294967295) refl (from_pairs (n + 1) keys q) h

to_here : (n j k : ℕ) (keys : List (Option ℕ)) (i : ℕ) → n + i < 4294967295 → ((m : ℕ) → n + 1 + m < 4294967295 → get_or keys m None ≡ Some k → In (pairs (n + 1) keys) (k, n + 1 + m + 1)) → get_or (Some j ∷ keys) i None ≡ Some k → In ((j, n + 1) ∷ pairs (n + 1) keys) (k, n + i + 1)
to_here n j k keys zero l later e = inl (let q : j ≡ k = cc in let z : n + 1 ≡ n + 0 + 1 = omega arith in cc)
to_here n j k keys (suc i) l later e = inr (subst (λ z. In (pairs (n + 1) keys) (k, z)) (omega arith) (later i (omega arith) e))

-- and each entry with a key and a place makes one
pub to_pairs : (n : ℕ) (keys : List (Option ℕ)) (i k : ℕ) → n + i < 4294967295 → get_or keys i None ≡ Some k → In (pairs n keys) (k, n + i + 1)
to_pairs n [] i k l e = absurd (cc)
to_pairs n (None ∷ keys) zero k l e = absurd (cc)
to_pairs n (None ∷ keys) (suc i) k l e = subst (λ z. In (pairs (n + 1) keys) (k, z)) (omega arith) (to_pairs (n + 1) keys i k (omega arith) e)
to_pairs n (Some j ∷ keys) i k l e = subst (λ b. In (cons_option (cond b (Some (j, n + 1)) None) (pairs (n + 1) keys)) (k, n + i + 1)) (sym (lt-ltb n 4294967295 (omega arith))) (to_here n j k keys i l (λ m. to_pairs (n + 1) keys m k) e)

-- the lesser of two pairs, by the key and then by the place
abbrev pub lesser : ℕ × ℕ → ℕ × ℕ → ℕ × ℕ
lesser p q = min_by_ordering (ordering_then (nat_cmp p.0 q.0) (nat_cmp p.1 q.1)) p q

pub record NotAbove (p q : ℕ × ℕ) : Type 0 where
  pub key : p.0 ≤ q.0
  pub place : q.0 ≡ p.0 → p.1 ≤ q.1

lesser_cases : (p q : ℕ × ℕ) → ((lesser p q ≡ p) × NotAbove p q) ⊎ ((lesser p q ≡ q) × NotAbove q p)
lesser_cases p q = elim (cases_order p.0 q.0) [
  | inl e ↦ elim (cases_lt q.1 p.1) [
    | inl l ↦ inr (grind (arith, nat_tests), record { key = omega arith; place = λ _. omega arith })
    | inr l ↦ inl (grind (arith, nat_tests), record { key = omega arith; place = λ _. omega arith })
  ]
  | inr (inl l) ↦ inl (grind (arith, nat_tests), record { key = omega arith; place = λ e. absurd (omega arith) })
  | inr (inr l) ↦ inr (grind (arith, nat_tests), record { key = omega arith; place = λ e. absurd (omega arith) })
]

not_above_both : (p q r : ℕ × ℕ) → NotAbove p q → NotAbove q r → NotAbove p r
not_above_both p q r a b = record { key = omega (arith, a.key, b.key); place = λ e. let f : q.0 ≡ p.0 = omega (arith, a.key, b.key) in omega (arith, a.place f, b.place (omega arith)) }

pub least_in : (x : ℕ × ℕ) (xs : List (ℕ × ℕ)) → In (x ∷ xs) (fold lesser x xs)
least_in x [] = inl refl
least_in x (y ∷ xs) = elim (least_in (lesser x y) xs) [
  | inr h ↦ inr (inr h)
  | inl e ↦ elim (lesser_cases x y) [ inl (f, _) ↦ inl (sym f ∙ e) | inr (f, _) ↦ inr (inl (sym f ∙ e)) ]
]

pub least_of : (x : ℕ × ℕ) (xs : List (ℕ × ℕ)) (q : ℕ × ℕ) → In (x ∷ xs) q → NotAbove (fold lesser x xs) q
least_of x [] q (inl e) = subst (NotAbove x) e (record { key = omega arith; place = λ _. omega arith })
least_of x [] q (inr h) = absurd h
least_of x (y ∷ xs) q h =
    let m = fold lesser (lesser x y) xs in
    let first : NotAbove m (lesser x y) = least_of (lesser x y) xs (lesser x y) (inl refl) in
    elim h [
      | inl e ↦ subst (NotAbove m) e (elim (lesser_cases x y) [ inl (f, _) ↦ subst (NotAbove m) f first | inr (f, a) ↦ not_above_both m y x (subst (NotAbove m) f first) a ])
      | inr (inl e) ↦ subst (NotAbove m) e (elim (lesser_cases x y) [ inl (f, a) ↦ not_above_both m x y (subst (NotAbove m) f first) a | inr (f, _) ↦ subst (NotAbove m) f first ])
      | inr (inr g) ↦ least_of (lesser x y) xs q (inr g)
    ]

-- the lesser of two pairs by the key alone, the first of them where the keys are equal
abbrev pub lesser_key : ℕ × ℕ → ℕ × ℕ → ℕ × ℕ
lesser_key p q = min_by_ordering (nat_cmp p.0 q.0) p q

-- the places rise, from one at or above n on
abbrev pub Rising : ℕ → List (ℕ × ℕ) → Type 0
Rising n [] = ⊤
Rising n (q ∷ qs) = (n ≤ q.1) × Rising (q.1 + 1) qs

rising_later : (n : ℕ) (qs : List (ℕ × ℕ)) → Rising (n + 1) qs → Rising n qs
rising_later n [] h = tt
rising_later n (q ∷ qs) h = (omega (arith, h.0), h.1)

rising_here : (n k : ℕ) (keys : List (Option ℕ)) (b : Bool) → Rising (n + 1 + 1) (pairs (n + 1) keys) → Rising (n + 1) (cons_option (cond b (Some (k, n + 1)) None) (pairs (n + 1) keys))
rising_here n k keys true later = (omega arith, later)
rising_here n k keys false later = rising_later (n + 1) _ later

pub rising_pairs : (n : ℕ) (keys : List (Option ℕ)) → Rising (n + 1) (pairs n keys)
rising_pairs n [] = tt
rising_pairs n (None ∷ keys) = rising_later (n + 1) _ (rising_pairs (n + 1) keys)
rising_pairs n (Some k ∷ keys) = rising_here n k keys (nat_lt n 4294967295) (rising_pairs (n + 1) keys)

-- of a pair and one of a higher place, the key alone gives the lesser
key_decides : (p q : ℕ × ℕ) → p.1 < q.1 → (lesser_key p q ≡ lesser p q) × ((lesser p q).1 ≤ q.1)
key_decides p q l = elim (cases_order p.0 q.0) [
  | inl e ↦ (grind (arith, nat_tests), grind (arith, nat_tests))
  | inr (inl e) ↦ (grind (arith, nat_tests), grind (arith, nat_tests))
  | inr (inr e) ↦ (grind (arith, nat_tests), grind (arith, nat_tests))
]

keys_decide : (n : ℕ) (x : ℕ × ℕ) (xs : List (ℕ × ℕ)) → x.1 < n → Rising n xs → fold lesser_key x xs ≡ fold lesser x xs
keys_decide n x [] l h = refl
keys_decide n x (y ∷ ys) l h =
    let (same, low) = key_decides x y (omega (arith, h.0)) in
    ap (λ z. fold lesser_key z ys) same ∙ keys_decide (y.1 + 1) (lesser x y) ys (omega arith) h.1

same_pick : (o : Ordering) (p q : ℕ × ℕ) → min_by_ordering o p.0 q.0 ≡ (min_by_ordering o p q).0
same_pick Less p q = refl
same_pick Equal p q = refl
same_pick Greater p q = refl

-- `min_by_key`, by a value that reads the key of a pair, gives the least of pairs whose places rise
module _ {F : Type 0} (g : Mut F (Bor (ℕ × ℕ) × Unit {0}) ℕ) (reads : (f : F) (x : ℕ × ℕ) (k : ℕ) (f' : F) → CalledAt g f x k f' → k ≡ x.0) where
  turns : (f : F) (k : ℕ) (x : ℕ × ℕ) (xs : List (ℕ × ℕ)) (q : F × ℕ) (y : ℕ × ℕ) → k ≡ x.0 → FoldsTo {P = (F × ℕ) × (ℕ × ℕ)} (KeyTurn min_by_ordering min_by_ordering g nat_cmp) ((f, k), x) xs (q, y) → y ≡ fold lesser_key x xs
  turns f k x [] q y e h = sym (ap (λ (p : (F × ℕ) × (ℕ × ℕ)). p.1) h)
  turns f k x (z ∷ zs) q y e h =
      let next = h.0 in
      let (j, o, called, compared, key, best) = h.1 in
      let read : j ≡ z.0 = reads f z j _ called in
      let ordered : o ≡ nat_cmp x.0 z.0 = subst (λ a. o ≡ nat_cmp x.0 a) read (subst (λ a. o ≡ nat_cmp a j) e (sym compared)) in
      let kept : next.0.1 ≡ next.1.0 = key ∙ subst (λ a. min_by_ordering o a j ≡ (min_by_ordering o x z).0) (sym e) (subst (λ a. min_by_ordering o x.0 a ≡ (min_by_ordering o x z).0) (sym read) (same_pick o x z)) ∙ sym (ap (λ (p : ℕ × ℕ). p.0) best) in
      turns next.0.0 next.0.1 next.1 zs q y kept h.2 ∙ ap (λ a. fold lesser_key a zs) (best ∙ ap (λ a. min_by_ordering a x z) ordered)

  listed : {S : Type 0} {steps : S → Option (ℕ × ℕ) → S → Type 0} (xs all : List (ℕ × ℕ)) (s : S) → Drains steps s xs → YieldsList steps (λ x. x) s all → xs ≡ all
  listed xs all s d e = sym (map-id xs) ∙ items_from_drains xs (d.1.0, d.1.1, λ _. (d.0, d.1.2)) e

  pub least_by_key : {S : Type 0} {steps : S → Option (ℕ × ℕ) → S → Type 0} (n : ℕ) (all : List (ℕ × ℕ)) (f : F) (s : S) (r : Option (ℕ × ℕ)) → Rising n all → PicksMinByKey steps g nat_cmp s f r → YieldsList steps (λ x. x) s all → r ≡ reduce lesser all
  least_by_key n all f s None rise h e = ap (reduce lesser) (listed [] all s h e)
  least_by_key n all f s (Some y) rise h e =
      let (x, xs, k, f', q, drains, called, folds) = h in
      let is = listed (x ∷ xs) all s drains e in
      let up : Rising n (x ∷ xs) = subst (Rising n) (sym is) rise in
      ap Some (turns f' k x xs q y (reads f x k f' called) folds ∙ keys_decide (x.1 + 1) x xs (omega arith) up.1) ∙ ap (reduce lesser) is

-- the least of all pairs, or none, is the best
pub least_best : (keys : List (Option ℕ)) (r : Option (ℕ × ℕ)) → r ≡ reduce lesser (pairs 0 keys) → BestOf (held_in keys) r
least_best keys r is = subst (BestOf (held_in keys)) (sym is) (go (pairs 0 keys) (λ q h. let (i, l, a, g) = from_pairs 0 keys q h in held q.0 q.1 i l a g) (λ k v h. let (i, l, a, g) = entry k v h in subst (λ z. In (pairs 0 keys) (k, z)) (sym a) (to_pairs 0 keys i k l g)))
  where
    held : (k v i : ℕ) → 0 + i < 4294967295 → v ≡ 0 + i + 1 → get_or keys i None ≡ Some k → held_in keys v ≡ Some k
    held k zero i l a g = absurd (omega arith)
    held k (suc j) i l a g = let q : j ≡ i = omega arith in rw q (grind (arith, nat_tests))

    entry : (k v : ℕ) → held_in keys v ≡ Some k → (i : ℕ) × (0 + i < 4294967295) × (v ≡ 0 + i + 1) × (get_or keys i None ≡ Some k)
    entry k zero h = absurd (cc)
    entry k (suc i) h = (i, grind (arith, nat_tests), omega arith, grind (arith, nat_tests))

    go : (all : List (ℕ × ℕ)) → ((q : ℕ × ℕ) → In all q → held_in keys q.1 ≡ Some q.0) → ((k v : ℕ) → held_in keys v ≡ Some k → In all (k, v)) → BestOf (held_in keys) (reduce lesser all)
    go [] from to = λ v. none (held_in keys v) (λ k h. to k v h)
      where
        none : (o : Option ℕ) → ((k : ℕ) → o ≡ Some k → ⊥) → o ≡ None
        none None f = refl
        none (Some k) f = absurd (f k refl)
    go (x ∷ xs) from to =
        record {
          there = from (fold lesser x xs) (least_in x xs);
          least = λ v k h. (least_of x xs (k, v) (to k v h)).key;
          lowest = λ v h. (least_of x xs (_, v) (to _ v h)).place refl;
        }
