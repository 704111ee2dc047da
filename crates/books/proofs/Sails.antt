-- The sailings that are looked through, as lists.
use Rattle.std.proofs.Common.{◌≡◌, ℕ, min, max, leb, Bool, true, false, cond, List, [], ◌∷◌, map, filter, fold, Some, None, Option, sym, refl, ap, ◌∙◌, arith}
use denote.Param.Members.{Mut}
use mathlib.Core.List.{map-id}
use Rattle.std.specs.Fn.{Called}
use Rattle.std.specs.Iterator.{Drains, FoldTurn, ReducesItems}
use Rattle.std.specs.List.{FoldsTo, reduce}
use Rattle.std.proofs.lemmas.Iterator.{YieldsList, items_from_drains}
use Rattle.records.specs.declared.layout.Point.{Point}
use Rattle.records.specs.Contents.{unnumbered}
use Rattle.books.specs.Ticks.{picked}
use Rattle.books.specs.Sailings.{if_departs, sailing, if_arrives, sailing_back}

module _ (pick : ℕ → ℕ → ℕ) (assoc : (a b c : ℕ) → pick (pick a b) c ≡ pick a (pick b c)) where
  fold_more : (a b : ℕ) (xs : List ℕ) → fold pick (pick a b) xs ≡ pick a (fold pick b xs)
  fold_more a b [] = refl
  fold_more a b (x ∷ xs) = ap (λ c. fold pick c xs) (assoc a b x) ∙ fold_more a (pick b x) xs

  reduce_more : (a : ℕ) (xs : List ℕ) → reduce pick (a ∷ xs) ≡ picked pick (Some a) (reduce pick xs)
  reduce_more a [] = refl
  reduce_more a (x ∷ xs) = ap (λ (n : ℕ). Some n) (fold_more a x xs)

  -- one more, if it passes
  reduce_if : {X : Type 0} (f : X → ℕ) (x : X) (xs : List X) (passes : Bool) → reduce pick (map f (cond passes (x ∷ xs) xs)) ≡ picked pick (cond passes (Some (f x)) None) (reduce pick (map f xs))
  reduce_if f x xs true = reduce_more (f x) (map f xs)
  reduce_if f x xs false = refl

-- those that depart at t or later, by their arrivals
pub least : (t : ℕ) (xs : List (ℕ × Point)) → reduce min (map (λ (x : ℕ × Point). x.1.arrival) (filter (λ (x : ℕ × Point). leb t x.1.departure) xs)) ≡ sailing (unnumbered xs) t
least t [] = refl
least t (x ∷ xs) = reduce_if min (λ a b c. omega arith) (λ (x : ℕ × Point). x.1.arrival) x (filter (λ (x : ℕ × Point). leb t x.1.departure) xs) (leb t x.1.departure) ∙ ap (picked min (if_departs t x.1)) (least t xs)

-- those that arrive by a, by their departures
pub latest : (a : ℕ) (xs : List (ℕ × Point)) → reduce max (map (λ (x : ℕ × Point). x.1.departure) (filter (λ (x : ℕ × Point). leb x.1.arrival a) xs)) ≡ sailing_back (unnumbered xs) a
latest a [] = refl
latest a (x ∷ xs) = reduce_if max (λ a b c. omega arith) (λ (x : ℕ × Point). x.1.departure) x (filter (λ (x : ℕ × Point). leb x.1.arrival a) xs) (leb x.1.arrival a) ∙ ap (picked max (if_arrives a x.1)) (latest a xs)

-- what `reduce` gives, by a value that is called at two numbers and answers the lesser
module _ {F : Type 0} (g : Mut F (ℕ × (ℕ × Unit {0})) ℕ) (lesser : (f : F) (x z k : ℕ) (f' : F) → Called g f (x, (z, tt)) k f' → k ≡ min x z) where
  turns : (f : F) (x : ℕ) (xs : List ℕ) (f' : F) (y : ℕ) → FoldsTo {P = F × ℕ} (FoldTurn g) (f, x) xs (f', y) → y ≡ fold min x xs
  turns f x [] f' y h = sym (ap (λ (p : F × ℕ). p.1) h)
  turns f x (z ∷ zs) f' y h = turns h.0.0 h.0.1 zs f' y h.2 ∙ ap (λ a. fold min a zs) (lesser f x z h.0.1 h.0.0 h.1)

  listed : {S : Type 0} {steps : S → Option ℕ → S → Type 0} (xs all : List ℕ) (s : S) → Drains steps s xs → YieldsList steps (λ x. x) s all → xs ≡ all
  listed xs all s d e = sym (map-id xs) ∙ items_from_drains xs (d.1.0, d.1.1, λ _. (d.0, d.1.2)) e

  pub least_reduced : {S : Type 0} {steps : S → Option ℕ → S → Type 0} (all : List ℕ) (f : F) (s : S) (r : Option ℕ) → ReducesItems steps g s f r → YieldsList steps (λ x. x) s all → r ≡ reduce min all
  least_reduced all f s None h e = ap (reduce min) (listed [] all s h e)
  least_reduced all f s (Some y) h e =
      let (x, xs, f', drains, folds) = h in
      ap Some (turns f x xs f' y folds) ∙ ap (reduce min) (listed (x ∷ xs) all s drains e)
