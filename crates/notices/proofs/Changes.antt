-- What is found in a list once one is added, replaced or gone.
use Rattle.std.proofs.Common.{◌≡◌, Bool, true, false, cond, ◌||◌, List, [], ◌∷◌, ◌++◌, Some, None, refl, ◌∙◌, arith}
use Rattle.std.specs.List.{list_any, find}
use Rattle.std.proofs.lemmas.List.Folds.{list_any-append}
use Rattle.notices.specs.Finds.{without, replaced}
use Rattle.notices.specs.Theorems.{NoneTwice}

module _ {X : Type 0} (p : X → Bool) where
  -- a search for what passes finds none where none passes
  pub none_first : (xs : List X) → list_any p xs ≡ false → find p xs ≡ None
  none_first [] e = refl
  none_first (x ∷ xs) e = grind (arith, none_first xs)

  -- what is put in is the first that passes
  pub first_replaced : (y : X) (xs : List X) → p y ≡ true → find p (replaced p y xs) ≡ Some y
  first_replaced y [] e = grind arith
  first_replaced y (x ∷ xs) e = grind (arith, first_replaced y xs e)

  -- a test that fails wherever p passes finds the same as before
  module _ (q : X → Bool) (apart : (x : X) → p x ≡ true → q x ≡ false) where
    pub first_others : (y : X) (xs : List X) → q y ≡ false → find q (replaced p y xs) ≡ find q xs
    first_others y [] e = grind arith
    first_others y (x ∷ xs) e = grind (arith, first_others y xs e, apart x)

    pub first_without : (xs : List X) → find q (without p xs) ≡ find q xs
    first_without [] = refl
    first_without (x ∷ xs) = grind (arith, first_without xs, apart x)

  module _ (q : X → Bool) where
    -- where none passes q, none does once one that fails q is put in, or one is gone
    pub none_replaced : (y : X) (xs : List X) → q y ≡ false → list_any q xs ≡ false → list_any q (replaced p y xs) ≡ false
    none_replaced y [] e n = grind arith
    none_replaced y (x ∷ xs) e n = grind (arith, none_replaced y xs e)

    pub none_without : (xs : List X) → list_any q xs ≡ false → list_any q (without p xs) ≡ false
    none_without [] n = refl
    none_without (x ∷ xs) n = grind (arith, none_without xs)

module _ {X : Type 0} (q : X → Bool) where
  -- one more at the end
  pub any_added : (y : X) (xs : List X) → list_any q (xs ++ y ∷ []) ≡ (list_any q xs || q y)
  any_added y xs = grind (arith, list_any-append q xs (y ∷ []))

  -- one that passes p is gone, and q says of each such what it says of y
  pub any_taken : (p : X → Bool) (y : X) → ((x : X) → p x ≡ true → q x ≡ q y) → (xs : List X) → list_any p xs ≡ true → list_any q xs ≡ (list_any q (without p xs) || q y)
  any_taken p y like [] e = grind arith
  any_taken p y like (x ∷ xs) e = grind (arith, any_taken p y like xs, like x)

module _ {X : Type 0} (alike : X → X → Bool) where
  pub twice_added : ((x y : X) → alike y x ≡ false → alike x y ≡ false) → (y : X) (xs : List X) → list_any (alike y) xs ≡ false → NoneTwice alike xs → NoneTwice alike (xs ++ y ∷ [])
  twice_added flip y [] n o = (refl, tt)
  twice_added flip y (x ∷ xs) n o = (grind (arith, any_added (alike x) y xs, flip x y, o.0), twice_added flip y xs (grind arith) o.1)

  pub twice_taken : (p : X → Bool) (xs : List X) → NoneTwice alike xs → NoneTwice alike (without p xs)
  twice_taken p [] o = tt
  twice_taken p (x ∷ xs) o = go (twice_taken p xs o.1) (p x)
    where
      go : NoneTwice alike (without p xs) → (b : Bool) → NoneTwice alike (cond b xs (x ∷ without p xs))
      go rest true = o.1
      go rest false = (none_without p (alike x) xs o.0, rest)

-- two tests that agree
any_same : {X : Type 0} (p q : X → Bool) → ((x : X) → p x ≡ q x) → (xs : List X) → list_any p xs ≡ list_any q xs
any_same p q e [] = refl
any_same p q e (x ∷ xs) = grind (arith, e x, any_same p q e xs)

-- of a list with no two alike, the one that is taken out was the only one
pub only_taken : {X : Type 0} (alike : X → X → Bool) (p : X → Bool) → ((x y : X) → p x ≡ true → p y ≡ alike x y) → (xs : List X) → NoneTwice alike xs → list_any p (without p xs) ≡ false
only_taken alike p like [] o = refl
only_taken alike p like (x ∷ xs) o = go (only_taken alike p like xs o.1) (p x) refl
  where
    go : list_any p (without p xs) ≡ false → (b : Bool) → p x ≡ b → list_any p (cond b xs (x ∷ without p xs)) ≡ false
    go rest true h = any_same p (alike x) (λ y. like x y h) xs ∙ o.0
    go rest false h = grind (arith, rest)
