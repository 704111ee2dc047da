-- What a search for the first that passes a test has found.
use Rattle.std.proofs.Common.{◌≡◌, ℕ, suc, ◌+◌, ◌<◌, ◌≤◌, Bool, true, false, cond, not, List, [], ◌∷◌, ◌++◌, length, take, drop, set, Some, None, nat_lt, position, sym, refl, ap, ap₂, ◌∙◌, arith}
use Rattle.std.specs.List.{list_any, find, remove, position_or_len, refill}
use Rattle.std.proofs.lemmas.Bool.{or_left, or_right, lt-ltb, le-ltb}
use Rattle.std.proofs.lemmas.List.{set_split, take_all, drop_all}
use Rattle.std.proofs.lemmas.Grind.{common_steps}
use Rattle.refusals.specs.declared.notice.NoticeRefusal.TheVariants.{NotStanding}
use Rattle.notices.specs.Finds.{without, replaced}
use Rattle.notices.specs.Refusals.{take_refusal, take_after}

-- the first that passes stands at i
pub record FirstAt {X : Type 0} (p : X → Bool) (xs : List X) (i : ℕ) : Type 0 where
  pub some : list_any p xs ≡ true
  pub off : without p xs ≡ remove xs i
  pub put : (y : X) → replaced p y xs ≡ set xs i y

-- none passes
pub record NoneOf {X : Type 0} (p : X → Bool) (xs : List X) : Type 0 where
  pub none : list_any p xs ≡ false
  pub put : (y : X) → replaced p y xs ≡ xs ++ y ∷ []

module _ {X : Type 0} (p : X → Bool) where
  list_any-position : (xs : List X) → list_any p xs ≡ nat_lt (position_or_len p xs) (length xs)
  list_any-position [] = refl
  list_any-position (x ∷ xs) = grind (arith, list_any-position xs)

  without-position : (xs : List X) → without p xs ≡ remove xs (position_or_len p xs)
  without-position [] = refl
  without-position (x ∷ xs) = step (p x) (position_or_len p xs) (without-position xs)
    where
      step : (found : Bool) (n : ℕ) → without p xs ≡ remove xs n → cond found xs (x ∷ without p xs) ≡ remove (x ∷ xs) (cond (not found) (1 + n) 0)
      step true n e = refl
      step false n e = let z : suc n ≡ 1 + n = omega arith in ap (λ ys. x ∷ ys) e ∙ ap (remove (x ∷ xs)) z

  replaced-position : (y : X) (xs : List X) → replaced p y xs ≡ take (position_or_len p xs) xs ++ y ∷ drop (suc (position_or_len p xs)) xs
  replaced-position y [] = refl
  replaced-position y (x ∷ xs) = step (p x) (position_or_len p xs) (replaced-position y xs)
    where
      step : (found : Bool) (n : ℕ) → replaced p y xs ≡ take n xs ++ y ∷ drop (suc n) xs → cond found (y ∷ xs) (x ∷ replaced p y xs) ≡ take (cond (not found) (1 + n) 0) (x ∷ xs) ++ y ∷ drop (suc (cond (not found) (1 + n) 0)) (x ∷ xs)
      step true n e = refl
      step false n e = let z : suc n ≡ 1 + n = omega arith in ap (λ ys. x ∷ ys) e ∙ ap (λ m. take m (x ∷ xs) ++ y ∷ drop (suc m) (x ∷ xs)) z

  -- the first that passes does, and is one of the list
  pub find-Some : (xs : List X) (x : X) → Some x ≡ find p xs → (p x ≡ true) × ((q : X → Bool) → q x ≡ true → list_any q xs ≡ true)
  find-Some [] x e = absurd (let z : ◌≡◌ {A = ℕ} 0 1 = cc in omega arith)
  find-Some (y ∷ ys) x e = go (find-Some ys x) (p y) refl e
    where
      go : (Some x ≡ find p ys → (p x ≡ true) × ((q : X → Bool) → q x ≡ true → list_any q ys ≡ true)) → (b : Bool) → p y ≡ b → Some x ≡ cond b (Some y) (find p ys) → (p x ≡ true) × ((q : X → Bool) → q x ≡ true → list_any q (y ∷ ys) ≡ true)
      go rest true h f = let s : x ≡ y = cc in (ap p s ∙ h, λ q t. or_left (q y) (list_any q ys) (ap q (sym s) ∙ t))
      go rest false h f = let r = rest f in (r.0, λ q t. or_right (q y) (list_any q ys) (r.1 q t))

  pub find-None : (xs : List X) → None ≡ find p xs → list_any p xs ≡ false
  find-None [] e = refl
  find-None (y ∷ ys) e = grind (arith, find-None ys)

  found : (xs : List X) (i : ℕ) → Some i ≡ position p xs → (i ≡ position_or_len p xs) × (i < length xs)
  found xs i e = grind (arith, common_steps)

  missed : (xs : List X) → None ≡ position p xs → length xs ≤ position_or_len p xs
  missed xs e = grind (arith, common_steps)

  -- what a search says that has found at i
  pub first_at : (xs : List X) (i : ℕ) → Some i ≡ position p xs → FirstAt p xs i
  first_at xs i e =
      let f = found xs i e in
      record {
        some = list_any-position xs ∙ lt-ltb _ _ (omega (arith, f.0, f.1));
        off = without-position xs ∙ ap (remove xs) (sym f.0);
        put = λ y. replaced-position y xs ∙ ap (λ n. take n xs ++ y ∷ drop (suc n) xs) (sym f.0) ∙ sym (set_split xs i y f.1);
      }

  -- what a search says that has found none
  pub none_of : (xs : List X) → None ≡ position p xs → NoneOf p xs
  none_of xs e =
      let m = missed xs e in
      record {
        none = list_any-position xs ∙ le-ltb _ _ m;
        put = λ y. replaced-position y xs ∙ ap₂ (λ front rest. front ++ y ∷ rest) (take_all _ xs m) (drop_all (suc (position_or_len p xs)) xs (omega arith));
      }

  -- another is written over the first that passes
  pub written : (xs : List X) (i : ℕ) (y : X) → Some i ≡ position p xs → refill (length xs) xs (set xs i y) ≡ replaced p y xs
  written xs i y e = let f = first_at xs i e in grind (arith, common_steps, f.put y)

  -- the first that passes is taken out
  pub taken : (xs : List X) (i : ℕ) → Some i ≡ position p xs → (None ≡ take_refusal p xs) × (remove xs i ≡ take_after p xs)
  taken xs i e = let f = first_at xs i e in grind (arith, f.some, f.off)

  pub not_taken : (xs : List X) → None ≡ position p xs → (Some NotStanding ≡ take_refusal p xs) × (xs ≡ take_after p xs)
  not_taken xs e = let n = none_of xs e in grind (arith, n.none)
