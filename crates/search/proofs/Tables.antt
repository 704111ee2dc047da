-- Labels and limits, case by case.
use Rattle.std.proofs.Common.{◌≡◌, ℕ, zero, suc, ◌+◌, ◌≤◌, ◌⊎◌, List, Some, None, Option, refl, ap, inl, inr, arith}
use Rattle.std.proofs.Math.ListN.{replicate}
use Rattle.std.proofs.lemmas.Grind.{common_steps}
use Rattle.search.specs.Labels.{Within, label, arrival_of, arrivals_in}

-- a label is none, or a tick and one
pub label_cases : (l : ℕ) → (l ≡ 0) ⊎ ((a : ℕ) × (l ≡ suc a))
label_cases zero = inl refl
label_cases (suc a) = inr (a, refl)

-- what is below a number within the bound is within it too
pub within_less : (bound : Option ℕ) (x y : ℕ) → x ≤ y → Within bound y → Within bound x
within_less None x y l w = tt
within_less (Some g) x y l w = omega arith

-- what an arrival says of the label, and none
pub arrival_some : (l x : ℕ) → arrival_of l ≡ Some x → l ≡ suc x
arrival_some zero x e = absurd (cc)
arrival_some (suc a) x e = let q : a ≡ x = cc in ap suc q

pub none_label : (l : ℕ) → arrival_of l ≡ None → 1 ≤ l → ⊥
none_label zero e there = omega arith
none_label (suc a) e there = absurd (cc)

-- an option isn't both
pub some_none : {A : Type 0} {o : Option A} {x : A} → o ≡ Some x → o ≡ None → ⊥
some_none p q = let z : ◌≡◌ {A = ℕ} 0 1 = cc in omega arith

pub some_same : {x y : ℕ} → ◌≡◌ {A = Option ℕ} (Some x) (Some y) → x ≡ y
some_same e = cc

-- a label that is early says an arrival that is
pub label_time : {last : ℕ} (cells : List ℕ) (v : ℕ) {a : ℕ} → arrivals_in cells v ≡ Some a → label cells v ≤ last + 1 → a ≤ last
label_time cells v e early = omega (arith, arrival_some (label cells v) _ e)

-- a table of zeros has no label
pub blank_label : (n v : ℕ) → label (replicate n 0) v ≡ 0
blank_label n zero = refl
blank_label n (suc i) = grind (arith, common_steps)
