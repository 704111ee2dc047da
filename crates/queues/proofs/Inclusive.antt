-- `a..=b` gives the numbers from a to b.
use Rattle.std.proofs.Common.{◌≡◌, ℕ, zero, suc, ◌+◌, ◌-◌, ◌≤◌, false, List, ◌∷◌, length, sym, refl, ap, ◌∙◌, subst, inl, inr, arith}
use Rattle.std.specs.List.{range_with_len}
use Rattle.std.specs.Range.{range_inclusive_steps, range_inclusive_len, range_inclusive_left, range_inclusive_start, range_inclusive_end, range_inclusive_exhausted}
use Rattle.std.specs.declared.ops.RangeInclusive.{RangeInclusive}
use Rattle.std.proofs.lemmas.Bool.{cases_Bool}
use Rattle.std.proofs.lemmas.Iterator.{YieldsList}
use Rattle.std.proofs.lemmas.Iterator.Consumers.{YieldsList-from_shown}

-- the steps between two numbers, and the next number, as the range counts them
abbrev gap : ℕ → ℕ → ℕ
gap x y = y - x

abbrev follows : ℕ → ℕ → Type 0
follows x y = y ≡ x + 1

abbrev numbers : RangeInclusive ℕ → List ℕ
numbers s = range_with_len (range_inclusive_start s) (range_inclusive_left gap s)

no_numbers : (n a : ℕ) → n ≡ 0 → length (range_with_len a n) ≡ 0
no_numbers zero a e = refl
no_numbers (suc n) a e = absurd (omega arith)

one_number : (a b n m : ℕ) → m + 1 ≡ n → (1 ≤ m → b ≡ a + 1) → range_with_len a n ≡ a ∷ range_with_len b m
one_number a b zero m e f = absurd (omega arith)
one_number a b (suc n) zero e f = let l : n ≡ 0 = omega arith in rw l refl
one_number a b (suc n) (suc m) e f = let q : b ≡ a + 1 = f (omega arith) in let l : n ≡ suc m = omega arith in rw (q, l) refl

going : (s : RangeInclusive ℕ) → 1 ≤ range_inclusive_left gap s → range_inclusive_exhausted s ≡ false
going s l = elim (cases_Bool (range_inclusive_exhausted s)) [
  | inl e ↦ absurd (let z : range_inclusive_left gap s ≡ 0 = ap (range_inclusive_len gap (range_inclusive_start s) (range_inclusive_end s)) e in omega arith)
  | inr e ↦ e
]

-- how many numbers a range that is not begun has left
pub inclusive_left : (s : RangeInclusive ℕ) (a b : ℕ) → range_inclusive_start s ≡ a → range_inclusive_end s ≡ b → range_inclusive_exhausted s ≡ false → range_inclusive_left gap s ≡ b + 1 - a
inclusive_left s a b ea eb ee = ap (range_inclusive_len gap (range_inclusive_start s) (range_inclusive_end s)) ee ∙ omega arith

-- it gives the numbers from its start on, as many as are left
pub YieldsList-from_inclusive : {s : RangeInclusive ℕ} (a n : ℕ) → range_inclusive_start s ≡ a → range_inclusive_left gap s ≡ n → YieldsList (range_inclusive_steps gap follows) (λ x. x) s (range_with_len a n)
YieldsList-from_inclusive {s} a n ea en =
    subst (YieldsList (range_inclusive_steps gap follows) (λ x. x) s) (ap (λ x. range_with_len x (range_inclusive_left gap s)) ea ∙ ap (range_with_len a) en)
    (YieldsList-from_shown (range_inclusive_steps gap follows) (λ x. x) numbers
    (λ s t h. no_numbers (range_inclusive_left gap s) (range_inclusive_start s) h.1.0)
    (λ s x t h. subst (λ z. numbers s ≡ z ∷ numbers t) (sym h.1.0) (one_number _ _ _ _ h.1.1 (λ l. h.1.2 (going t l)))) s)
