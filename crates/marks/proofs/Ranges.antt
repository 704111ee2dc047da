-- What is found among the numbers of a range that holds its end.
use Rattle.std.proofs.Common.{◌≡◌, ℕ, zero, suc, ◌+◌, ◌-◌, ◌<◌, ◌≤◌, Bool, true, false, cond, List, ◌∷◌, length, Some, None, Option, MatchOption, sym, refl, ap, ◌∙◌, ap₂, ⊎_elim, arith}
use Rattle.std.specs.List.{find, range_with_len}
use Rattle.std.specs.Range.{range_inclusive_len, range_inclusive_start, range_inclusive_end, range_inclusive_exhausted}
use Rattle.std.specs.declared.ops.RangeInclusive.{RangeInclusive}
use Rattle.std.proofs.iter.runs.Sources.{nat_range_inclusive_steps}
use Rattle.std.proofs.lemmas.Bool.{cases_eq}
use Rattle.std.proofs.lemmas.Iterator.{YieldsList}
use Rattle.std.proofs.lemmas.Iterator.Consumers.{YieldsList-from_shown}

abbrev count : RangeInclusive ℕ → ℕ
count s = range_inclusive_len (λ x y. y - x) (range_inclusive_start s) (range_inclusive_end s) (range_inclusive_exhausted s)

-- the numbers that are left
abbrev left : RangeInclusive ℕ → List ℕ
left s = range_with_len (range_inclusive_start s) (count s)

none_left : (s t : RangeInclusive ℕ) → nat_range_inclusive_steps s None t → length (left s) ≡ 0
none_left s t h = ap (λ n. length (range_with_len (range_inclusive_start s) n)) h.1.0

one_left : (s : RangeInclusive ℕ) (x : ℕ) (t : RangeInclusive ℕ) → nat_range_inclusive_steps s (Some x) t → left s ≡ x ∷ left t
one_left s x t h = let n : count s ≡ suc (count t) = omega (arith, h.1.1) in ap (range_with_len (range_inclusive_start s)) n ∙ ap₂ (λ y ys. y ∷ ys) (sym h.1.0) (rest (range_inclusive_exhausted t) refl)
  where
    rest : (spent : Bool) → range_inclusive_exhausted t ≡ spent → range_with_len (range_inclusive_start s + 1) (count t) ≡ left t
    rest true e =
        let n : count t ≡ 0 = ap (range_inclusive_len (λ x y. y - x) (range_inclusive_start t) (range_inclusive_end t)) e in
        ap (range_with_len (range_inclusive_start s + 1)) n ∙ sym (ap (range_with_len (range_inclusive_start t)) n)
    rest false e = ap (λ a. range_with_len a (count t)) (sym (h.1.2 e))

pub YieldsList-from_inclusive : (s : RangeInclusive ℕ) (a n : ℕ) → range_inclusive_start s ≡ a → range_inclusive_end s + 1 ≡ a + n → range_inclusive_exhausted s ≡ false → YieldsList nat_range_inclusive_steps (λ x. x) s (range_with_len a n)
YieldsList-from_inclusive s a n start end fresh =
    let size : count s ≡ n = ap (range_inclusive_len (λ x y. y - x) (range_inclusive_start s) (range_inclusive_end s)) fresh ∙ omega arith in
    rw (← start, ← size) (YieldsList-from_shown nat_range_inclusive_steps (λ x. x) left none_left one_left s)

-- the first of n numbers from a that passes a test
pub first_from_range : (test : ℕ → Bool) (a n : ℕ) (o : Option ℕ) → o ≡ find test (range_with_len a n) → MatchOption o ((k : ℕ) → a ≤ k → k < a + n → test k ≡ false) (λ k. (a ≤ k) × (k < a + n) × (test k ≡ true))
first_from_range test a zero o e = rw e (λ k l h. absurd (omega arith))
first_from_range test a (suc n) o e = go (first_from_range test (a + 1) n o) (test a) refl e
  where
    later : (o : Option ℕ) → test a ≡ false → MatchOption o ((k : ℕ) → a + 1 ≤ k → k < a + 1 + n → test k ≡ false) (λ k. (a + 1 ≤ k) × (k < a + 1 + n) × (test k ≡ true))
        → MatchOption o ((k : ℕ) → a ≤ k → k < a + suc n → test k ≡ false) (λ k. (a ≤ k) × (k < a + suc n) × (test k ≡ true))
    later None q r = λ k l h. ⊎_elim (λ z. ap test z ∙ q) (λ other. r k (omega arith) (omega arith)) (cases_eq k a)
    later (Some k) q r = (omega (arith, r.0), omega (arith, r.1), r.2)

    go : (o ≡ find test (range_with_len (a + 1) n) → MatchOption o ((k : ℕ) → a + 1 ≤ k → k < a + 1 + n → test k ≡ false) (λ k. (a + 1 ≤ k) × (k < a + 1 + n) × (test k ≡ true)))
        → (b : Bool) → test a ≡ b → o ≡ cond b (Some a) (find test (range_with_len (a + 1) n)) → MatchOption o ((k : ℕ) → a ≤ k → k < a + suc n → test k ≡ false) (λ k. (a ≤ k) × (k < a + suc n) × (test k ≡ true))
    go rest true q f = rw f (omega arith, omega arith, q)
    go rest false q f = later o q (rest f)
