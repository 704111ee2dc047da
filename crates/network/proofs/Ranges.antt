-- The numbers 1 to n, as a fact and as a test.
use Rattle.std.proofs.Common.{◌≡◌, ℕ, true, false, leb, ◌⊎◌, inl, inr, ⊎_elim, arith}
use Rattle.std.proofs.lemmas.Bool.{cases_lt, le-leb, lt-leb, leb-true, and_parts, and_from, and_left, and_right}
use Rattle.network.specs.Meaning.{Among, among}

pub among_true : (k n : ℕ) → among k n ≡ true → Among k n
among_true k n e = let p = and_parts _ _ e in record { low = leb-true 1 k p.0; high = leb-true k n p.1 }

pub true_among : (k n : ℕ) → Among k n → among k n ≡ true
true_among k n h = and_from _ _ (le-leb 1 k h.low) (le-leb k n h.high)

pub false_among : (k n : ℕ) → (Among k n → ⊥) → among k n ≡ false
false_among k n h =
    ⊎_elim
    (λ l. and_left (leb 1 k) (leb k n) (lt-leb 1 k l))
    (λ l. and_right (leb 1 k) (leb k n) (⊎_elim (λ m. lt-leb k n m) (λ m. absurd (h (record { low = l; high = m }))) (cases_lt n k)))
    (cases_lt k 1)

pub cases_among : (k n : ℕ) → Among k n ⊎ (Among k n → ⊥)
cases_among k n = ⊎_elim (λ l. inr (λ a. omega (arith, a.low))) (λ l. ⊎_elim (λ m. inr (λ a. omega (arith, a.high))) (λ m. inl (record { low = l; high = m })) (cases_lt n k)) (cases_lt k 1)
