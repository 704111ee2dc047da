-- The earliest and the latest tick that isn't shut.
use Rattle.std.specs.Prelude.{◌≡◌, ℕ, zero, suc, ◌+◌, ◌<◌, ◌≤◌, Bool, true, false, cond, Some, Option, refl}
use Rattle.std.proofs.Common.{sym, ap, ◌∙◌, ⊎_elim, arith}
use Rattle.std.proofs.lemmas.Bool.{both_ways, cases_eq}
use Rattle.network.specs.Laws.{NoLater, NotBefore}
use Rattle.notices.specs.Closures.{open_from, open_below}

-- o is the earliest open one of the n ticks from t
pub record Opening (sh : ℕ → Bool) (t n : ℕ) (o : Option ℕ) : Type 0 where
  pub lies : (u : ℕ) → o ≡ Some u → (t ≤ u) × (u < t + n) × (sh u ≡ false)
  pub first : (u : ℕ) → t ≤ u → u < t + n → sh u ≡ false → NoLater o (Some u)

-- o is the latest open tick below n
pub record Closing (sh : ℕ → Bool) (n : ℕ) (o : Option ℕ) : Type 0 where
  pub lies : (u : ℕ) → o ≡ Some u → (u < n) × (sh u ≡ false)
  pub most : (u : ℕ) → u < n → sh u ≡ false → NotBefore u o

module _ (sh : ℕ → Bool) where
  pub opening : (t n : ℕ) → Opening sh t n (open_from sh t n)
  opening t zero = record { lies = λ u e. absurd (let z : ◌≡◌ {A = ℕ} 0 1 = cc in omega arith); first = λ u tu ut q. absurd (omega arith) }
  opening t (suc n) = go (sh t) refl (opening (suc t) n)
    where
      go : (b : Bool) → sh t ≡ b → Opening sh (suc t) n (open_from sh (suc t) n) → Opening sh t (suc n) (cond b (open_from sh (suc t) n) (Some t))
      go true e r = record {
        lies = λ u q. let l = r.lies u q in (omega (arith, l.0), omega (arith, l.1), l.2);
        first = λ u tu ut q. ⊎_elim (λ z. absurd (both_ways (sh u) q (ap sh z ∙ e))) (λ ne. r.first u (omega arith) (omega arith) q) (cases_eq u t);
      }
      go false e r = record {
        lies = λ u q. let p : t ≡ u = cc in (omega arith, omega arith, ap sh (sym p) ∙ e);
        first = λ u tu ut q. tu;
      }

  pub closing : (n : ℕ) → Closing sh n (open_below sh n)
  closing zero = record { lies = λ u e. absurd (let z : ◌≡◌ {A = ℕ} 0 1 = cc in omega arith); most = λ u h q. absurd (omega arith) }
  closing (suc t) = go (sh t) refl (closing t)
    where
      go : (b : Bool) → sh t ≡ b → Closing sh t (open_below sh t) → Closing sh (suc t) (cond b (open_below sh t) (Some t))
      go true e r = record {
        lies = λ u q. let l = r.lies u q in (omega (arith, l.0), l.1);
        most = λ u h q. ⊎_elim (λ z. absurd (both_ways (sh u) q (ap sh z ∙ e))) (λ ne. r.most u (omega arith) q) (cases_eq u t);
      }
      go false e r = record { lies = λ u q. let p : t ≡ u = cc in (omega arith, ap sh (sym p) ∙ e); most = λ u h q. omega arith }
