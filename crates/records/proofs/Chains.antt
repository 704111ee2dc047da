-- The end of a chain of points.
use Rattle.std.proofs.Common.{◌≡◌, ℕ, zero, suc, cond, [], ◌∷◌, refl, ap}
use Rattle.std.proofs.lemmas.Bool.{eq-eqb}
use Rattle.records.specs.declared.layout.Point.{Point}
use Rattle.records.specs.Contents.{chain}

module _ (point : ℕ → Point) where
  pub chain_end : (n at : ℕ) → at ≡ 0 → chain point n at ≡ []
  chain_end zero at z = refl
  chain_end (suc n) at z = ap (λ t. cond t [] ((at, point at) ∷ chain point n (point at).next)) (eq-eqb at 0 z)
