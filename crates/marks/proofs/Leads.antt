-- The greatest lead as a fold.
use Rattle.std.proofs.Common.{◌≡◌, ℕ, ◌-◌, max, List, [], ◌∷◌, ◌∙◌, fold, arith}
use Rattle.marks.specs.Columns.{number}
use Rattle.marks.specs.Estimates.{lead}

module _ (to from : ℕ) where
  abbrev pub more : ℕ → List ℕ → ℕ
  more most column = max most (number column to - number column from)

  pub fold_more : (most : ℕ) (columns : List (List ℕ)) → fold more most columns ≡ max most (lead columns to from)
  fold_more most [] = omega arith
  fold_more most (c ∷ cs) = fold_more (more most c) cs ∙ omega arith

  pub fold_is_lead : (columns : List (List ℕ)) → fold more 0 columns ≡ lead columns to from
  fold_is_lead columns = fold_more 0 columns ∙ omega arith
