-- Words with some of them changed.
use Rattle.std.specs.Prelude.{ℕ, List, fold, slice_set}

-- each change puts a word in the place of the one with its index, if there is one
abbrev pub changed : List ℕ → List (ℕ × ℕ) → List ℕ
changed words changes = fold (λ ws (change : ℕ × ℕ). slice_set ws change.0 change.1) words changes
