-- Columns: one number for each place, by which a mark estimates the way ahead.
use Rattle.std.specs.Prelude.{ℕ, zero, suc, ◌+◌, ◌≤◌, List, [], ◌∷◌, slice_index}
use Rattle.std.specs.List.{All}
use Rattle.network.specs.Meaning.{Meaning, IsPlace, IsLink}

-- the number of a place; what isn't in the column is 0
abbrev pub number : List ℕ → ℕ → ℕ
number column zero = 0
number column (suc i) = slice_index column i

-- A column that a network's floors bear out: its numbers are ticks, and along a link they rise by at most the floor.
pub record Sound (net : Meaning) (column : List ℕ) : Type 0 where
  pub ticks : (v : ℕ) → IsPlace net v → number column v ≤ net.last
  pub rule : (k : ℕ) → IsLink net k → number column (net.head k) ≤ number column (net.tail k) + net.floor k

abbrev pub AllSound : Meaning → List (List ℕ) → Type 0
AllSound net [] = Unit {0}
AllSound net (c ∷ cs) = Sound net c × AllSound net cs

-- no number of a column is above the greatest last tick
abbrev pub IsSmall : List ℕ → Type 0
IsSmall column = All (λ number. number ≤ 604800) column

abbrev pub AllSmall : List (List ℕ) → Type 0
AllSmall columns = All IsSmall columns
