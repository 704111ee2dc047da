-- What is answered to a column that is offered, and what marks hold after it.
use Rattle.std.specs.Prelude.{◌≡◌, ℕ, ◌+◌, ◌-◌, Bool, true, false, cond, not, List, [], ◌∷◌, ◌++◌, length, replicate, Some, None, Ok, Err, Option, MatchOption, Result, ◌==◌, nat_le, nat_lt}
use Rattle.std.specs.List.{list_any}
use Rattle.network.specs.Meaning.{Meaning, IsLink}
use Rattle.refusals.specs.declared.column.ColumnRefusal.{ColumnRefusal}
use Rattle.refusals.specs.declared.column.ColumnRefusal.TheVariants.{TooManyMarks, ColumnLength, AboveLast, BrokenRule}
use Rattle.marks.specs.Columns.{number, AllSound}

-- whether some number is above the last tick
abbrev pub some_above : ℕ → List ℕ → Bool
some_above last numbers = list_any (λ number. nat_lt last number) numbers

-- this refusal where the test holds, else what comes after
abbrev pub if_so : Bool → ColumnRefusal → Option ColumnRefusal → Option ColumnRefusal
if_so holds refusal after = cond holds (Some refusal) after

-- what refuses a column before its links are looked at, in this order
abbrev pub offer_refusal : Meaning → List (List ℕ) → List ℕ → Option ColumnRefusal
offer_refusal net columns column =
    if_so (nat_le 4 (length columns)) TooManyMarks
    (if_so (not (length column == net.places)) ColumnLength
    (if_so (some_above net.last column) AboveLast None))

-- whether the column rises along link k by more than the floor
abbrev pub breaks : Meaning → List ℕ → ℕ → Bool
breaks net column k = nat_lt (number column (net.tail k) + net.floor k) (number column (net.head k))

-- a link that breaks the rule, or none where no link does
abbrev pub Broken : Meaning → List ℕ → Option ℕ → Type 0
Broken net column o = MatchOption o ((k : ℕ) → IsLink net k → breaks net column k ≡ false) (λ k. IsLink net k × (breaks net column k ≡ true))

-- then it is taken if no link breaks the rule, and else refused for one that does, any one of them
abbrev pub Judged : Meaning → List ℕ → Result (Unit {0}) ColumnRefusal → Type 0
Judged net column (Ok done) = (k : ℕ) → IsLink net k → breaks net column k ≡ false
Judged net column (Err refusal) = (k : ℕ) × IsLink net k × (breaks net column k ≡ true) × (refusal ≡ BrokenRule k)

-- a column as it is kept: with 0 for what is no place
abbrev pub kept : List ℕ → List ℕ
kept column = column ++ replicate (1024 - length column) 0

abbrev pub after_offer : List (List ℕ) → List ℕ → Result (Unit {0}) ColumnRefusal → List (List ℕ)
after_offer columns column (Ok done) = columns ++ kept column ∷ []
after_offer columns column (Err refusal) = columns

pub record Offered (net : Meaning) (columns : List (List ℕ)) (column : List ℕ) (reply : Result (Unit {0}) ColumnRefusal) : Type 0 where
  pub refused : (refusal : ColumnRefusal) → offer_refusal net columns column ≡ Some refusal → reply ≡ Err refusal
  pub judged : offer_refusal net columns column ≡ None → Judged net column reply
  -- what was sound stays so with the column that is taken
  pub sound : AllSound net columns → AllSound net (after_offer columns column reply)
