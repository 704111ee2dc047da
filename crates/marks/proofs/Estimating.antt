-- Estimates by sound columns are fit, and small.
use Rattle.std.specs.Prelude.{◌≡◌, ℕ, zero, suc, ◌+◌, ◌≤◌, List, [], ◌∷◌, refl}
use Rattle.std.proofs.Common.{arith}
use Rattle.std.proofs.lemmas.List.Elements.{All-head, All-tail}
use Rattle.std.proofs.lemmas.Grind.{common_steps}
use Rattle.network.specs.Meaning.{Meaning}
use Rattle.journeys.specs.Turned.{turned}
use Rattle.search.specs.Estimate.{Consistent, Fit}
use Rattle.marks.specs.Columns.{number, AllSound, IsSmall, AllSmall}
use Rattle.marks.specs.Estimates.{lead, forward, backward}

module _ (net : Meaning) (e : ℕ) where
  forward_consistent : (columns : List (List ℕ)) → AllSound net columns → Consistent net (forward columns e)
  forward_consistent [] s k l = omega arith
  forward_consistent (c ∷ cs) s k l = let more = forward_consistent cs s.1 k l in let rule = s.0.rule k l in omega arith

  backward_consistent : (columns : List (List ℕ)) → AllSound net columns → Consistent (turned net) (backward columns e)
  backward_consistent [] s k l = omega arith
  backward_consistent (c ∷ cs) s k l =
      let more : lead cs (net.head k) e ≤ net.floor k + lead cs (net.tail k) e = backward_consistent cs s.1 k l in
      let rule = s.0.rule k (record { low = l.low; high = l.high }) in
      omega arith

lead_here : (columns : List (List ℕ)) (e : ℕ) → lead columns e e ≡ 0
lead_here [] e = refl
lead_here (c ∷ cs) e = omega (arith, lead_here cs e)

pub marks_fit : (net : Meaning) (columns : List (List ℕ)) → AllSound net columns → (e : ℕ) → Fit net (forward columns e) e × Fit (turned net) (backward columns e) e
marks_fit net columns s e = (
  record { consistent = forward_consistent net e columns s; here = lead_here columns e },
  record { consistent = backward_consistent net e columns s; here = lead_here columns e },
)

number_small : (column : List ℕ) → IsSmall column → (v : ℕ) → number column v ≤ 604800
number_small column small zero = omega arith
number_small column small (suc i) = grind (arith, common_steps, small i 0)

-- small numbers make small estimates
pub lead_small : (columns : List (List ℕ)) → AllSmall columns → (to from : ℕ) → lead columns to from ≤ 604800
lead_small [] small to from = omega arith
lead_small (c ∷ cs) small to from =
    let here = number_small c (All-head IsSmall c cs small) to in
    let more = lead_small cs (All-tail IsSmall c cs small) to from in
    omega arith
