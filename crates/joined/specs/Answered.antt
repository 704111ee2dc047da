-- What joining two networks gives.
use Rattle.std.specs.Prelude.{Some, None, Ok, Err, Option, Result}
use Rattle.refusals.specs.declared.joining.Misfit.{Misfit}
use Rattle.joined.specs.declared.Joined.{Joined}
use Rattle.joined.specs.declared.Unjoined.{Unjoined}

-- why they are not joined, or none
abbrev pub misfit_in : {A B : Type 0} → Result (Joined A B) (Unjoined A B) → Option Misfit
misfit_in (Ok both) = None
misfit_in (Err apart) = Some apart.misfit

-- the two, joined or handed back
abbrev pub halves_in : {A B : Type 0} → Result (Joined A B) (Unjoined A B) → A × B
halves_in (Ok both) = (both.first, both.second)
halves_in (Err apart) = (apart.first, apart.second)
