-- The proof that the computed arrival is the earliest.
use Rattle.journeys.proofs.Arrivals.{computed}
use Rattle.journeys.proofs.earliest_is_computed.Goals as goal

pub returns : goal.returns
returns c = computed
