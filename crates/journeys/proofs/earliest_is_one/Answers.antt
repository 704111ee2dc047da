-- The proof that the earliest arrival is one.
use Rattle.journeys.proofs.Rides.{one_earliest}
use Rattle.journeys.proofs.earliest_is_one.Goals as goal

pub returns : goal.returns
returns c = one_earliest
