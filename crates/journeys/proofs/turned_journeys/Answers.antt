-- The proof that backward in time the same journeys are made.
use Rattle.journeys.proofs.Starts.{turned_journeys}
use Rattle.journeys.proofs.turned_journeys.Goals as goal

pub returns : goal.returns
returns c = turned_journeys
