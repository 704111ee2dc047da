-- The proof that a network turned twice is itself.
use Rattle.journeys.proofs.Turning.{turned_twice}
use Rattle.journeys.proofs.turned_twice.Goals as goal

pub returns : goal.returns
returns c = turned_twice
