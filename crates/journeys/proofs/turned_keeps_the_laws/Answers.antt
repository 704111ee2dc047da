-- The proof that the turned network keeps the laws.
use Rattle.journeys.proofs.Turning.{turned_laws}
use Rattle.journeys.proofs.turned_keeps_the_laws.Goals as goal

pub returns : goal.returns
returns c = turned_laws
