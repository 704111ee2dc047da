use Rattle.books.specs.Sailing.{sailing_least}
use Rattle.books.proofs.sailings.sailing_is_least.Goals as goal

pub returns : goal.returns
returns c = sailing_least
