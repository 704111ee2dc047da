use Rattle.network.proofs.Lowest.{lowest_found}
use Rattle.network.proofs.lowest_is_lowest.Goals as goal

pub returns : goal.returns
returns c = lowest_found
