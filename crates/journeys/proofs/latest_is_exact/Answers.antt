-- The proof that the latest departure is exact.
use Rattle.network.proofs.Greatest.{latest_exact}
use Rattle.journeys.proofs.latest_is_exact.Goals as goal

pub returns : goal.returns
returns c = λ net law k d a l dl al. latest_exact net law k d a al
