-- The proof that the latest start is exact.
use Rattle.journeys.proofs.Starts.{start_exact}
use Rattle.journeys.proofs.latest_start_is_exact.Goals as goal

pub returns : goal.returns
returns c net law s d x y place xl yl = start_exact net law s d y place yl x xl
