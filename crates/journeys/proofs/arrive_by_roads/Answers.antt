-- The proof that the roads found backward in time are driven in time.
use Rattle.journeys.proofs.Starts.{arrive_by}
use Rattle.journeys.proofs.arrive_by_roads.Goals as goal

pub returns : goal.returns
returns c net law s d y x back place yl = arrive_by net law s d y place yl x back
