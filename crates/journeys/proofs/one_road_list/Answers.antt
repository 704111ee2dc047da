-- The proof that the road list is found, one, and driven in time.
use Rattle.journeys.proofs.RoadLists.{one_list}
use Rattle.journeys.proofs.one_road_list.Goals as goal

pub returns : goal.returns
returns c = one_list
