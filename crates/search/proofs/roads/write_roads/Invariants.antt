use Rattle.search.proofs.RoadWalks.{Writing}
use Rattle.search.proofs.roads.write_roads.Given as goal

abbrev pub invariant-loop-cell : goal.invariant-loop-cell
invariant-loop-cell g l = Writing g.N.Network.meaning (g.N.Network.meaning l.net) (g.met.N.Network.lawful l.net) l.labels l.start l.place l.list l.cell-index l.roads
