use Rattle.search.specs.Searching.{Stays}
use Rattle.search.specs.Steps.{State, total, rank}
use Rattle.search.proofs.work.Search.run.Given as goal

abbrev pub invariant-loop-key : goal.invariant-loop-key
invariant-loop-key g l = record {
  stays : Stays l.fn.self l.self;
  state : State (g.N.Network.meaning l.fn.self.net.now) (g.E.Estimate.ahead l.fn.self.estimate.now) l.start l.tick 0 0 l.self.labels.now (g.Q.Queue.held l.self.queue.now);
}

abbrev pub decreases-loop-key : goal.decreases-loop-key
decreases-loop-key g l = total (rank (g.N.Network.meaning l.fn.self.net.now).last l.self.labels.now (g.Q.Queue.held l.self.queue.now)) (g.N.Network.meaning l.fn.self.net.now).places
