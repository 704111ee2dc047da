use Rattle.std.proofs.Common.{◌≡◌}
use Rattle.search.specs.declared.links.Side.TheVariants.{Out}
use Rattle.search.specs.Searching.{Stays}
use Rattle.search.specs.Steps.{Walking}
use Rattle.search.proofs.work.Search.relax_out.Given as goal

abbrev pub invariant-loop-link : goal.invariant-loop-link
invariant-loop-link g l = record {
  over : g.N.Network.meaning l.link-iterator.net.now ≡ g.N.Network.meaning l.initial.self.net.now;
  out : l.link-iterator.side ≡ Out;
  stays : Stays l.initial.self l.self;
  walking : Walking (g.N.Network.meaning l.initial.self.net.now) (g.E.Estimate.ahead l.initial.self.estimate.now) l.place l.tick l.link-iterator.next l.initial.self.labels.now l.self.labels.now (g.Q.Queue.held l.initial.self.queue.now) (g.Q.Queue.held l.self.queue.now);
}
