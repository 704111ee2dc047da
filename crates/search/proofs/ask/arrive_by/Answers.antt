use Rattle.std.proofs.Common.{ap}
use Rattle.journeys.specs.Turned.{turned}
use Rattle.search.proofs.Replies.{asked_by}
use Rattle.search.proofs.ask.arrive_by.Goals as goal

pub returns : goal.returns
returns g c =
    asked_by (g.N.Network.meaning c.args.net.now) (g.met.N.Network.lawful c.args.net.now) (g.E.Estimate.ahead c.args.estimate.now) c.args.question _ _
    _ c.last_tick-last.result c.back_tick.result c.ask-reply.result c.counted_back.result
    (ap (λ x. turned (g.N.Network.meaning x.now)) c.new-turned.ensures) c.last_tick-last.ensures c.back_tick.ensures c.counted_back.ensures c.ask-reply.ensures.asked
