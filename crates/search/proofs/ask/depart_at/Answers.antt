use Rattle.std.proofs.Common.{ap, arith, rules}
use Rattle.search.specs.Question.{filled}
use Rattle.search.proofs.Replies.{asked_found, asked_none}
use Rattle.search.proofs.ask.depart_at.Goals as goal

pub returns-in_err-answer : goal.returns-in_err-answer
returns-in_err-answer g c =
    asked_none (g.N.Network.meaning c.args.net.now) (g.met.N.Network.lawful c.args.net.now) (g.E.Estimate.ahead c.args.estimate.now) c.args.question _ _ c.from_residual.result (search rules) c.ask.result (search rules) c.ask.ensures.asked

pub returns : goal.returns
returns g c =
    asked_found (g.N.Network.meaning c.args.net.now) (g.met.N.Network.lawful c.args.net.now) (g.E.Estimate.ahead c.args.estimate.now) c.args.question _ _ _
    c.reverse.new.self c.roads.result c.roads.ensures (omega (arith, c.ask.ensures.within, ap filled c.in_ok-answer.was, c.roads.ensures)) c.reverse.ensures.after c.ask.result c.in_ok-answer.was c.ask.ensures.asked
