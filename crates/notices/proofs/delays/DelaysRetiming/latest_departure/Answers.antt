use Rattle.std.proofs.Common.{◌-◌, ap, ◌∙◌, inr, arith}
use Rattle.network.specs.Latest.{latest}
use Rattle.notices.specs.Late.{latest_delayed, latest_too_early}
use Rattle.notices.proofs.delays.DelaysRetiming.latest_departure.Goals as goal

pub returns-in_err-earlier : goal.returns-in_err-earlier
returns-in_err-earlier g c =
    c.from_residual.ensures ∙ latest_too_early c.args.self.now (g.N.Network.meaning c.args.below.now) c.args.link c.args.tick (inr (omega (arith, c.in_err-earlier.ensures, c.ticks_on.ensures)))

pub returns : goal.returns
returns g c =
    let net = g.N.Network.meaning c.args.below.now in
    c.latest_departure.ensures
    ∙ ap (latest net c.args.link) (c.in_ok-earlier.ensures.1 ∙ ap (λ by. c.args.tick - by) c.ticks_on.ensures)
    ∙ latest_delayed c.args.self.now net c.args.link c.args.tick (omega arith) (omega (arith, c.in_ok-earlier.ensures.0, c.ticks_on.ensures))
