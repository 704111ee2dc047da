use Rattle.std.proofs.Common.{Some, None, ap, ◌∙◌}
use Rattle.notices.specs.Closures.{last_open}
use Rattle.notices.specs.Shut.{latest_closed}
use Rattle.notices.proofs.closures.ClosuresRetiming.latest_departure.Goals as goal

pub returns-in_err-latest : goal.returns-in_err-latest
returns-in_err-latest g c =
    let below = c.args.below.now in
    c.from_residual.ensures ∙ latest_closed c.args.self.now (g.N.Network.meaning below) (g.met.N.Network.lawful below) c.args.link c.args.tick None c.in_err-latest.ensures

pub returns : goal.returns
returns g c =
    let below = c.args.below.now in
    c.open_until.ensures
    ∙ ap (λ cs. last_open cs c.args.link c.in_ok-latest.latest) c.standing.ensures.closures
    ∙ latest_closed c.args.self.now (g.N.Network.meaning below) (g.met.N.Network.lawful below) c.args.link c.args.tick (Some c.in_ok-latest.latest) c.in_ok-latest.ensures
