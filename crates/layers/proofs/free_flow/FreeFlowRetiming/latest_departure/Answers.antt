use Rattle.std.proofs.Common.{arith, rules}
use Rattle.layers.proofs.FreeFlows.{latest_none, latest_free}
use Rattle.layers.proofs.free_flow.FreeFlowRetiming.latest_departure.Goals as goal
use Rattle.layers.proofs.free_flow.FreeFlowRetiming.latest_departure.Goals.{then-floor-eq0-via-then-floor-eq0, then-floor-eq0-via-else-floor-eq0+then-tick-last_tick}

pub returns-then-floor-eq0 : goal.returns-then-floor-eq0
returns-then-floor-eq0 g c =
    let never = latest_none (g.N.Network.meaning c.args.below.now) (g.met.N.Network.lawful c.args.below.now) c.args.link c.args.tick in
    never (elim c.then-floor-eq0.branch [ then-floor-eq0-via-then-floor-eq0 w ↦ (λ low fa al. let h = w.if-floor-eq0.true in omega arith) | then-floor-eq0-via-else-floor-eq0+then-tick-last_tick w ↦ (λ low fa al. let h = w.if-tick-last_tick.true in omega arith) ])

pub returns : goal.returns
returns g c =
    let net = g.N.Network.meaning c.args.below.now in
    let some = latest_free net (g.met.N.Network.lawful c.args.below.now) c.args.link c.args.tick in
    let none = latest_none net (g.met.N.Network.lawful c.args.below.now) c.args.link c.args.tick in
    search rules
