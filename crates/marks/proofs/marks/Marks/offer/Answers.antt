use Rattle.std.proofs.Common.{◌<◌, length, sym, ap, ◌∙◌, arith}
use Rattle.std.proofs.lemmas.Grind.{common_steps}
use Rattle.marks.specs.Offers.{some_above}
use Rattle.marks.proofs.Offering.{small_column, taken}
use Rattle.marks.proofs.marks.Marks.offer.Goals as goal

pub lay-requires-clause-small : goal.lay-requires-clause-small
lay-requires-clause-small g c =
    let law = g.met.N.Network.lawful c.args.net.now in
    small_column c.last_tick.result c.args.column.now (omega (arith, law.last.high)) (sym c.if-above.ensures)

pub returns-clause-reply : goal.returns-clause-reply
returns-clause-reply g c =
    let net = g.N.Network.meaning c.args.net.now in
    let room : length c.args.self.now < 4 = grind (arith, common_steps) in
    let low = ap (λ last. some_above last c.args.column.now) (sym c.last_tick.ensures) ∙ sym c.if-above.ensures in
    taken net c.args.self.now c.args.column.now room (omega arith) low c.in_default.ensures
