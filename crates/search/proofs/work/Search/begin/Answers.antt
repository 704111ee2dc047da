use Rattle.std.proofs.Common.{◌≡◌, ◌+◌, length, replicate, ap, ◌∙◌, subst, arith, rules}
use Rattle.queues.specs.Queue.{Offered}
use Rattle.search.specs.Labels.{label}
use Rattle.search.proofs.Tables.{blank_label}
use Rattle.search.proofs.Turns.{begin_state}
use Rattle.search.proofs.work.Search.begin.Goals as goal

pub returns-clause-state : goal.returns-clause-state
returns-clause-state g c =
    let wiped : c.fill.new.self ≡ replicate (length c.args.self.now.labels.now) 0 = search rules in
    let room = c.args.self.now.room in
    begin_state {blank = c.fill.new.self} (g.met.N.Network.lawful c.args.self.now.net.now) c.requires.start (omega (arith, c.clear.ensures.capacity, room.queue))
    (λ v l. ap (λ l. label l v) wiped ∙ blank_label _ v) c.lower.ensures c.clear.ensures.empty
    (subst (λ z. Offered (g.Q.Queue.held c.clear.new.self) (g.Q.Queue.held c.offer.new.self) (g.Q.Queue.capacity c.clear.new.self) c.args.start (c.args.tick + z) c.offer.result)
    c.ahead.ensures c.offer.ensures.offered)
