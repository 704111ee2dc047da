use Rattle.std.proofs.Common.{length, ap, arith}
use Rattle.std.proofs.lemmas.List.{with_items_is}
use Rattle.queues.proofs.scan.ScanQueueQueue.take.Goals as goal

pub returns-clause-taken : goal.returns-clause-taken
returns-clause-taken c =
    let v = c.args.self.now.keys in
    let lent = c.deref_mut.ensures.value in
    let e = with_items_is v c.take_best.new.keys (omega (arith, v.ok.0, ap length lent)) in
    rw (← e, lent) at c.take_best.ensures
