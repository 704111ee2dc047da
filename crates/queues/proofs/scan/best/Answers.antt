use Rattle.std.proofs.Common.{◌+◌, rules, tests}
use Rattle.std.proofs.lemmas.Iterator.{YieldsList-from_slice}
use Rattle.std.proofs.lemmas.Iterator.Consumers.{YieldsList-at, YieldsList-from_enumerate, YieldsList-from_filter_map}
use Rattle.queues.proofs.Pairs.{turned, pairs, rising_pairs, least_by_key, least_best}
use Rattle.queues.proofs.scan.best.Goals as goal

pub returns : goal.returns
returns c =
    least_best c.args.keys.now _
    (least_by_key _ (λ f x k g called. search (rules)) (0 + 1) (pairs 0 c.args.keys.now) _ _ _ (rising_pairs 0 c.args.keys.now) c.min_by_key.ensures.ran
    (YieldsList-from_filter_map _ turned
    (YieldsList-at c.filter_map.ensures.source
    (YieldsList-from_enumerate (YieldsList-at c.enumerate.ensures.source (YieldsList-from_slice c.args.keys.now (cc))) (cc)))
    c.filter_map.ensures.closure (λ x r q k. search (rules, tests))))
