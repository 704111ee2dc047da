use Rattle.std.proofs.Common.{sym, ◌∙◌, subst, arith, rules, tests}
use Rattle.std.proofs.lemmas.Iterator.Consumers.{YieldsList-at, YieldsList-from_filter, count_from_yields_List}
use Rattle.queues.proofs.Inclusive.{inclusive_left, YieldsList-from_inclusive}
use Rattle.search.specs.Labels.{NearIn, arrivals_in, is_near}
use Rattle.search.specs.Counting.{Count}
use Rattle.search.proofs.Goals.{count_passing, near_yes, near_no}
use Rattle.search.proofs.labels.taken.Goals as goal

pub returns : goal.returns
returns g c =
    let h = g.E.Estimate.ahead c.args.estimate.now in
    let cells = c.args.labels.now in
    let counted = count_from_yields_List c.filter.result _ c.count.ensures.ran (YieldsList-from_filter _ (λ v. is_near h c.args.limit v (arrivals_in cells v)) (YieldsList-at c.filter.ensures.source (YieldsList-from_inclusive 1 c.args.places c.new.ensures.start (inclusive_left c.new.result 1 c.args.places c.new.ensures.start c.new.ensures.end c.new.ensures.exhausted ∙ omega arith))) c.filter.ensures.closure (λ x b q k. search (rules, tests))) in
    subst (Count (NearIn h c.args.limit cells) c.args.places) (sym counted) (count_passing (NearIn h c.args.limit cells) (λ v. is_near h c.args.limit v (arrivals_in cells v)) (λ v. near_yes h c.args.limit v _) (λ v. near_no h c.args.limit v _) c.args.places)
