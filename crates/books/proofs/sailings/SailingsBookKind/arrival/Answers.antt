use Rattle.std.proofs.Common.{ℕ, leb, refl, ◌∙◌, rules, tests}
use Rattle.std.proofs.lemmas.Iterator.{YieldsList-from_map}
use Rattle.std.proofs.lemmas.Iterator.Consumers.{YieldsList-at, YieldsList-from_first, YieldsList-from_filter}
use Rattle.records.specs.declared.layout.Point.{Point}
use Rattle.records.specs.Reading.{to_come}
use Rattle.books.proofs.Sails.{least, least_reduced}
use Rattle.books.proofs.sailings.SailingsBookKind.arrival.Goals as goal

pub returns : goal.returns
returns c =
    least_reduced _ (λ f x z k g called. search (rules, tests)) _ _ _ _ c.reduce.ensures.ran
    (YieldsList-from_map _ (λ (x : ℕ × Point). x.1.arrival)
    (YieldsList-at c.map.ensures.source
    (YieldsList-from_filter _ (λ (x : ℕ × Point). leb c.args.tick x.1.departure)
    (YieldsList-at c.filter.ensures.source (YieldsList-from_first (λ x. x) to_come (to_come c.args.points) refl))
    c.filter.ensures.closure
    (λ x b q k. search (rules, tests))))
    c.map.ensures.closure
    (λ x r q k. search (rules, tests)))
    ∙ least c.args.tick (to_come c.args.points)
