use Rattle.std.proofs.Common.{sym, ◌∙◌, rules, tests}
use Rattle.search.specs.Labels.{label}
use Rattle.search.proofs.Tables.{arrival_some}
use Rattle.search.proofs.Walks.{sought}
use Rattle.search.proofs.seek.seek.Goals as goal

pub returns : goal.returns
returns g c =
    let own = arrival_some (label c.args.labels.now c.args.place) _ (sym c.arrival.ensures ∙ c.in_ok-own.was) in
    sought g.N.Network.meaning c.args.net (g.met.N.Network.lawful c.args.net.now) c.args.labels.now c.args.place _ own _
    (λ k q h. search (rules, tests)) (λ k q h. search (rules, tests)) _ _ _ c.new.ensures.network c.new.ensures.side c.new.ensures.first c.find.ensures.ran
