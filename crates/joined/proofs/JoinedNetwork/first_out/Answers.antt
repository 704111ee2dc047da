use Rattle.std.proofs.Common.{sym, refl, ap, ◌∙◌, arith}
use Rattle.network.specs.Meaning.{Meaning}
use Rattle.network.proofs.Lowest.{first_high}
use Rattle.joined.specs.Joined.{numbered_on}
use Rattle.joined.proofs.JoinedLinks.{first_of_first, first_of_second}
use Rattle.joined.proofs.JoinedNetwork.first_out.Goals as goal

pub returns-then-first-ne0 : goal.returns-then-first-ne0
returns-then-first-ne0 g c =
    c.first_out-first.ensures
    ∙ first_of_first (g.A.Network.meaning c.args.self.now.first) (g.B.Network.meaning c.args.self.now.second) (λ (m : Meaning). m.tail) (λ k. refl) c.args.place (λ z. c.if-first-ne0.true (c.first_out-first.ensures ∙ z))

pub numbered_on-requires : goal.numbered_on-requires
numbered_on-requires g c =
    let b = g.B.Network.meaning c.args.self.now.second in
    omega (arith, first_high b b.tail c.args.place, c.first_out.ensures)

pub returns : goal.returns
returns g c =
    let a = g.A.Network.meaning c.args.self.now.first in
    let b = g.B.Network.meaning c.args.self.now.second in
    c.numbered_on.ensures ∙ (ap (numbered_on a b) c.first_out.ensures ∙ first_of_second a b (λ (m : Meaning). m.tail) (λ k. refl) c.args.place (sym c.first_out-first.ensures ∙ c.if-first-ne0.false))
