use Rattle.std.proofs.Common.{◌≡◌, sym, refl, ap, ◌∙◌, arith}
use Rattle.network.specs.Meaning.{Meaning}
use Rattle.network.specs.Links.{first_in}
use Rattle.network.proofs.Lowest.{first_high, next_high}
use Rattle.joined.specs.Joined.{numbered_on}
use Rattle.joined.proofs.JoinedLinks.{next_in_second, next_in_first, next_past_first}
use Rattle.joined.proofs.JoinedNetwork.next_in.Goals as goal

pub numbered_on-requires : goal.numbered_on-requires
numbered_on-requires g c =
    let b = g.B.Network.meaning c.args.self.now.second in
    omega (arith, next_high b b.head c.in-Some.second, c.next_in.ensures)

pub returns-in-Some : goal.returns-in-Some
returns-in-Some g c =
    let a = g.A.Network.meaning c.args.self.now.first in
    let b = g.B.Network.meaning c.args.self.now.second in
    c.numbered_on.ensures ∙ (ap (numbered_on a b) c.next_in.ensures ∙ next_in_second a b (λ (m : Meaning). m.head) (λ k. refl) c.args.link c.in-Some.second (sym c.in-Some.ensures))

pub returns-then-next-ne0 : goal.returns-then-next-ne0
returns-then-next-ne0 g c =
    c.next_in-next.ensures
    ∙ next_in_first (g.A.Network.meaning c.args.self.now.first) (g.B.Network.meaning c.args.self.now.second) (λ (m : Meaning). m.head) (λ k. refl) c.args.link (sym c.in_default.ensures) (λ z. c.if-next-ne0.true (c.next_in-next.ensures ∙ z))

pub numbered_on-requires-2 : goal.numbered_on-requires-2
numbered_on-requires-2 g c =
    let b = g.B.Network.meaning c.args.self.now.second in
    omega (arith, first_high b b.head, c.first_in.ensures)

pub returns : goal.returns
returns g c =
    let a = g.A.Network.meaning c.args.self.now.first in
    let b = g.B.Network.meaning c.args.self.now.second in
    let law = g.met.A.Network.lawful c.args.self.now.first in
    let into : c.first_in.result ≡ first_in b (a.head c.args.link) = cc in
    c.numbered_on-2.ensures
    ∙ (ap (numbered_on a b) into
    ∙ next_past_first a b (λ (m : Meaning). m.head) (λ k. refl) law.head (λ k n. (law.no_link k n).head) c.args.link (sym c.in_default.ensures) (sym c.next_in-next.ensures ∙ c.if-next-ne0.false))
