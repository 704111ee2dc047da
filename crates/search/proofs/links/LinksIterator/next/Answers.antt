use Rattle.std.proofs.Common.{◌≤◌, ◌∙◌, arith, rules}
use Rattle.std.proofs.iter.Next.{firm}
use Rattle.search.proofs.Walks.{walk_falls}
use Rattle.search.proofs.links.LinksIterator.next.Goals as goal
use Rattle.search.proofs.links.LinksIterator.next.Goals.{in-Out, in-Into}

pub returns-clause-goes : goal.returns-clause-goes
returns-clause-goes g c =
    let net = g.N.Network.meaning c.args.self.now.net.now in
    let low : 1 ≤ c.args.self.now.next = omega (arith, c.if-link-eq0.false) in
    firm (
      tt,
      tt,
      elim c.match-self.branch [
        | in-Out w ↦ walk_falls net net.tail low (w.self-is ∙ w.next_out-self.ensures)
        | in-Into w ↦ walk_falls net net.head low (w.self-is ∙ w.next_in-self.ensures)
      ],
    ) (λ h. search rules)
