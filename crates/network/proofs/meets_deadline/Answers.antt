use Rattle.std.proofs.Common.{◌≡◌, ℕ, Bool, true, false, leb, ◌↔◌, Some, None, Option, MatchOption, rules, subst, sym, ◌∙◌}
use Rattle.std.proofs.lemmas.Bool.{leb-true, le-leb, false≢true}
use Rattle.network.specs.Laws.{NotBefore}
use Rattle.network.proofs.Greatest.{latest_exact}
use Rattle.network.proofs.meets_deadline.Goals as goal

-- what the test of a latest departure says
tested : (d : ℕ) (o : Option ℕ) (answer : Bool) → MatchOption o (answer ≡ false) (λ x. answer ≡ leb d x) → (answer ≡ true) ↔ NotBefore d o
tested d None answer e = ((λ t. absurd (false≢true (sym e ∙ t))), (λ n. absurd n))
tested d (Some x) answer e = ((λ t. leb-true d x (sym e ∙ t)), (λ n. e ∙ le-leb d x n))

pub returns : goal.returns
returns g c =
    let net = g.N.Network.meaning c.args.network.now in
    let e : MatchOption c.latest_departure.result (c.is_some_and.result ≡ false) (λ x. c.is_some_and.result ≡ leb c.args.departure x) = search rules in
    let h = subst (λ (o : Option ℕ). (c.is_some_and.result ≡ true) ↔ NotBefore c.args.departure o) c.latest_departure.ensures (tested c.args.departure c.latest_departure.result c.is_some_and.result e) in
    record {
      by_arrival = λ al. let e = latest_exact net (g.met.N.Network.lawful c.args.network.now) c.args.link c.args.departure c.args.deadline al in ((λ t. e.1 (h.0 t)), (λ n. h.1 (e.0 n)));
      by_departure = h;
    }
