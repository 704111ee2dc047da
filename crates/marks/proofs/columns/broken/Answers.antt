use Rattle.std.proofs.Common.{◌≡◌, ℕ, ◌+◌, ◌<◌, ◌≤◌, true, false, List, Some, None, Option, MatchOption, sym, ◌∙◌, rules, tests, arith}
use Rattle.std.specs.List.{find, range_with_len}
use Rattle.std.proofs.lemmas.Iterator.Adapters.{option_map_id}
use Rattle.std.proofs.lemmas.Iterator.Search.{find_from_yields_List}
use Rattle.network.specs.Meaning.{Meaning}
use Rattle.marks.specs.Offers.{breaks, Broken}
use Rattle.marks.proofs.Ranges.{YieldsList-from_inclusive, first_from_range}
use Rattle.marks.proofs.columns.broken.Goals as goal

-- the links are the numbers from 1 to their count
of_links : (net : Meaning) (column : List ℕ) (o : Option ℕ) → MatchOption o ((k : ℕ) → 1 ≤ k → k < 1 + net.links → breaks net column k ≡ false) (λ k. (1 ≤ k) × (k < 1 + net.links) × (breaks net column k ≡ true)) → Broken net column o
of_links net column None h = λ k l. h k l.low (omega (arith, l.high))
of_links net column (Some k) h = (record { low = h.0; high = omega (arith, h.1) }, h.2)

pub returns : goal.returns
returns g c =
    let net = g.N.Network.meaning c.args.net.now in
    let first : c.find.result ≡ find (breaks net c.args.column.now) (range_with_len 1 net.links) = sym (option_map_id c.find.result) ∙ find_from_yields_List _ _ _ c.find.result c.find.ensures.ran (YieldsList-from_inclusive c.new.result 1 net.links c.new.ensures.start (omega arith) c.new.ensures.exhausted) (λ x b q k. search (rules, tests)) in
    of_links net c.args.column.now c.find.result (first_from_range (breaks net c.args.column.now) 1 net.links c.find.result first)
