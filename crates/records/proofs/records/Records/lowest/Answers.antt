use Rattle.std.proofs.Common.{◌≡◌, ℕ, zero, suc, ◌+◌, ◌-◌, Bool, true, false, cond, eqb, Some, None, Option, MatchOption, sym, refl, ap, ◌∙◌, arith, rules, tests}
use Rattle.std.specs.List.{find, range_with_len}
use Rattle.std.proofs.lemmas.Iterator.{YieldsList-from_range}
use Rattle.std.proofs.lemmas.Iterator.Adapters.{option_map_id}
use Rattle.std.proofs.lemmas.Iterator.Search.{find_from_yields_List}
use Rattle.network.specs.Links.{lowest}
use Rattle.records.specs.Contents.{end_of}
use Rattle.records.specs.Reading.{book_of}
use Rattle.records.proofs.records.Records.lowest.Goals as goal

-- the number after the one that is found, or 0
abbrev next : Option ℕ → ℕ
next None = 0
next (Some k) = k + 1

module _ (end : ℕ → ℕ) (place : ℕ) where
  abbrev ends : ℕ → Bool
  ends k = eqb (end (k + 1)) place

  choose : (b : Bool) (a : ℕ) (o : Option ℕ) → next (cond b (Some a) o) ≡ cond b (a + 1) (next o)
  choose true a o = refl
  choose false a o = refl

  found : (n a : ℕ) → next (find ends (range_with_len a n)) ≡ lowest end place a n
  found zero a = refl
  found (suc n) a =
      let e : a + 1 ≡ suc a = omega arith in
      choose (ends a) a (find ends (range_with_len (a + 1) n))
      ∙ (ap (cond (ends a) (a + 1)) (found n (a + 1))
      ∙ ap (λ j. cond (eqb (end j) place) j (lowest end place j n)) e)

-- what `map_or` makes of it
mapped : (o : Option ℕ) (r : ℕ) → MatchOption o (r ≡ 0) (λ k. r ≡ k + 1) → r ≡ next o
mapped None r e = e
mapped (Some k) r e = e

pub returns : goal.returns
returns c =
    let end = λ (j : ℕ). end_of c.args.end ((book_of c.args.self.now).link j) in
    let n = c.args.self.now.header.links - c.args.after in
    let e : MatchOption c.find.result (c.map_or.result ≡ 0) (λ (k : ℕ). c.map_or.result ≡ k + 1) = search rules in
    mapped c.find.result c.map_or.result e
    ∙ (ap next (sym (option_map_id c.find.result) ∙ find_from_yields_List (ends end c.args.place) _ _ c.find.result c.find.ensures.ran (YieldsList-from_range c.args.after c.args.self.now.header.links n refl refl) (λ x b q k. search (rules, tests)))
    ∙ found end c.args.place n c.args.after)
