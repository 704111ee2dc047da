use Rattle.std.proofs.Common.{◌≡◌, ℕ, List, [], ◌∷◌, Some, None, Option, MatchOption, sym, refl, ap, ◌∙◌, subst, rules}
use Rattle.std.specs.List.{last_or}
use Rattle.std.proofs.lemmas.Iterator.{items_from_drains}
use Rattle.std.proofs.lemmas.Iterator.Consumers.{YieldsList-from_first}
use Rattle.std.proofs.lemmas.List.{map-id}
use Rattle.records.specs.declared.layout.Point.{Point}
use Rattle.records.specs.Contents.{unnumbered}
use Rattle.records.specs.Reading.{to_come}
use Rattle.books.specs.Roads.{last_of, ends_of}
use Rattle.books.proofs.book.Book.ends.Goals as goal

module _ (first last : Point) where
  after : (x : ℕ × Point) (xs : List (ℕ × Point)) → MatchOption (last_or (Some x) xs) (last ≡ first) (λ (y : ℕ × Point). last ≡ y.1) → last ≡ last_of x.1 (unnumbered xs)
  after x [] h = h
  after x (y ∷ ys) h = after y ys h

  last_is : (xs : List (ℕ × Point)) → MatchOption (last_or None xs) (last ≡ first) (λ (y : ℕ × Point). last ≡ y.1) → last ≡ last_of first (unnumbered xs)
  last_is [] h = h
  last_is (x ∷ xs) h = after x xs h

pub returns : goal.returns
returns g c =
    let ran = c.last.ensures.ran in
    let rest : ran.0 ≡ to_come c.next.new.self = sym (map-id ran.0) ∙ items_from_drains ran.0 (ran.1.1.0, ran.1.1.1, (λ _. (ran.1.0, ran.1.1.2))) (YieldsList-from_first (λ x. x) to_come (to_come c.next.new.self) refl) in
    let e : MatchOption c.last.result (c.map_or-last.result ≡ c.in_ok-first.first) (λ (y : ℕ × Point). c.map_or-last.result ≡ y.1) = search rules in
    let l = last_is c.in_ok-first.first c.map_or-last.result ran.0 (subst (λ (o : Option (ℕ × Point)). MatchOption o (c.map_or-last.result ≡ c.in_ok-first.first) (λ (y : ℕ × Point). c.map_or-last.result ≡ y.1)) ran.2 e) in
    let one : to_come c.chain-points.result ≡ (c.in_ok-first.field-0-0, c.in_ok-first.first) ∷ to_come c.next.new.self = search rules in
    ap (λ (p : Point). Some (c.in_ok-first.first, p)) (l ∙ ap (λ xs. last_of c.in_ok-first.first (unnumbered xs)) rest)
    ∙ ap (λ xs. ends_of (unnumbered xs)) (sym one ∙ c.chain-points.ensures)
