use Rattle.std.proofs.Common.{◌≡◌, ℕ, true, false, ◌↔◌, List, Some, None, vec_items, Option, Vec, sym, refl, ap, ◌∙◌, ap₂, arith}
use Rattle.std.proofs.lemmas.Bool.{false≢true}
use Rattle.std.specs.declared.alloc.Global.{Global}
use Rattle.std.proofs.lemmas.Result.{err_from_is_err_and}
use Rattle.refusals.specs.declared.fault.Fault.{Fault}
use Rattle.records.specs.declared.kind.Kind.{Kind}
use Rattle.records.specs.declared.records.Records.{Records}
use Rattle.records.specs.Contents.{book_in}
use Rattle.records.specs.Faults.{or_else, header_fault, size_fault, first_by, all_checks, first_fault}
use Rattle.records.specs.Reading.{book_of}
use Rattle.records.specs.Rules.{Obeys}
use Rattle.records.proofs.Unless.{or_first, or_next}
use Rattle.records.proofs.Obeying.{obeys_from_none, none_from_obeys}
use Rattle.books.specs.Sound.{same_book}
use Rattle.books.proofs.book.Book.open.Goals as goal

-- what a fault says of acceptance
not_obeyed : (kind : Kind) (words : List ℕ) (f : Fault) → first_fault kind words ≡ Some f → (false ≡ true) ↔ Obeys kind words
not_obeyed kind words f e = ((λ z. absurd (false≢true z)), (λ o. absurd (let n = none_from_obeys kind words o in let z : ◌≡◌ {A = ℕ} 0 1 = cc in omega arith)))

obeyed : (kind : Kind) (words : List ℕ) → first_fault kind words ≡ None → (true ≡ true) ↔ Obeys kind words
obeyed kind words e = ((λ _. obeys_from_none kind words e), (λ _. refl))

-- what comes after two parts of the first fault
or_or : (a b c : Option Fault) → or_else a (or_else b c) ≡ or_else (or_else a b) c
or_or None b c = refl
or_or (Some f) b c = refl

header_first : (kind : Kind) (words : List ℕ) (f : Fault) → or_else (header_fault kind words) (size_fault words) ≡ Some f → first_fault kind words ≡ Some f
unfolding first_fault
header_first kind words f e = or_or (header_fault kind words) (size_fault words) _ ∙ or_first _ _ f e

-- the book that is held is the one that the words are
held : (r : Records) (kind : Kind) (words : Vec ℕ Global) → r.kind ≡ kind → r.words ≡ words → book_of r ≡ book_in kind (vec_items words)
held r kind words k e = same_book r ∙ ap₂ (λ (k : Kind) (w : Vec ℕ Global). book_in k (vec_items w)) k e

-- once the header and the number of words are right, the first fault is that of the records
records_first : (r : Records) (kind : Kind) (words : Vec ℕ Global) (o : Option Fault) → r.kind ≡ kind → r.words ≡ words → or_else (header_fault kind (vec_items words)) (size_fault (vec_items words)) ≡ None → o ≡ first_by (book_of r) all_checks → first_fault kind (vec_items words) ≡ o
unfolding first_fault
records_first r kind words o k e h f = or_or (header_fault kind (vec_items words)) (size_fault (vec_items words)) _ ∙ (or_next _ _ h ∙ sym (f ∙ ap (λ b. first_by b all_checks) (held r kind words k e)))

pub returns-in_err-records : goal.returns-in_err-records
returns-in_err-records g c =
    let p = err_from_is_err_and c.from_residual.result c.from_residual.ensures.1 in
    let h = rw c.kind-kind.ensures at c.in_err-records.ensures in
    let f = header_first _ _ _ h.0 in
    rw (p.1, p.2) (record { accepted = not_obeyed _ _ _ f; book = tt; fault = sym f; words = h.1 })

pub returns-in-Some : goal.returns-in-Some
returns-in-Some g c =
    let h = rw c.kind-kind.ensures at c.in_ok-records.ensures in
    let f = records_first c.in_ok-records.records g.K.BookKind.kind c.args.words _ h.1 h.2 h.0 c.first_fault.ensures ∙ c.in-Some.is in
    record { accepted = not_obeyed _ _ _ f; book = tt; fault = sym f; words = h.2 }

pub invariant_of-result : goal.invariant_of-result
invariant_of-result g c =
    let h = rw c.kind-kind.ensures at c.in_ok-records.ensures in
    let f = records_first c.in_ok-records.records g.K.BookKind.kind c.args.words _ h.1 h.2 h.0 c.first_fault.ensures ∙ c.in_default.is in
    record { of_kind = h.1; obeys = ∣ obeys_from_none _ _ (ap₂ (λ (k : Kind) (w : Vec ℕ Global). first_fault k (vec_items w)) h.1 h.2 ∙ f) ∣₁ }

pub returns : goal.returns
returns g c =
    let h = rw c.kind-kind.ensures at c.in_ok-records.ensures in
    let f = records_first c.in_ok-records.records g.K.BookKind.kind c.args.words _ h.1 h.2 h.0 c.first_fault.ensures ∙ c.in_default.is in
    record {
      accepted = obeyed _ _ f;
      book = held c.in_ok-records.records g.K.BookKind.kind c.args.words h.1 h.2;
      fault = sym f;
      words = h.2;
    }
