use Rattle.std.proofs.Common.{◌≡◌, ℕ, ◌+◌, List, length, drop, None, sym, refl, ap, ◌∙◌, subst, arith, length-drop}
use Rattle.records.specs.declared.kind.Kind.{Kind}
use Rattle.records.specs.Layout.{header_in, within, size}
use Rattle.records.specs.Faults.{header_fault}
use Rattle.records.proofs.Unless.{or_next}
use Rattle.records.proofs.Headers.{read_from_none, not_full, full}
use Rattle.records.proofs.records.Records.read.Goals as goal

-- what the parts say of all words, where the slice that was split holds them
module _ (kind : Kind) (words slice rest : List ℕ) (same : slice ≡ words) (none : header_fault kind slice ≡ None) (cut : rest ≡ drop 5 slice) where
  right : header_fault kind words ≡ None
  right = subst (λ ws. header_fault kind ws ≡ None) same none

  whole : 5 + length rest ≡ length words
  whole = let l = (read_from_none kind words right).long in ap (λ xs. 5 + length xs) (cut ∙ ap (drop 5) same) ∙ simp length-drop (omega arith)

pub returns-then-rest-size : goal.returns-then-rest-size
returns-then-rest-size c =
    let v = c.as_slice.ensures.value in
    let s = c.in-Ok.ensures in
    let r = right c.args.kind _ _ c.in-Ok.rest.now v s.0 s.2 in
    let w = whole c.args.kind _ _ c.in-Ok.rest.now v s.0 s.2 in
    rw c.at.ensures (or_next _ _ r ∙ not_full _ (λ e. c.if-rest-size.true (w ∙ (e ∙ (ap size (sym (s.1 ∙ ap header_in v)) ∙ sym c.size.ensures)))), refl)

pub invariant_of-result : goal.invariant_of-result
invariant_of-result c =
    let v = c.as_slice.ensures.value in
    let s = c.in-Ok.ensures in
    let e = s.1 ∙ ap header_in v in
    let r = right c.args.kind _ _ c.in-Ok.rest.now v s.0 s.2 in
    let w = whole c.args.kind _ _ c.in-Ok.rest.now v s.0 s.2 in
    record { read = e; limits = ap within e ∙ (read_from_none c.args.kind _ r).limits; full = sym w ∙ (c.if-rest-size.false ∙ c.size.ensures) }

pub returns : goal.returns
returns c =
    let v = c.as_slice.ensures.value in
    let s = c.in-Ok.ensures in
    let r = right c.args.kind _ _ c.in-Ok.rest.now v s.0 s.2 in
    let w = whole c.args.kind _ _ c.in-Ok.rest.now v s.0 s.2 in
    (or_next _ _ r ∙ full _ (sym w ∙ (c.if-rest-size.false ∙ (c.size.ensures ∙ ap size (s.1 ∙ ap header_in v)))), refl, refl)
