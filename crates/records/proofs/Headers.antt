-- The header, as the checks read it and as the rules ask it.
use Rattle.std.proofs.Common.{◌≡◌, ℕ, ◌<◌, ◌≤◌, true, false, leb, List, length, None, ◌∙◌}
use Rattle.std.proofs.lemmas.Bool.{le-leb, lt-leb, leb-true, eq-eqb, ne_eqb, eqb-true, and_parts, and_from}
use Rattle.network.proofs.Ranges.{among_true, true_among}
use Rattle.records.specs.declared.kind.Kind.{Kind as BookKind}
use Rattle.records.specs.declared.layout.Header.{Header}
use Rattle.refusals.specs.declared.fault.Cause.TheVariants.{Length, Kind, Limits}
use Rattle.refusals.specs.declared.fault.Record.TheVariants.{Header as of_header}
use Rattle.records.specs.Layout.{kind_number, kind_in, header_in, Within, within, size}
use Rattle.records.specs.Rules.{Headed}
use Rattle.records.specs.Faults.{header_fault, size_fault}
use Rattle.records.proofs.Unless.{fault, passed, caught, unless_none}

pub within_true : (h : Header) → within h ≡ true → Within h
within_true h e =
    let a = and_parts _ _ e in
    let b = and_parts _ _ a.0 in
    let c = and_parts _ _ b.0 in
    record { places = among_true _ _ c.0; links = leb-true _ _ c.1; points = leb-true _ _ b.1; last = among_true _ _ a.1 }

pub true_within : (h : Header) → Within h → within h ≡ true
true_within h w = and_from _ _ (and_from _ _ (and_from _ _ (true_among _ _ w.places) (le-leb _ _ w.links)) (le-leb _ _ w.points)) (true_among _ _ w.last)

-- what the tests of a header say of its fault, test by test
module _ (kind : BookKind) (words : List ℕ) where
  pub under_five : length words < 5 → header_fault kind words ≡ fault Length of_header
  unfolding header_fault
  under_five h = caught (leb 5 (length words)) Length of_header _ (lt-leb 5 (length words) h)

  module _ (long : 5 ≤ length words) where
    pub other_kind : (kind_in words ≡ kind_number kind → ⊥) → header_fault kind words ≡ fault Kind of_header
    unfolding header_fault
    other_kind h = passed _ Length of_header _ (le-leb 5 (length words) long) ∙ caught _ Kind of_header _ (ne_eqb _ _ h)

    module _ (same : kind_in words ≡ kind_number kind) where
      pub outside : within (header_in words) ≡ false → header_fault kind words ≡ fault Limits of_header
      unfolding header_fault
      outside h = passed _ Length of_header _ (le-leb 5 (length words) long) ∙ (passed _ Kind of_header _ (eq-eqb _ _ same) ∙ caught _ Limits of_header _ h)

      pub right : within (header_in words) ≡ true → header_fault kind words ≡ None
      unfolding header_fault
      right h = passed _ Length of_header _ (le-leb 5 (length words) long) ∙ (passed _ Kind of_header _ (eq-eqb _ _ same) ∙ passed _ Limits of_header None h)

-- and what the number of words says
module _ (words : List ℕ) where
  pub not_full : (length words ≡ size (header_in words) → ⊥) → size_fault words ≡ fault Length of_header
  unfolding size_fault
  not_full h = caught _ Length of_header None (ne_eqb _ _ h)

  pub full : length words ≡ size (header_in words) → size_fault words ≡ None
  unfolding size_fault
  full h = passed _ Length of_header None (eq-eqb _ _ h)

-- what a right header says
pub record Read (kind : BookKind) (words : List ℕ) : Type 0 where
  pub long : 5 ≤ length words
  pub same : kind_in words ≡ kind_number kind
  pub limits : within (header_in words) ≡ true

pub read_from_none : (kind : BookKind) (words : List ℕ) → header_fault kind words ≡ None → Read kind words
unfolding header_fault
read_from_none kind words e =
    let p = unless_none _ Length of_header _ e in
    let q = unless_none _ Kind of_header _ p.1 in
    let r = unless_none _ Limits of_header None q.1 in
    record { long = leb-true 5 (length words) p.0; same = eqb-true _ _ q.0; limits = r.0 }

pub headed_from_none : (kind : BookKind) (words : List ℕ) → header_fault kind words ≡ None → size_fault words ≡ None → Headed kind words
unfolding size_fault
headed_from_none kind words e f =
    let r = read_from_none kind words e in
    record { long = r.long; kind = r.same; limits = within_true _ r.limits; full = eqb-true _ _ (unless_none _ Length of_header None f).0 }

pub none_from_headed : (kind : BookKind) (words : List ℕ) → Headed kind words → (header_fault kind words ≡ None) × (size_fault words ≡ None)
none_from_headed kind words h = (right kind words h.long h.kind (true_within _ h.limits), full words h.full)
