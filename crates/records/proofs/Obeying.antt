-- Words have no fault exactly when they obey every rule.
use Rattle.std.proofs.Common.{◌≡◌, ℕ, ◌<◌, ◌≤◌, true, ◌||◌, eqb, ltb, leb, List, [], ◌∷◌, Some, None, Option, refl, ⊎_elim, arith}
use Rattle.std.proofs.lemmas.Bool.{eq-eqb, le-leb, lt-ltb, leb-true, ltb-true, eqb-true, cases_eq, and_parts, and_from, or_cases, or_left, or_right}
use Rattle.network.specs.Meaning.{Among}
use Rattle.network.proofs.Ranges.{among_true, true_among}
use Rattle.records.specs.declared.kind.Kind.{Kind as BookKind}
use Rattle.records.specs.declared.kind.Kind.TheVariants.{Road, Timetable}
use Rattle.records.specs.declared.layout.Header.{Header}
use Rattle.records.specs.declared.layout.Link.{Link}
use Rattle.records.specs.declared.layout.Point.{Point}
use Rattle.refusals.specs.declared.fault.Cause.TheVariants.{Chain, Ends, Floor, PointIndex, Time, Order}
use Rattle.refusals.specs.declared.fault.Record.TheVariants.{Place as of_place, Link as of_link, Point as of_point}
use Rattle.records.specs.declared.checks.Check.TheVariants.{Links, Points, PlaceChains, LinkChains, Times}
use Rattle.records.specs.Contents.{Contents, book_in, chain_of, unnumbered}
use Rattle.records.specs.Rules.{Timely, AllTimely, Follows, Ordered, WellFormed, Obeys}
use Rattle.records.specs.Faults.{header_fault, size_fault, link_fault, point_fault, place_chain_fault, link_chain_fault, timely, follows, walk_fault, times_fault, fault_by, first_of, first_by, all_checks, first_fault}
use Rattle.records.proofs.Unless.{none_unless, unless_none, else_none, none_else}
use Rattle.records.proofs.Firsts.{of_none, none_of}
use Rattle.records.proofs.Headers.{headed_from_none, none_from_headed}

-- a link by itself
record LinkObeys (h : Header) (link : Link) : Type 0 where
  tail : Among link.tail h.places
  head : Among link.head h.places
  floor : Among link.floor h.last
  first : Among link.first_point h.points

link_from_none : (h : Header) (k : ℕ) (link : Link) → link_fault h k link ≡ None → LinkObeys h link
link_from_none h k link e =
    let p = unless_none _ Ends (of_link k) _ e in
    let q = unless_none _ Floor (of_link k) _ p.1 in
    let r = unless_none _ PointIndex (of_link k) _ q.1 in
    let ends = and_parts _ _ p.0 in
    record { tail = among_true _ _ ends.0; head = among_true _ _ ends.1; floor = among_true _ _ q.0; first = among_true _ _ r.0 }

none_from_link : (h : Header) (k : ℕ) (link : Link) → LinkObeys h link → link_fault h k link ≡ None
none_from_link h k link o =
    none_unless _ Ends (of_link k) _ (and_from _ _ (true_among _ _ o.tail) (true_among _ _ o.head))
    (none_unless _ Floor (of_link k) _ (true_among _ _ o.floor)
    (none_unless _ PointIndex (of_link k) None (true_among _ _ o.first) refl))

-- a point by itself
abbrev NextObeys : Header → ℕ → Point → Type 0
NextObeys h i p = 1 ≤ p.next → (i < p.next) × (p.next ≤ h.points)

point_from_none : (h : Header) (i : ℕ) (p : Point) → point_fault h i p ≡ None → NextObeys h i p
point_from_none h i p e l =
    let t = and_parts (eqb p.next 0 || ltb i p.next) (leb p.next h.points) (unless_none _ PointIndex (of_point i) None e).0 in
    (⊎_elim (λ z. absurd (let q = eqb-true p.next 0 z in omega arith)) (λ z. ltb-true i p.next z) (or_cases (eqb p.next 0) (ltb i p.next) t.0), leb-true p.next h.points t.1)

none_from_point : (h : Header) (i : ℕ) (p : Point) → NextObeys h i p → point_fault h i p ≡ None
none_from_point h i p o =
    none_unless _ PointIndex (of_point i) None
    (⊎_elim
    (λ z. and_from _ _ (or_left _ (ltb i p.next) (eq-eqb p.next 0 z)) (le-leb p.next h.points (omega arith)))
    (λ z. let n = o (omega arith) in and_from _ _ (or_right (eqb p.next 0) _ (lt-ltb i p.next n.0)) (le-leb p.next h.points n.1))
    (cases_eq p.next 0))
    refl

-- the points along a chain
timely_true : (floor last : ℕ) (p : Point) → timely floor last p ≡ true → Timely floor last p
timely_true floor last p e =
    let a = and_parts _ _ e in
    let b = and_parts _ _ a.0 in
    record { departs = leb-true _ _ b.0; arrives = leb-true _ _ b.1; takes = leb-true _ _ a.1 }

true_timely : (floor last : ℕ) (p : Point) → Timely floor last p → timely floor last p ≡ true
true_timely floor last p t = and_from _ _ (and_from _ _ (le-leb _ _ t.departs) (le-leb _ _ t.arrives)) (le-leb _ _ t.takes)

follows_true : (before : Option Point) (q : Point) → follows Road before q ≡ true → Follows before q
follows_true None q e = tt
follows_true (Some p) q e = let a = and_parts _ _ e in (ltb-true _ _ a.0, leb-true _ _ a.1)

true_follows : (before : Option Point) (q : Point) → Follows before q → follows Road before q ≡ true
true_follows None q f = refl
true_follows (Some p) q f = and_from _ _ (lt-ltb _ _ f.0) (le-leb _ _ f.1)

-- the order after a point, and before it
ordered_more : (kind : BookKind) (before : Option Point) (q : Point) (qs : List Point) → follows kind before q ≡ true → Ordered kind (Some q) qs → Ordered kind before (q ∷ qs)
ordered_more Road before q qs e o = (follows_true before q e, o)
ordered_more Timetable before q qs e o = tt

ordered_less : (kind : BookKind) (before : Option Point) (q : Point) (qs : List Point) → Ordered kind before (q ∷ qs) → (follows kind before q ≡ true) × Ordered kind (Some q) qs
ordered_less Road before q qs o = (true_follows before q o.0, o.1)
ordered_less Timetable before q qs o = (refl, tt)

unordered : (kind : BookKind) (before : Option Point) → Ordered kind before []
unordered Road before = tt
unordered Timetable before = tt

walk_from_none : (b : Contents) (k : ℕ) (before : Option Point) (chain : List (ℕ × Point)) → walk_fault b k before chain ≡ None → AllTimely (b.link k).floor b.header.last (unnumbered chain) × Ordered b.kind before (unnumbered chain)
walk_from_none b k before [] e = (tt, unordered b.kind before)
walk_from_none b k before ((i, p) ∷ rest) e =
    let t = unless_none _ (Time k) (of_point i) _ e in
    let o = unless_none _ (Order k) (of_point i) _ t.1 in
    let r = walk_from_none b k (Some p) rest o.1 in
    ((timely_true _ _ _ t.0, r.0), ordered_more b.kind before p _ o.0 r.1)

none_from_walk : (b : Contents) (k : ℕ) (before : Option Point) (chain : List (ℕ × Point)) → AllTimely (b.link k).floor b.header.last (unnumbered chain) → Ordered b.kind before (unnumbered chain) → walk_fault b k before chain ≡ None
none_from_walk b k before [] t r = refl
none_from_walk b k before ((i, p) ∷ rest) t r =
    let o = ordered_less b.kind before p _ r in
    none_unless _ (Time k) (of_point i) _ (true_timely _ _ _ t.0)
    (none_unless _ (Order k) (of_point i) _ o.0
    (none_from_walk b k (Some p) rest t.1 o.1))

-- all records
records_from_none : (b : Contents) → first_by b all_checks ≡ None → WellFormed b
unfolding fault_by
records_from_none b e =
    let p = else_none (first_of (fault_by b Links) b.header.links) _ e in
    let q = else_none (first_of (fault_by b Points) b.header.points) _ p.1 in
    let r = else_none (first_of (fault_by b PlaceChains) b.header.places) _ q.1 in
    let s = else_none (first_of (fault_by b LinkChains) b.header.links) _ r.1 in
    let t = else_none (first_of (fault_by b Times) b.header.links) None s.1 in
    let links : (k : ℕ) → Among k b.header.links → LinkObeys b.header (b.link k) = λ k h. link_from_none b.header k (b.link k) (of_none (fault_by b Links) _ p.0 k h) in
    let places : (v : ℕ) → Among v b.header.places → place_chain_fault b v ≡ None = of_none (fault_by b PlaceChains) _ r.0 in
    let nexts : (k : ℕ) → Among k b.header.links → link_chain_fault b k ≡ None = of_none (fault_by b LinkChains) _ s.0 in
    let walks : (k : ℕ) → Among k b.header.links → times_fault b k ≡ None = of_none (fault_by b Times) _ t.0 in
    record {
      tails = λ k h. (links k h).tail;
      heads = λ k h. (links k h).head;
      floors = λ k h. (links k h).floor;
      first_points = λ k h. (links k h).first;
      next_points = λ i h. point_from_none b.header i (b.point i) (of_none (fault_by b Points) _ q.0 i h);
      first_outs = λ v h. eqb-true _ _ (and_parts _ _ (unless_none _ Chain (of_place v) None (places v h)).0).0;
      first_ins = λ v h. eqb-true _ _ (and_parts _ _ (unless_none _ Chain (of_place v) None (places v h)).0).1;
      next_outs = λ k h. eqb-true _ _ (and_parts _ _ (unless_none _ Chain (of_link k) None (nexts k h)).0).0;
      next_ins = λ k h. eqb-true _ _ (and_parts _ _ (unless_none _ Chain (of_link k) None (nexts k h)).0).1;
      times = λ k h. (walk_from_none b k None (chain_of b k) (walks k h)).0;
      orders = λ k h. (walk_from_none b k None (chain_of b k) (walks k h)).1;
    }

none_from_records : (b : Contents) → WellFormed b → first_by b all_checks ≡ None
unfolding fault_by
none_from_records b w =
    none_else _ _ (none_of (fault_by b Links) _ (λ k h. none_from_link b.header k (b.link k) (record { tail = w.tails k h; head = w.heads k h; floor = w.floors k h; first = w.first_points k h })))
    (none_else _ _ (none_of (fault_by b Points) _ (λ i h. none_from_point b.header i (b.point i) (w.next_points i h)))
    (none_else _ _ (none_of (fault_by b PlaceChains) _ (λ v h. none_unless _ Chain (of_place v) None (and_from _ _ (eq-eqb _ _ (w.first_outs v h)) (eq-eqb _ _ (w.first_ins v h))) refl))
    (none_else _ _ (none_of (fault_by b LinkChains) _ (λ k h. none_unless _ Chain (of_link k) None (and_from _ _ (eq-eqb _ _ (w.next_outs k h)) (eq-eqb _ _ (w.next_ins k h))) refl))
    (none_else _ _ (none_of (fault_by b Times) _ (λ k h. none_from_walk b k None (chain_of b k) (w.times k h) (w.orders k h))) refl))))

pub obeys_from_none : (kind : BookKind) (words : List ℕ) → first_fault kind words ≡ None → Obeys kind words
unfolding first_fault
obeys_from_none kind words e =
    let p = else_none (header_fault kind words) _ e in
    let q = else_none (size_fault words) _ p.1 in
    record { header = headed_from_none kind words p.0 q.0; records = records_from_none (book_in kind words) q.1 }

pub none_from_obeys : (kind : BookKind) (words : List ℕ) → Obeys kind words → first_fault kind words ≡ None
unfolding first_fault
none_from_obeys kind words o =
    let h = none_from_headed kind words o.header in
    none_else _ _ h.0 (none_else _ _ h.1 (none_from_records (book_in kind words) o.records))
