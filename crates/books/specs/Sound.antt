-- An open book is a network that keeps the laws.
use Rattle.std.specs.Prelude.{◌≡◌, ℕ, ◌+◌, ◌-◌, ◌≤◌, Bool, true, false, T, ◌↔◌, List, [], Some, None, vec_items, Option, nat_le, refl}
use Rattle.std.proofs.Common.{sym, ap, subst, subst₂, ◌∙◌, ⊎_elim, arith}
use Rattle.std.proofs.Math.Logic.{∥∥₁_elim}
use Rattle.std.proofs.lemmas.Bool.{le-leb, lt-leb, cond_both, cond-true, cond-false}
use Rattle.network.specs.Meaning.{Among}
use Rattle.network.specs.Laws.{Laws, Between, NoLater, NotBefore}
use Rattle.network.specs.Links.{lowest, first, next, first_out, next_out, first_in, next_in}
use Rattle.network.specs.Latest.{latest}
use Rattle.network.proofs.Ranges.{true_among, false_among, cases_among}
use Rattle.network.proofs.Greatest.{latest_tested}
use Rattle.records.specs.declared.kind.Kind.{Kind}
use Rattle.records.specs.declared.kind.Kind.TheVariants.{Road, Timetable}
use Rattle.records.specs.declared.layout.Place.{Place}
use Rattle.records.specs.declared.layout.Link.{Link}
use Rattle.records.specs.declared.layout.Point.{Point}
use Rattle.records.specs.declared.layout.End.{End}
use Rattle.records.specs.declared.layout.End.TheVariants.{Tail, Head}
use Rattle.refusals.specs.declared.fault.Fault.{Fault}
use Rattle.records.specs.declared.records.Records.{Records}
use Rattle.books.specs.declared.kinds.BookKind.{Ghosts}
use Rattle.books.specs.declared.book.Book.{Book}
use Rattle.records.specs.Layout.{header_in, Within, no_place, no_link, place_at, link_at}
use Rattle.records.specs.Contents.{Contents, laid_out, book_in, unnumbered, points_of, end_of, lowest_after}
use Rattle.records.specs.Rules.{AllTimely, Ordered, WellFormed, Obeys}
use Rattle.records.specs.Faults.{first_fault}
use Rattle.records.specs.Reading.{book_of}
use Rattle.books.specs.Networks.{arrival_by, back_by, book_network}
use Rattle.books.specs.Opened.{open_book}
use Rattle.records.proofs.Chains.{chain_end}
use Rattle.records.proofs.Obeying.{obeys_from_none, none_from_obeys}
use Rattle.books.specs.Timed.{Timed}
use Rattle.books.specs.Driving.{road_timed}
use Rattle.books.specs.Sailing.{sailing_timed}

-- A ghost field holds its fact truncated; it comes out through the test for a fault.
abbrev clean : Option Fault → Bool
clean None = true
clean (Some f) = false

clean_one : (t : Bool) → IsProp (T t)
clean_one true = λ x y. refl
clean_one false = λ x y. absurd x

clean_none : (o : Option Fault) → T (clean o) → o ≡ None
clean_none None h = refl
clean_none (Some f) h = absurd h

obeyed : (kind : Kind) (words : List ℕ) → ∥ Obeys kind words ∥₁ → Obeys kind words
obeyed kind words h = obeys_from_none kind words (clean_none (first_fault kind words) (∥∥₁_elim h (clean_one (clean (first_fault kind words))) (λ o. subst (λ x. T (clean x)) (sym (none_from_obeys kind words o)) tt)))

pub same_book : (r : Records) → book_of r ≡ book_in r.kind (vec_items r.words)
same_book r = ap (λ h. laid_out r.kind h (vec_items r.words)) r.read

-- what the laws rest on
pub record Sound (b : Contents) : Type 0 where
  pub limits : Within b.header
  pub records : WellFormed b
  pub no_place : (v : ℕ) → (Among v b.header.places → ⊥) → b.place v ≡ no_place
  pub no_link : (k : ℕ) → (Among k b.header.links → ⊥) → b.link k ≡ no_link

absent_place : (kind : Kind) (words : List ℕ) (v : ℕ) → (Among v (header_in words).places → ⊥) → (book_in kind words).place v ≡ no_place
unfolding place_at
absent_place kind words v h = cond-false _ _ _ (false_among v _ h)

absent_link : (kind : Kind) (words : List ℕ) (k : ℕ) → (Among k (header_in words).links → ⊥) → (book_in kind words).link k ≡ no_link
unfolding link_at
absent_link kind words k h = cond-false _ _ _ (false_among k _ h)

pub sound : {K : Type 0} {kind : Ghosts K} (b : Book K kind) → Sound (open_book b)
sound b =
    let kind = b.records.kind in
    let words = vec_items b.records.words in
    let o = obeyed kind words b.obeys in
    subst Sound (sym (same_book b.records)) (record { limits = o.header.limits; records = o.records; no_place = absent_place kind words; no_link = absent_link kind words })

timed : (kind : Kind) (floor last : ℕ) (ps : List Point) → AllTimely floor last ps → Ordered kind None ps → Timed floor last (arrival_by kind ps) (back_by kind ps)
timed Road floor last ps ts r = road_timed floor last ps ts r
timed Timetable floor last ps ts r = sailing_timed floor last ps ts

-- what arrives by a tick departs at a tick
by_within : (t floor last a : ℕ) (o : Option ℕ) → a ≤ last → Between (t + floor) last o → NoLater o (Some a) → t ≤ last
by_within t floor last a None h b n = absurd n
by_within t floor last a (Some y) h b n = omega arith

module _ (b : Contents) (s : Sound b) where
  no_points : (k : ℕ) → (Among k b.header.links → ⊥) → points_of b k ≡ []
  no_points k h = ap unnumbered (chain_end b.point _ _ (ap (λ (l : Link). l.first_point) (s.no_link k h)))

  empty : (kind : Kind) → Ordered kind None []
  empty Road = tt
  empty Timetable = tt

  pub in_order : (k : ℕ) → Ordered b.kind None (points_of b k)
  in_order k = ⊎_elim (s.records.orders k) (λ h. subst (Ordered b.kind None) (sym (no_points k h)) (empty b.kind)) (cases_among k b.header.links)

  is_timely : (k : ℕ) → AllTimely (b.link k).floor b.header.last (points_of b k)
  is_timely k = ⊎_elim (s.records.times k) (λ h. subst (AllTimely (b.link k).floor b.header.last) (sym (no_points k h)) tt) (cases_among k b.header.links)

  link_timed : (k : ℕ) → Timed (b.link k).floor b.header.last (arrival_by b.kind (points_of b k)) (back_by b.kind (points_of b k))
  link_timed k = timed b.kind (b.link k).floor b.header.last (points_of b k) (is_timely k) (in_order k)

  at_tick : (k t : ℕ) → t ≤ b.header.last → arrival_by b.kind (points_of b k) t ≡ (book_network b).arrival k t
  at_tick k t h = sym (cond-true _ _ _ (le-leb t b.header.last h))

  -- the departure that is computed is the latest
  pub latest_back : (k a : ℕ) → a ≤ b.header.last → back_by b.kind (points_of b k) a ≡ latest (book_network b) k a
  latest_back k a h =
      latest_tested (book_network b) k a _ h
      (λ x e. by_within x _ _ a _ h ((link_timed k).between x) (((link_timed k).exact a x).1 (subst (NotBefore x) (sym e) (omega arith))))
      (λ d l. subst (λ o. NoLater o (Some a) ↔ NotBefore d (back_by b.kind (points_of b k) a)) (at_tick k d l) ((link_timed k).exact a d))

  none_along : (kind : Kind) (t : ℕ) → arrival_by kind [] t ≡ None
  none_along Road t = refl
  none_along Timetable t = refl

  pub laws : Laws (book_network b)
  laws = record {
    places = s.limits.places;
    links = omega (arith, s.limits.links);
    last = s.limits.last;
    tail = s.records.tails;
    head = s.records.heads;
    floor = s.records.floors;
    arrival = λ k t l h. subst (Between (t + (b.link k).floor) b.header.last) (at_tick k t h) ((link_timed k).between t);
    fifo = λ k x t l h m. subst₂ NoLater (at_tick k x (omega arith)) (at_tick k t m) ((link_timed k).fifo x t h);
    no_link = λ k h. record {
      tail = ap (λ (l : Link). l.tail) (s.no_link k h);
      head = ap (λ (l : Link). l.head) (s.no_link k h);
      floor = ap (λ (l : Link). l.floor) (s.no_link k h);
      arrival = λ t. cond_both (nat_le t b.header.last) (arrival_by b.kind (points_of b k) t) None (λ o. o ≡ None) (λ _. ap (λ ps. arrival_by b.kind ps t) (no_points k h) ∙ none_along b.kind t) (λ _. refl);
    };
    no_tick = λ k t h. cond-false _ _ _ (lt-leb t b.header.last h);
  }

  -- the chains of links
  first_found : (end : End) (v found : ℕ) → (Among v b.header.places → found ≡ lowest_after b end v 0) → ((Among v b.header.places → ⊥) → found ≡ 0) → found ≡ first (book_network b) (λ k. end_of end (b.link k)) v
  first_found end v found there absent =
      ⊎_elim
      (λ a. let e : b.header.links - 0 ≡ b.header.links = omega arith in there a ∙ (ap (lowest (λ k. end_of end (b.link k)) v 0) e ∙ sym (cond-true _ _ _ (true_among v _ a))))
      (λ n. absent n ∙ sym (cond-false _ _ _ (false_among v _ n)))
      (cases_among v b.header.places)

  next_found : (end : End) (k found : ℕ) → (Among k b.header.links → found ≡ lowest_after b end (end_of end (b.link k)) k) → ((Among k b.header.links → ⊥) → found ≡ 0) → found ≡ next (book_network b) (λ j. end_of end (b.link j)) k
  next_found end k found there absent =
      ⊎_elim
      (λ a. there a ∙ sym (cond-true _ _ _ (true_among k _ a)))
      (λ n. absent n ∙ sym (cond-false _ _ _ (false_among k _ n)))
      (cases_among k b.header.links)

  pub out_first : (v : ℕ) → (b.place v).first_out ≡ first_out (book_network b) v
  out_first v = first_found Tail v _ (s.records.first_outs v) (λ n. ap (λ (p : Place). p.first_out) (s.no_place v n))

  pub in_first : (v : ℕ) → (b.place v).first_in ≡ first_in (book_network b) v
  in_first v = first_found Head v _ (s.records.first_ins v) (λ n. ap (λ (p : Place). p.first_in) (s.no_place v n))

  pub out_next : (k : ℕ) → (b.link k).next_out ≡ next_out (book_network b) k
  out_next k = next_found Tail k _ (s.records.next_outs k) (λ n. ap (λ (l : Link). l.next_out) (s.no_link k n))

  pub in_next : (k : ℕ) → (b.link k).next_in ≡ next_in (book_network b) k
  in_next k = next_found Head k _ (s.records.next_ins k) (λ n. ap (λ (l : Link). l.next_in) (s.no_link k n))

-- the points along a chain stand in the order that the type of the book asks for
pub ordered : {K : Type 0} {of : Ghosts K} (b : Book K of) (k : ℕ) → Ordered of.kind None (points_of (open_book b) k)
ordered {of = of} b k = subst (λ (kind : Kind). Ordered kind None (points_of (open_book b) k)) b.of_kind (in_order (open_book b) (sound b) k)
