-- The rules that a book obeys.
use Rattle.std.specs.Prelude.{◌≡◌, ℕ, ◌+◌, ◌<◌, ◌≤◌, List, [], ◌∷◌, length, Some, None, Option}
use Rattle.network.specs.Meaning.{Among}
use Rattle.records.specs.declared.kind.Kind.{Kind}
use Rattle.records.specs.declared.kind.Kind.TheVariants.{Road, Timetable}
use Rattle.records.specs.declared.layout.Point.{Point}
use Rattle.records.specs.declared.layout.End.TheVariants.{Tail, Head}
use Rattle.records.specs.Layout.{kind_number, kind_in, header_in, Within, size}
use Rattle.records.specs.Contents.{Contents, book_in, points_of, lowest_after}

-- the words begin with a header of this kind, and are as many as it says
pub record Headed (asked : Kind) (words : List ℕ) : Type 0 where
  pub long : 5 ≤ length words
  pub kind : kind_in words ≡ kind_number asked
  pub limits : Within (header_in words)
  pub full : length words ≡ size (header_in words)

-- a point's times are ticks, and its arrival is at least its departure plus the floor
pub record Timely (floor last : ℕ) (p : Point) : Type 0 where
  pub departs : p.departure ≤ last
  pub arrives : p.arrival ≤ last
  pub takes : p.departure + floor ≤ p.arrival

abbrev pub AllTimely : ℕ → ℕ → List Point → Type 0
AllTimely floor last [] = Unit {0}
AllTimely floor last (p ∷ ps) = Timely floor last p × AllTimely floor last ps

-- q departs after the point before and arrives no earlier; the first point of a chain has none before
abbrev pub Follows : Option Point → Point → Type 0
Follows None q = Unit {0}
Follows (Some p) q = (p.departure < q.departure) × (p.arrival ≤ q.arrival)

-- along a road departures rise strictly and arrivals never fall
abbrev pub Rising : Option Point → List Point → Type 0
Rising before [] = Unit {0}
Rising before (q ∷ qs) = Follows before q × Rising (Some q) qs

-- the order that a kind asks for along a chain: sailings may stand in any
abbrev pub Ordered : Kind → Option Point → List Point → Type 0
Ordered Road before ps = Rising before ps
Ordered Timetable before ps = Unit {0}

-- the rules for a book's records
pub record WellFormed (b : Contents) : Type 0 where
  pub tails : (k : ℕ) → Among k b.header.links → Among (b.link k).tail b.header.places
  pub heads : (k : ℕ) → Among k b.header.links → Among (b.link k).head b.header.places
  pub floors : (k : ℕ) → Among k b.header.links → Among (b.link k).floor b.header.last
  pub first_points : (k : ℕ) → Among k b.header.links → Among (b.link k).first_point b.header.points
  -- a next point is zero, or above its own number and at most the number of points
  pub next_points : (i : ℕ) → Among i b.header.points → 1 ≤ (b.point i).next → (i < (b.point i).next) × ((b.point i).next ≤ b.header.points)
  -- the chains of links out of a place and into a place go over the lowest links that are left
  pub first_outs : (v : ℕ) → Among v b.header.places → (b.place v).first_out ≡ lowest_after b Tail v 0
  pub first_ins : (v : ℕ) → Among v b.header.places → (b.place v).first_in ≡ lowest_after b Head v 0
  pub next_outs : (k : ℕ) → Among k b.header.links → (b.link k).next_out ≡ lowest_after b Tail (b.link k).tail k
  pub next_ins : (k : ℕ) → Among k b.header.links → (b.link k).next_in ≡ lowest_after b Head (b.link k).head k
  -- what lies on no chain may hold any times
  pub times : (k : ℕ) → Among k b.header.links → AllTimely (b.link k).floor b.header.last (points_of b k)
  pub orders : (k : ℕ) → Among k b.header.links → Ordered b.kind None (points_of b k)

-- The words are a book of this kind that obeys every rule.
pub record Obeys (kind : Kind) (words : List ℕ) : Type 0 where
  pub header : Headed kind words
  pub records : WellFormed (book_in kind words)
