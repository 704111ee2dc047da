-- What a book holds: its kind, its header and its records, each under its number; and what chains them.
use Rattle.std.specs.Prelude.{ℕ, zero, suc, ◌-◌, cond, List, [], ◌∷◌, map, ◌==◌}
use Rattle.network.specs.Links.{lowest}
use Rattle.records.specs.declared.kind.Kind.{Kind}
use Rattle.records.specs.declared.layout.Header.{Header}
use Rattle.records.specs.declared.layout.Place.{Place}
use Rattle.records.specs.declared.layout.Link.{Link}
use Rattle.records.specs.declared.layout.Point.{Point}
use Rattle.records.specs.declared.layout.End.{End}
use Rattle.records.specs.declared.layout.End.TheVariants.{Tail, Head}
use Rattle.records.specs.Layout.{header_in, place_at, link_at, point_at}

pub record Contents : Type 0 where
  pub kind : Kind
  pub header : Header
  pub place : ℕ → Place
  pub link : ℕ → Link
  pub point : ℕ → Point

abbrev pub laid_out : Kind → Header → List ℕ → Contents
laid_out kind h words = record { kind = kind; header = h; place = place_at h words; link = link_at h words; point = point_at h words }

-- the book of this kind that these words are
abbrev pub book_in : Kind → List ℕ → Contents
book_in kind words = laid_out kind (header_in words) words

-- the points chained from number i on, each with its number, at most `most` of them
abbrev pub chain : (ℕ → Point) → ℕ → ℕ → List (ℕ × Point)
chain point zero i = []
chain point (suc most) i = cond (i == 0) [] ((i, point i) ∷ chain point most (point i).next)

-- the points on link k's chain, each with its number
abbrev pub chain_of : Contents → ℕ → List (ℕ × Point)
chain_of b k = chain b.point b.header.points (b.link k).first_point

-- without the numbers
abbrev pub unnumbered : List (ℕ × Point) → List Point
unnumbered = map (λ (x : ℕ × Point). x.1)

-- the points on link k's chain
abbrev pub points_of : Contents → ℕ → List Point
points_of b k = unnumbered (chain_of b k)

abbrev pub end_of : End → Link → ℕ
end_of Tail link = link.tail
end_of Head link = link.head

-- the lowest link after link k that has this end at place v, or 0
abbrev pub lowest_after : Contents → End → ℕ → ℕ → ℕ
lowest_after b end v k = lowest (λ j. end_of end (b.link j)) v k (b.header.links - k)
