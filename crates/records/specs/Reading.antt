-- The book that a value of the code holds.
use Rattle.std.specs.Prelude.{ℕ, List, vec_items}
use Rattle.records.specs.declared.layout.Point.{Point}
use Rattle.records.specs.declared.records.Records.{Records}
use Rattle.records.specs.declared.chain.Chain.{Chain}
use Rattle.records.specs.Contents.{Contents, laid_out, chain}

abbrev pub book_of : Records → Contents
book_of r = laid_out r.kind r.header (vec_items r.words)

-- the points still to come on a walk along a chain
abbrev pub to_come : Chain → List (ℕ × Point)
to_come c = chain (book_of c.records.now).point c.left c.at
