-- The kind that a book's first word names.
use Rattle.std.specs.Prelude.{◌≡◌, ℕ, Ok, Err, Result, ◌≢◌}
use Rattle.records.specs.declared.kind.Kind.{Kind}
use Rattle.records.specs.declared.kind.UnknownKind.{UnknownKind}
use Rattle.records.specs.Layout.{kind_number}

-- the word is the kind's, or no kind's
abbrev pub Names : ℕ → Result Kind UnknownKind → Type 0
Names word (Ok kind) = kind_number kind ≡ word
Names word (Err unknown) = (kind : Kind) → kind_number kind ≢ word
