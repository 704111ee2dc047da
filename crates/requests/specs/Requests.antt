-- An input's book, by how many of the words it takes, and a question, by its bytes.
use Rattle.std.specs.Prelude.{ℕ, cond, ◌&&◌, List, length, None, Ok, Err, Option, Result, ◌==◌, nat_le}
use Rattle.refusals.specs.declared.fault.Cause.TheVariants.{Length}
use Rattle.refusals.specs.declared.fault.Record.TheVariants.{Header as of_header}
use Rattle.refusals.specs.declared.fault.Fault.{Fault}
use Rattle.records.specs.declared.kind.Kind.TheVariants.{Road}
use Rattle.records.specs.Bytes.{word_at}
use Rattle.records.specs.Layout.{header_in, size}
use Rattle.records.specs.Faults.{header_fault, or_else, unless}
use Rattle.requests.specs.declared.question.Kind.{Kind}
use Rattle.requests.specs.declared.question.Kind.TheVariants.{DepartAt, ArriveBy}
use Rattle.requests.specs.declared.question.Request.{Request}
use Rattle.requests.specs.declared.question.Unread.{Unread}
use Rattle.requests.specs.declared.question.Unread.TheVariants.{Short, NoKind}

-- what is wrong with the book at the front of the words: its header, and then that it is cut short or over 64 KiB
unfoldable pub front_fault : List ℕ → Option Fault
front_fault words =
    or_else (header_fault Road words)
    (unless (nat_le (size (header_in words)) (length words) && nat_le (size (header_in words)) 16384) Length of_header None)

-- the kind that a word names
abbrev pub kind_in : ℕ → Result Kind Unread
kind_in word = cond (word == 1) (Ok DepartAt) (cond (word == 2) (Ok ArriveBy) (Err NoKind))

-- the question of this kind in the bytes
abbrev pub asked_in : Kind → List ℕ → Request
asked_in kind bytes = record { kind = kind; start = word_at bytes 1; destination = word_at bytes 2; tick = word_at bytes 3 }

-- the question of a kind that is read, or why there is none
abbrev pub of_kind : List ℕ → Result Kind Unread → Result Request Unread
of_kind bytes (Ok kind) = Ok (asked_in kind bytes)
of_kind bytes (Err unread) = Err unread

-- the question in the first sixteen bytes, or why it can't be read
abbrev pub request_in : List ℕ → Result Request Unread
request_in bytes = cond (nat_le 16 (length bytes)) (of_kind bytes (kind_in (word_at bytes 0))) (Err Short)

-- the number that each is refused with
abbrev pub unread_number : Unread → ℕ
unread_number Short = 1
unread_number NoKind = 14
