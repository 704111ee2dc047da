-- The numbers of refusals.
use Rattle.std.specs.Prelude.{ℕ}
use Rattle.refusals.specs.declared.fault.Cause.{Cause}
use Rattle.refusals.specs.declared.fault.Cause.TheVariants.{Length, Kind, Limits, Chain, Ends, Floor, PointIndex, Time, Order}
use Rattle.refusals.specs.declared.fault.Record.{Record}
use Rattle.refusals.specs.declared.fault.Record.TheVariants.{Header, Place, Link, Point}
use Rattle.refusals.specs.declared.joining.Misfit.{Misfit}
use Rattle.refusals.specs.declared.joining.Misfit.TheVariants.{Unequal, TooManyLinks}
use Rattle.refusals.specs.declared.notice.NoticeRefusal.{NoticeRefusal}
use Rattle.refusals.specs.declared.notice.NoticeRefusal.TheVariants.{AlreadyStanding, NotStanding, NoRoom, NoDelay}
use Rattle.refusals.specs.declared.column.ColumnRefusal.{ColumnRefusal}
use Rattle.refusals.specs.declared.column.ColumnRefusal.TheVariants.{TooManyMarks, ColumnLength, AboveLast, BrokenRule}
use Rattle.refusals.specs.declared.refusal.Refusal.{Refusal}
use Rattle.refusals.specs.declared.refusal.Refusal.TheVariants.{NoPlace, NoTick, ShortTable, ShortQueue, ShortList}

-- the number of each cause
abbrev pub cause_number : Cause → ℕ
cause_number Length = 1
cause_number Kind = 2
cause_number Limits = 3
cause_number Chain = 4
cause_number Ends = 5
cause_number Floor = 6
cause_number PointIndex = 7
cause_number (Time link) = 8
cause_number (Order link) = 9

-- the number of a record; 0 for the header
abbrev pub record_number : Record → ℕ
record_number Header = 0
record_number (Place v) = v
record_number (Link k) = k
record_number (Point i) = i

-- the number of each reason why two networks can't be joined
abbrev pub misfit_number : Misfit → ℕ
misfit_number Unequal = 10
misfit_number TooManyLinks = 11

-- the number of each refusal
abbrev pub refusal_number : Refusal → ℕ
refusal_number NoPlace = 12
refusal_number NoTick = 14
refusal_number ShortTable = 19
refusal_number ShortQueue = 20
refusal_number (ShortList needed) = 21

-- the number of each refusal of a notice
abbrev pub notice_number : NoticeRefusal → ℕ
notice_number AlreadyStanding = 15
notice_number NotStanding = 16
notice_number NoRoom = 17
notice_number NoDelay = 18

-- the number of each refusal of a column
abbrev pub column_number : ColumnRefusal → ℕ
column_number TooManyMarks = 22
column_number ColumnLength = 23
column_number AboveLast = 24
column_number (BrokenRule link) = 25
