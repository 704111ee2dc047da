-- What each call refuses, and what stands after it.
use Rattle.std.specs.Prelude.{ℕ, not, ◌&&◌, List, [], ◌∷◌, ◌++◌, Option}
use Rattle.refusals.specs.declared.notice.NoticeRefusal.{NoticeRefusal}
use Rattle.refusals.specs.declared.notice.NoticeRefusal.TheVariants.{AlreadyStanding, NoRoom, NoDelay}
use Rattle.network.specs.Meaning.{among}
use Rattle.notices.specs.declared.notice.Closure.{Closure}
use Rattle.notices.specs.declared.notice.Delay.{Delay}
use Rattle.std.specs.List.{list_any}
use Rattle.notices.specs.Finds.{replaced}
use Rattle.notices.specs.Refusals.{first_refusal, unless, full, take_refusal, take_after}
use Rattle.notices.specs.Closures.{same}
use Rattle.notices.specs.Delays.{on_link}

-- a closure that doesn't stand goes up, after the others
abbrev pub up_refusal : List Closure → Closure → Option NoticeRefusal
up_refusal cs c = first_refusal ((list_any (same c) cs, AlreadyStanding) ∷ (full cs, NoRoom) ∷ [])

abbrev pub up_after : List Closure → Closure → List Closure
up_after cs c = unless (up_refusal cs c) cs (cs ++ c ∷ [])

-- a closure that stands comes down
abbrev pub down_refusal : List Closure → Closure → Option NoticeRefusal
down_refusal cs c = take_refusal (same c) cs

abbrev pub down_after : List Closure → Closure → List Closure
down_after cs c = take_after (same c) cs

-- a delay of 1 to 86,400 ticks takes the place of the one on its link, or comes after the others
abbrev pub set_refusal : List Delay → Delay → Option NoticeRefusal
set_refusal ds d = first_refusal ((not (among d.ticks 86400), NoDelay) ∷ (not (list_any (on_link d.link) ds) && full ds, NoRoom) ∷ [])

abbrev pub set_after : List Delay → Delay → List Delay
set_after ds d = unless (set_refusal ds d) ds (replaced (on_link d.link) d ds)

-- the delay on a link goes
abbrev pub clear_refusal : List Delay → ℕ → Option NoticeRefusal
clear_refusal ds k = take_refusal (on_link k) ds

abbrev pub clear_after : List Delay → ℕ → List Delay
clear_after ds k = take_after (on_link k) ds
