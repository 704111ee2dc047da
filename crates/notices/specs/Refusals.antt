-- What is refused, and what stands after.
use Rattle.std.specs.Prelude.{Bool, cond, not, List, [], ◌∷◌, length, Some, None, Ok, Err, Option, Result, nat_le}
use Rattle.std.specs.List.{list_any}
use Rattle.refusals.specs.declared.notice.NoticeRefusal.{NoticeRefusal}
use Rattle.refusals.specs.declared.notice.NoticeRefusal.TheVariants.{NotStanding}
use Rattle.notices.specs.Finds.{without}

-- the refusal that a reply holds
abbrev pub refusal_in : Result (Unit {0}) NoticeRefusal → Option NoticeRefusal
refusal_in (Ok done) = None
refusal_in (Err refusal) = Some refusal

-- the refusal of the first test that holds
abbrev pub first_refusal : List (Bool × NoticeRefusal) → Option NoticeRefusal
first_refusal [] = None
first_refusal (test ∷ tests) = cond test.0 (Some test.1) (first_refusal tests)

-- what stands before a call that is refused, else what stands after it
abbrev pub unless : {X : Type 0} → Option NoticeRefusal → X → X → X
unless None before after = after
unless (Some refusal) before after = before

-- whether 32 stand, which is all there is room for
abbrev pub full : {X : Type 0} → List X → Bool
full xs = nat_le 32 (length xs)

-- the first that passes a test goes, which one must
abbrev pub take_refusal : {X : Type 0} → (X → Bool) → List X → Option NoticeRefusal
take_refusal p xs = first_refusal ((not (list_any p xs), NotStanding) ∷ [])

abbrev pub take_after : {X : Type 0} → (X → Bool) → List X → List X
take_after p xs = unless (take_refusal p xs) xs (without p xs)
