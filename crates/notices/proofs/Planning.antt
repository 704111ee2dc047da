-- What a planner may rely on.
use Rattle.std.proofs.Common.{◌≡◌, ℕ, suc, ◌-◌, Bool, true, false, cond, ◌||◌, eqb, List, [], ◌∷◌, ◌++◌, Some, None, Option, sym, refl, ap, ◌∙◌, subst, ⊎_elim, arith}
use Rattle.std.proofs.lemmas.Bool.{cases_Bool, eqb-true, eqb-false, eq-eqb, ne_eqb}
use Rattle.std.proofs.lemmas.Grind.{common_steps}
use Rattle.refusals.specs.declared.notice.NoticeRefusal.{NoticeRefusal}
use Rattle.network.specs.Laws.{NoLater}
use Rattle.notices.specs.declared.notice.Closure.{Closure}
use Rattle.notices.specs.declared.notice.Delay.{Delay}
use Rattle.std.specs.List.{list_any}
use Rattle.notices.specs.Finds.{without, replaced}
use Rattle.notices.specs.Refusals.{unless}
use Rattle.notices.specs.Closures.{same, shuts, shut, next_open}
use Rattle.notices.specs.Delays.{on_link, ticks_of, delay_on}
use Rattle.notices.specs.Calls.{up_refusal, down_refusal, down_after, set_refusal, set_after, clear_refusal, clear_after}
use Rattle.notices.specs.Theorems.{NextOpenIsEarliest, UpShutsItsTicks, DownTakesOneClosure, NoneTwice, NoClosureTwice, OneEach, SetDelaysOneLink, ClearFreesOneLink, OneDelayEach}
use Rattle.notices.specs.Opens.{Opening, opening}
use Rattle.notices.proofs.Changes.{none_first, first_replaced, first_others, first_without, none_replaced, any_added, any_taken, only_taken, twice_added, twice_taken}

pub next_earliest : NextOpenIsEarliest
next_earliest cs k t last = record {
  found = λ u e. let l = next.lies u e in (l.0, omega (arith, l.1), l.2);
  before = λ u s e ts su. ⊎_elim (λ h. h) (λ h. let us = subst (λ o. NoLater o (Some s)) e (next.first s ts (omega (arith, (next.lies u e).1)) h) in absurd (omega arith)) (cases_Bool (shut cs k s));
  never = λ s e ts sl. ⊎_elim (λ h. h) (λ h. absurd (subst (λ o. NoLater o (Some s)) e (next.first s ts (omega arith) h))) (cases_Bool (shut cs k s));
}
  where
    next : Opening (shut cs k) t (suc last - t) (next_open cs k t last)
    next = opening (shut cs k) t (suc last - t)

-- a delay on link k is on no other
apart : (j k : ℕ) → (j ≡ k → ⊥) → (d : Delay) → on_link k d ≡ true → on_link j d ≡ false
apart j k n d e = grind (arith, common_steps)

pub set_one : SetDelaysOneLink
set_one ds d e = record {
  set = ap (delay_on d.link) is ∙ ap ticks_of (first_replaced (on_link d.link) d ds (eq-eqb _ _ refl));
  others = λ j n. ap (delay_on j) is ∙ ap ticks_of (first_others (on_link d.link) (on_link j) (apart j d.link n) d ds (ne_eqb d.link j (λ z. n (sym z))));
}
  where
    is : set_after ds d ≡ replaced (on_link d.link) d ds
    is = ap (λ r. unless r ds (replaced (on_link d.link) d ds)) e

pub clear_one : ClearFreesOneLink
clear_one ds k e = record {
  cleared = λ o. ap (delay_on k) is ∙ ap ticks_of (none_first (on_link k) _ (only_taken (λ d. on_link d.link) (on_link k) (λ d e h. ap (eqb e.link) (sym (eqb-true d.link k h))) ds o));
  others = λ j n. ap (delay_on j) is ∙ ap ticks_of (first_without (on_link k) (on_link j) (apart j k n) ds);
}
  where
    is : clear_after ds k ≡ without (on_link k) ds
    is = ap (λ r. unless r ds (without (on_link k) ds)) e

set_each : (d : Delay) (ds : List Delay) → OneEach ds → OneEach (replaced (on_link d.link) d ds)
set_each d [] o = (refl, tt)
set_each d (x ∷ xs) o = go (set_each d xs o.1) (on_link d.link x) refl
  where
    go : OneEach (replaced (on_link d.link) d xs) → (b : Bool) → on_link d.link x ≡ b → OneEach (cond b (d ∷ xs) (x ∷ replaced (on_link d.link) d xs))
    go rest true h = (subst (λ j. list_any (on_link j) xs ≡ false) (eqb-true x.link d.link h) o.0, o.1)
    go rest false h = (none_replaced (on_link d.link) (on_link x.link) d xs (ne_eqb d.link x.link (λ z. eqb-false x.link d.link h (sym z))) o.0, rest)

-- refused or not
either : {X : Type 0} (alike : X → X → Bool) (r : Option NoticeRefusal) (before after : List X) → NoneTwice alike before → (r ≡ None → NoneTwice alike after) → NoneTwice alike (unless r before after)
either alike None before after o p = p refl
either alike (Some refusal) before after o p = o

pub one_each : OneDelayEach
one_each = record {
  new = tt;
  set = λ ds d o. either (λ d. on_link d.link) (set_refusal ds d) ds (replaced (on_link d.link) d ds) o (λ e. set_each d ds o);
  clear = λ ds k o. either (λ d. on_link d.link) (clear_refusal ds k) ds (without (on_link k) ds) o (λ e. twice_taken (λ d. on_link d.link) (on_link k) ds o);
}

-- what isn't refused stood apart, or stood
fresh : (cs : List Closure) (c : Closure) → up_refusal cs c ≡ None → list_any (same c) cs ≡ false
fresh cs c e = grind arith

stood : (cs : List Closure) (c : Closure) → down_refusal cs c ≡ None → list_any (same c) cs ≡ true
stood cs c e = grind arith

-- closures that are the same have the same numbers
same_parts : (c d : Closure) → same c d ≡ true → (d.link ≡ c.link) × (d.from ≡ c.from) × (d.until ≡ c.until)
same_parts c d e = grind (arith, common_steps)

same_shuts : (k t : ℕ) (c d : Closure) → same c d ≡ true → shuts k t d ≡ shuts k t c
same_shuts k t c d e = grind (arith, same_parts c d e)

same_like : (c d e : Closure) → same c d ≡ true → same c e ≡ same d e
same_like c d e h = grind (arith, same_parts c d h)

same_flip : (c d : Closure) → same d c ≡ false → same c d ≡ false
same_flip c d e = grind (arith, common_steps)

pub up_shuts : UpShutsItsTicks
up_shuts cs c e k t = ap (λ r. shut (unless r cs (cs ++ c ∷ [])) k t) e ∙ any_added (shuts k t) c cs

pub down_takes : DownTakesOneClosure
down_takes cs c e = record {
  gone = λ o. ap (list_any (same c)) is ∙ only_taken same (same c) (same_like c) cs o;
  others = λ k t. any_taken (shuts k t) (same c) c (same_shuts k t c) cs (stood cs c e) ∙ sym (ap (λ after. shut after k t || shuts k t c) is);
}
  where
    is : down_after cs c ≡ without (same c) cs
    is = ap (λ r. unless r cs (without (same c) cs)) e

pub none_twice : NoClosureTwice
none_twice = record {
  new = tt;
  up = λ cs c o. either same (up_refusal cs c) cs (cs ++ c ∷ []) o (λ e. twice_added same same_flip c cs (fresh cs c e) o);
  down = λ cs c o. either same (down_refusal cs c) cs (without (same c) cs) o (λ e. twice_taken same (same c) cs o);
}
