-- The refusals of a question before the search, test by test.
use Rattle.std.proofs.Common.{◌≡◌, ℕ, ◌+◌, ◌-◌, ◌≤◌, Bool, true, false, cond, leb, None, Option, sym, refl, ap, ◌∙◌, ⊎_elim, arith}
use Rattle.std.proofs.lemmas.Bool.{cases_lt, le-leb, lt-leb, leb-true}
use Rattle.network.specs.Meaning.{Meaning, Among, among}
use Rattle.network.proofs.Ranges.{among_true}
use Rattle.journeys.specs.Turned.{turned}
use Rattle.refusals.specs.declared.refusal.Refusal.{Refusal}
use Rattle.refusals.specs.declared.refusal.Refusal.TheVariants.{NoPlace, NoTick, ShortTable, ShortQueue}
use Rattle.search.specs.Question.{unless, refusal_of, back_tick}

-- what holds where a question is not refused
pub record Admitted (net : Meaning) (table capacity s d t : ℕ) : Type 0 where
  pub start : Among s net.places
  pub destination : Among d net.places
  pub tick : t ≤ net.last
  pub long : net.places ≤ table
  pub wide : net.places ≤ capacity

unless_none : (test : Bool) (r : Refusal) (after : Option Refusal) → unless test r after ≡ None → (test ≡ true) × (after ≡ None)
unless_none true r after e = (refl, e)
unless_none false r after e = absurd (let z : ◌≡◌ {A = ℕ} 0 1 = cc in omega arith)

pub admitted : (net : Meaning) (table capacity s d t : ℕ) → refusal_of net table capacity s d t ≡ None → Admitted net table capacity s d t
unfolding refusal_of
admitted net table capacity s d t e =
    let a = unless_none _ NoPlace _ e in
    let b = unless_none _ NoPlace _ a.1 in
    let c = unless_none _ NoTick _ b.1 in
    let f = unless_none _ ShortTable _ c.1 in
    let h = unless_none _ ShortQueue None f.1 in
    record { start = among_true _ _ a.0; destination = among_true _ _ b.0; tick = leb-true _ _ c.0; long = leb-true _ _ f.0; wide = leb-true _ _ h.0 }

either_order : (a b : Bool) (r : Refusal) (after : Option Refusal) → unless a r (unless b r after) ≡ unless b r (unless a r after)
either_order true b r after = refl
either_order false true r after = refl
either_order false false r after = refl

-- a question on the turned network is refused as the question that it was made from
pub refusal_turned : (net : Meaning) (table capacity s d y : ℕ) → refusal_of (turned net) table capacity d s (back_tick net.last y) ≡ refusal_of net table capacity s d y
unfolding refusal_of
refusal_turned net table capacity s d y =
    either_order (among d net.places) (among s net.places) NoPlace _
    ∙ ap (λ t. unless (among s net.places) NoPlace (unless (among d net.places) NoPlace (unless t NoTick (unless (leb net.places table) ShortTable (unless (leb net.places capacity) ShortQueue None))))) (same_tick net.last)
  where
    same_tick : (last : ℕ) → leb (back_tick last y) last ≡ leb y last
    same_tick last =
        ⊎_elim
        (λ l. ap (λ b. leb (cond b (last - y) (last + 1)) last) (lt-leb y last l) ∙ (lt-leb (last + 1) last (omega arith) ∙ sym (lt-leb y last l)))
        (λ l. ap (λ b. leb (cond b (last - y) (last + 1)) last) (le-leb y last l) ∙ (le-leb (last - y) last (omega arith) ∙ sym (le-leb y last l)))
        (cases_lt last y)
