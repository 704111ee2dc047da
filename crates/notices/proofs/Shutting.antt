-- What the walks over shut ticks find.
use Rattle.std.proofs.Common.{◌≡◌, ℕ, zero, suc, ◌+◌, ◌-◌, ◌<◌, ◌≤◌, Bool, true, false, List, Some, None, ◌==◌, nat_le, nat_lt, sym, ap, ap₂, ◌∙◌, arith}
use Rattle.std.specs.List.{find}
use Rattle.std.proofs.lemmas.Bool.{and_parts, and_from, leb-true, le-leb, ltb-true, lt-ltb, cond-true, cond-false}
use Rattle.notices.specs.declared.notice.Closure.{Closure}
use Rattle.notices.specs.Closures.{shuts, shut, open_from, open_below, next_open, last_open}
use Rattle.notices.proofs.Found.{find-Some, find-None}

module _ (sh : ℕ → Bool) where
  skip : (d t n : ℕ) → ((s : ℕ) → t ≤ s → s < t + d → sh s ≡ true) → open_from sh t n ≡ open_from sh (t + d) (n - d)
  skip zero t n h = ap₂ (open_from sh) (omega arith) (omega arith)
  skip (suc d) t zero h = let z : 0 ≡ 0 - suc d = omega arith in ap (open_from sh (t + suc d)) z
  skip (suc d) t (suc n) h =
      cond-true (sh t) (open_from sh (suc t) n) (Some t) (h t (omega arith) (omega arith))
      ∙ skip d (suc t) n (λ s l m. h s (omega arith) (omega arith))
      ∙ ap₂ (open_from sh) (omega arith) (omega arith)

  -- ticks that are shut are passed over
  jump : (t u last : ℕ) → t ≤ u → ((s : ℕ) → t ≤ s → s < u → sh s ≡ true) → open_from sh u (suc last - u) ≡ open_from sh t (suc last - t)
  jump t u last l h = sym (skip (u - t) t (suc last - t) (λ s m n. h s m (omega arith)) ∙ ap₂ (open_from sh) (omega arith) (omega arith))

  stop : (t last : ℕ) → t ≤ last → sh t ≡ false → Some t ≡ open_from sh t (suc last - t)
  stop t last l h = sym (ap (open_from sh t) {y = suc (last - t)} (omega arith) ∙ cond-false (sh t) (open_from sh (suc t) (last - t)) (Some t) h)

  fall : (d f : ℕ) → ((s : ℕ) → f ≤ s → s < f + d → sh s ≡ true) → open_below sh (f + d) ≡ open_below sh f
  fall zero f h = ap (open_below sh) (omega arith)
  fall (suc d) f h =
      let z : f + suc d ≡ suc (f + d) = omega arith in
      ap (open_below sh) z
      ∙ cond-true (sh (f + d)) (open_below sh (f + d)) (Some (f + d)) (h (f + d) (omega arith) (omega arith))
      ∙ fall d f (λ s l m. h s l (omega arith))

  back : (f t : ℕ) → f ≤ t → ((s : ℕ) → f ≤ s → s ≤ t → sh s ≡ true) → open_below sh f ≡ open_below sh (suc t)
  back f t l h = let z : suc t ≡ f + (suc t - f) = omega arith in sym (ap (open_below sh) z ∙ fall (suc t - f) f (λ s m n. h s m (omega arith)))

-- a closure that shuts link k at tick t, and shuts it for so long
record Window (cs : List Closure) (k t : ℕ) (c : Closure) : Type 0 where
  begun : c.from ≤ t
  ahead : t < c.until
  shut : (s : ℕ) → c.from ≤ s → s < c.until → shut cs k s ≡ true

window : (cs : List Closure) (k t : ℕ) (c : Closure) → Some c ≡ find (shuts k t) cs → Window cs k t c
window cs k t c e =
    let found = find-Some (shuts k t) cs c e in
    let a = and_parts (c.link == k) _ found.0 in
    let b = and_parts (nat_le c.from t) (nat_lt t c.until) a.1 in
    record {
      begun = leb-true _ _ b.0;
      ahead = ltb-true _ _ b.1;
      shut = λ s l m. found.1 (shuts k s) (and_from (c.link == k) _ a.0 (and_from (nat_le c.from s) _ (le-leb _ _ l) (lt-ltb _ _ m)));
    }

no_window : (cs : List Closure) (k t : ℕ) → None ≡ find (shuts k t) cs → shut cs k t ≡ false
no_window cs k t e = find-None (shuts k t) cs e

module _ (cs : List Closure) (k t : ℕ) where
  -- where a closure that shuts the link is found, the next open tick is the one from its end
  pub next_after : (c : Closure) (last : ℕ) → Some c ≡ find (shuts k t) cs → (t < c.until) × (next_open cs k c.until last ≡ next_open cs k t last)
  next_after c last e = let w = window cs k t c e in (w.ahead, jump (shut cs k) t c.until last (omega (arith, w.ahead)) (λ s l m. w.shut s (omega (arith, w.begun)) m))

  -- and the last open tick the one before its start
  pub last_before : (c : Closure) → Some c ≡ find (shuts k t) cs → (c.from ≤ t) × (open_below (shut cs k) c.from ≡ last_open cs k t)
  last_before c e = let w = window cs k t c e in (w.begun, back (shut cs k) c.from t w.begun (λ s l m. w.shut s l (omega (arith, w.ahead))))

  -- where none is found, the tick is open
  pub next_here : (last : ℕ) → t ≤ last → None ≡ find (shuts k t) cs → Some t ≡ next_open cs k t last
  next_here last l e = stop (shut cs k) t last l (no_window cs k t e)

  pub last_here : None ≡ find (shuts k t) cs → Some t ≡ last_open cs k t
  last_here e = sym (cond-false (shut cs k t) (open_below (shut cs k) t) (Some t) (no_window cs k t e))
