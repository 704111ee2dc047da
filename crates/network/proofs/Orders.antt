-- How arrivals and departures compare.
use Rattle.std.proofs.Common.{ℕ, ◌≤◌, Some, None, Option, arith}
use Rattle.network.specs.Laws.{NoLater, NotBefore}

pub no_later_self : (a : Option ℕ) → NoLater a a
no_later_self None = tt
no_later_self (Some x) = omega arith

pub no_later_trans : (a b c : Option ℕ) → NoLater a b → NoLater b c → NoLater a c
no_later_trans a b None p q = tt
no_later_trans a None (Some z) p q = absurd q
no_later_trans None (Some y) (Some z) p q = absurd p
no_later_trans (Some x) (Some y) (Some z) p q = omega arith

pub not_before_less : (x y : ℕ) (o : Option ℕ) → x ≤ y → NotBefore y o → NotBefore x o
not_before_less x y None h n = n
not_before_less x y (Some d) h n = omega arith
