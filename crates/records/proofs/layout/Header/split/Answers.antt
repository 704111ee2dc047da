use Rattle.std.proofs.Common.{◌<◌, ◌≤◌, length, drop, sym, refl, ◌∙◌, arith, length-drop, rules}
use Rattle.std.proofs.lemmas.List.{take_all}
use Rattle.records.proofs.Headers.{under_five, outside, right}
use Rattle.records.proofs.layout.Header.split.Goals as goal

pub returns-in_default : goal.returns-in_default
returns-in_default c = let h : length c.args.words.now < 5 = search rules in rw c.at.ensures (under_five c.args.kind c.args.words.now h)

pub returns-then-not-within_limits : goal.returns-then-not-within_limits
returns-then-not-within_limits c = let h : 5 ≤ length c.args.words.now = search rules in rw c.at-then-not-within_limits.ensures (outside c.args.kind c.args.words.now h (omega arith) (sym c.within_limits.ensures ∙ c.if-not-within_limits.true))

pub returns : goal.returns
returns c = let h : 5 ≤ length c.args.words.now = search rules in (right c.args.kind c.args.words.now h (omega arith) (sym c.within_limits.ensures ∙ c.if-not-within_limits.false), refl, take_all _ (drop 5 c.args.words.now) (simp length-drop (omega arith)))
