use Rattle.std.proofs.Common.{◌≡◌, not, ◌&&◌, [], ◌∷◌, None, sym, ap, ap₂, ◌∙◌, arith}
use Rattle.std.proofs.lemmas.Grind.{common_steps}
use Rattle.refusals.specs.declared.notice.NoticeRefusal.TheVariants.{NoDelay, NoRoom}
use Rattle.notices.specs.Calls.{set_refusal}
use Rattle.notices.specs.Delays.{on_link}
use Rattle.notices.specs.Finds.{replaced}
use Rattle.notices.specs.Refusals.{first_refusal, full, unless}
use Rattle.notices.proofs.Found.{first_at, none_of, written}
use Rattle.notices.proofs.delays.Delays.set.Goals as goal

pub returns-in-Some : goal.returns-in-Some
returns-in-Some c =
    let ds = c.args.self.now in
    let on = on_link c.args.delay.link in
    let first = first_at on ds c.in-Some.at c.in-Some.ensures in
    let answer : set_refusal ds c.args.delay ≡ None = ap₂ (λ fair stands. first_refusal ((not fair, NoDelay) ∷ (not stands && full ds, NoRoom) ∷ [])) (sym c.if-not-among.ensures) first.some in
    record {
      reply = sym answer;
      delays = rw (c.deref_mut.ensures.value, c.self.view_is) (written on ds c.in-Some.at c.args.delay c.in-Some.ensures ∙ sym (ap (λ refusal. unless refusal ds (replaced on c.args.delay ds)) answer));
    }

pub returns-in-None : goal.returns-in-None
returns-in-None c =
    let none = none_of (on_link c.args.delay.link) c.args.self.now c.in-None.ensures in
    grind (arith, common_steps, none.none, none.put c.args.delay)
