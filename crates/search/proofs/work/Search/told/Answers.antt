use Rattle.std.proofs.Common.{◌≡◌, ℕ, List, length, drop, Option, sym, ◌∙◌, subst, arith, length-append}
use Rattle.std.proofs.lemmas.List.{take_at, length-take}
use Rattle.search.specs.Counting.{Count}
use Rattle.search.specs.Labels.{NearIn}
use Rattle.search.proofs.Goals.{reached}
use Rattle.search.proofs.Outcomes.{told_none, told_short, told_way}
use Rattle.search.proofs.work.Search.told.Goals as goal

-- the count of places taken, by the goal's arrival and the network's places
by_goal : (h : ℕ → ℕ) (cells : List ℕ) {reached at : Option ℕ} {places n count : ℕ} → reached ≡ at → places ≡ n → Count (NearIn h reached cells) places count → Count (NearIn h at cells) n count
by_goal h cells {reached} {at} {places} {n} {count} e p k = subst (λ l. Count (NearIn h l cells) n count) e (subst (λ m. Count (NearIn h reached cells) m count) p k)

pub returns-in_default-clause-told : goal.returns-in_default-clause-told
returns-in_default-clause-told g c = λ fit found.
    let law = g.met.N.Network.lawful c.args.self.now.net.now in
    told_none _ law _ _ _ _ c.args.self.now.labels.now c.requires.start c.requires.destination c.requires.tick fit found _ (sym c.arrival-reached.ensures ∙ c.in_default.is)
    (by_goal _ _ c.arrival-reached.ensures c.places.ensures c.taken-taken.ensures)

pub count_roads-roads-requires : goal.count_roads-roads-requires
count_roads-roads-requires g c =
    record { labelled = reached (g.met.N.Network.lawful c.args.self.now.net.now) c.requires.tick c.requires.destination c.args.self.now.labels.now c.requires.sound (sym c.arrival-reached.ensures ∙ c.in-Some.is) }

pub returns-then-roads-list-clause-told : goal.returns-then-roads-list-clause-told
returns-then-roads-list-clause-told g c = λ fit found.
    let law = g.met.N.Network.lawful c.args.self.now.net.now in
    told_short _ law _ _ _ _ c.args.self.now.labels.now c.requires.start c.requires.destination c.requires.tick fit found _ (sym c.arrival-reached.ensures ∙ c.in-Some.is)
    _ c.count_roads-roads.ensures _ c.if-roads-list.true

pub write_roads-requires : goal.write_roads-requires
write_roads-requires g c =
    record { labelled = reached (g.met.N.Network.lawful c.args.self.now.net.now) c.requires.tick c.requires.destination c.args.self.now.labels.now c.requires.sound (sym c.arrival-reached.ensures ∙ c.in-Some.is) }

pub returns-clause-told : goal.returns-clause-told
returns-clause-told g c = λ fit found.
    let law = g.met.N.Network.lawful c.args.self.now.net.now in
    let long = c.write_roads.auto.list in
    let written : length c.write_roads.new.list ≡ c.count_roads-roads.result = simp length-take at long ∙ omega arith in (
      omega (arith, written, length-append c.write_roads.new.list (drop c.count_roads-roads.result c.args.list.now)),
      told_way _ law _ _ _ _ c.args.self.now.labels.now c.requires.start c.requires.destination c.requires.tick fit found _ (sym c.arrival-reached.ensures ∙ c.in-Some.is)
          _ c.count_roads-roads.ensures _ _ (by_goal _ _ c.arrival-reached.ensures c.places.ensures c.taken-taken.ensures)
          (λ back b n. take_at c.write_roads.new.list _ _ written ∙ c.write_roads.ensures back b (omega arith)),
    )
