use Rattle.std.proofs.Common.{◌∙◌, arith}
use Rattle.search.proofs.Refusing.{admitted}
use Rattle.search.proofs.ask.ask.Goals as goal

pub split_at_mut-cells-requires : goal.split_at_mut-cells-requires
split_at_mut-cells-requires g c =
    let a = admitted _ _ _ _ _ _ c.in_ok-admit.ensures in
    omega (arith, a.long, c.places.ensures)

pub answer-requires : goal.answer-requires
answer-requires g c =
    let a = admitted _ _ _ _ _ _ c.in_ok-admit.ensures in
    record { start = a.start; destination = a.destination; tick = a.tick }

pub invariant_of-search : goal.invariant_of-search
invariant_of-search g c =
    let a = admitted _ _ _ _ _ _ c.in_ok-admit.ensures in
    record { room = record { cells = c.split_at_mut-cells.ensures.front_len ∙ c.places.ensures; queue = a.wide } }
