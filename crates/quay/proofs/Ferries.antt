-- The rows of the ferry.
use Rattle.std.proofs.Common.{◌≡◌, [], ◌∷◌, map, Some, None, refl}
use Rattle.network.specs.Latest.{latest}
use Rattle.records.specs.Layout.{place_at, link_at, point_at}
use Rattle.records.specs.Faults.{header_fault, size_fault, fault_by, first_fault}
use Rattle.quay.specs.Ferry.{ferry, ferry_fault}

pub accepted : ferry_fault ≡ None
unfolding place_at link_at point_at header_fault size_fault fault_by first_fault
accepted = refl

pub sailings : map (ferry.arrival 1) (0 ∷ 21 ∷ 51 ∷ []) ≡ Some 30 ∷ Some 70 ∷ None ∷ []
unfolding place_at link_at point_at
sailings = refl

pub latest_sailings : map (latest ferry 1) (29 ∷ 40 ∷ []) ≡ None ∷ Some 20 ∷ []
unfolding place_at link_at point_at
latest_sailings = refl
