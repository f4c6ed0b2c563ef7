-- The network, as a server uses it.
use Rattle.std.specs.Prelude.{◌≡◌, ◌+◌, ℕ, List, [], ◌∷◌, ◌++◌, length}
use Rattle.s3_devices.specs.Device.{Traffic}
use Rattle.s3_sockets.specs.Door.{Passed}

-- the addresses on which it was asked to listen; how many doors were opened there; and what those did that were closed since
pub record NetworkState : Type 0 where
  pub asked : List (List ℕ)
  pub opened : ℕ
  pub closed : List Passed

-- nothing was asked of it
abbrev pub unused : NetworkState
unused = record { asked = []; opened = 0; closed = [] }

-- no door is open
abbrev pub AllAreClosed : NetworkState → Type 0
AllAreClosed network = network.opened ≡ length network.closed

-- the names of all sockets that doors handed out, and the traffic of all that they took back
abbrev pub all_handed : List Passed → List ℕ
all_handed [] = []
all_handed (p ∷ passed) = p.handed ++ all_handed passed

abbrev pub all_back : List Passed → List Traffic
all_back [] = []
all_back (p ∷ passed) = p.back ++ all_back passed
