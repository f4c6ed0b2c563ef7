-- A door by which connections come to one worker, and by which they leave.
use Rattle.std.specs.Prelude.{◌≡◌, ◌==◌, ◌+◌, if◌then◌else◌, ℕ, Bool, true, false, List, [], ◌∷◌, Option, None, Some, map}
use Rattle.s3_devices.specs.Device.{Traffic}
use Rattle.s3_devices.specs.Recorded.{untouched}
use Rattle.s3_journal.specs.SharedStore.{Seated}
use Rattle.s3_journal.specs.Gone.{Gone}
use Rattle.s3_journal.specs.Roster.{Numbered, Rostered, is_out}
use Rattle.s3_driver.specs.Account.{Account, turned_away}
use Rattle.s3_driver.specs.ServedConnection.{Served, account_of}

-- a socket that has come, with the seat that its connection will have: it is known by the number of that, nothing came or went by
-- it, and the seat was given nothing
pub record Arrived : Type 0 where
  pub traffic : Traffic
  pub seat : Seated

pub record IsArrival (arrived : Arrived) : Type 0 where
  pub fresh : arrived.traffic ≡ untouched arrived.seat.number
  pub nothing : arrived.seat.mine ≡ []

-- what a door did: the names of the sockets that it handed out, and the traffic of those that it took back, as it was then
pub record Passed : Type 0 where
  pub handed : List ℕ
  pub back : List Traffic

abbrev pub nothing_passed : Passed
nothing_passed = record { handed = []; back = [] }

-- a door: what it did, and who came to its worker and has left it
pub record DoorState : Type 0 where
  pub passed : Passed
  pub roster : Rostered Account

abbrev pub one_if : Bool → ℕ
one_if true = 1
one_if false = 0

-- how often a number stands in a list
abbrev pub times : ℕ → List ℕ → ℕ
times n [] = 0
times n (m ∷ ms) = one_if (n == m) + times n ms

-- the numbers of the seats of those who have left, and the traffic that their accounts tell
abbrev pub numbers_of : List (Gone Account) → List ℕ
numbers_of gone = map (λ (g : Gone Account). g.number) gone

abbrev pub traffic_told : List (Gone Account) → List Traffic
traffic_told gone = map (λ (g : Gone Account). g.report.traffic) gone

-- each account is of the socket that is known by the number of its seat
abbrev pub AreNamed : List (Gone Account) → Type 0
AreNamed [] = Unit {0}
AreNamed (g ∷ gone) = (g.report.traffic.name ≡ g.number) × AreNamed gone

-- The sockets that were handed out are those of the connections that are out and those of the accounts, each once. Each that was taken
-- back has its account, in that order, which tells the traffic that it had, under its own name.
pub record HasPassed (passed : Passed) (roster : Rostered Account) : Type 0 where
  pub each : (n : ℕ) → times n passed.handed ≡ times n (numbers_of roster.gone) + one_if (is_out roster.numbers n)
  pub back : passed.back ≡ traffic_told roster.gone
  pub named : AreNamed roster.gone

-- what is told of a connection that leaves, and of one that is turned away
abbrev pub gone_of : Served → Gone Account
gone_of s = record { number = s.seat.number; calls = s.seat.mine; seen = s.seat.seen; committed = s.seat.committed; report = account_of s }

abbrev pub turned_away_of : Seated → Gone Account
turned_away_of seat = record { number = seat.number; calls = []; seen = seat.seen; committed = seat.committed; report = turned_away seat.number }

-- The rest serves the invariant of a door, and clauses of private functions.

-- the number that is set aside for the next who comes, if one is
abbrev pub is_aside : Option ℕ → ℕ → Bool
is_aside None n = false
is_aside (Some number) n = n == number

-- what a door keeps: so it is of all numbers but the one that is set aside
pub record IsDoor (passed : Passed) (roster : Rostered Account) (aside : Option ℕ) : Type 0 where
  pub each : (n : ℕ) → times n passed.handed + one_if (is_aside aside n) ≡ times n (numbers_of roster.gone) + one_if (is_out roster.numbers n)
  pub back : passed.back ≡ traffic_told roster.gone
  pub named : AreNamed roster.gone

-- A number was set aside for the next who comes: the one that was, or a new one.
pub record IsSetAside (old new : Rostered Account) (aside : Option ℕ) (number : ℕ) : Type 0 where
  pub each : (n : ℕ) → one_if (is_out new.numbers n) + one_if (is_aside aside n) ≡ one_if (is_out old.numbers n) + one_if (n == number)
  pub gone : new.gone ≡ old.gone

-- What was set aside, if anything was, isn't out any more.
abbrev pub IsGivenUp : Numbered → Numbered → Option ℕ → Type 0
IsGivenUp old new None = new ≡ old
IsGivenUp old new (Some number) = (is_out old number ≡ true) × ((n : ℕ) → is_out new n ≡ (if n == number then false else is_out old n))
