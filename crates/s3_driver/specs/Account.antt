-- What is told of a connection that has left its worker.
use Rattle.std.specs.Prelude.{◌≡◌, ℕ, true, false, List, [], Option, None, Some}
use Rattle.s3_config.specs.Settings.{Settings}
use Rattle.s3_machine.specs.History.{Entry}
use Rattle.s3_devices.specs.Device.{Traffic}
use Rattle.s3_devices.specs.Recorded.{no_traffic, untouched}
use Rattle.s3_driver.specs.declared.state.Departure.{Departure}
use Rattle.s3_driver.specs.declared.state.Departure.TheVariants as departures
use Rattle.s3_driver.specs.declared.state.Ending.{Ending}
use Rattle.s3_driver.specs.declared.state.Ending.TheVariants as endings
use Rattle.s3_driver.specs.Ended.{Ends, Fails, HasWritten}

-- what its stream gave and took, by the name of that stream, the moments of its messages, and how it has left
pub record Account : Type 0 where
  pub traffic : Traffic
  pub moments : List ℕ
  pub departure : Departure

-- the account of one that was turned away, whose stream has this name: it did nothing
abbrev pub turned_away : ℕ → Account
turned_away name = record { traffic = untouched name; moments = []; departure = departures.TurnedAway }

-- What it wrote is what its ending says, and its stream failed no sooner. One that has not ended wrote a beginning, and its stream had not
-- failed. Only one that is closed has its stream told that it takes no more, so that nothing that came before was dropped.
abbrev pub EndsSo : Settings → Traffic → List ℕ → List Entry → Option Ending → Type 0
EndsSo settings traffic moments entries None = (traffic.failed_reads ≡ 0) × (traffic.failed_writes ≡ 0) × (traffic.is_shut ≡ false)
EndsSo settings traffic moments entries (Some ending) =
    Ends settings traffic moments entries ending × Fails ending no_traffic traffic × (traffic.is_shut ≡ true → ending ≡ endings.Closed)

-- What it did is as its departure says: one that was turned away did nothing; one that was given up, since its time was over, its place
-- was wanted or the server ended, had not ended.
abbrev pub DepartsSo : Settings → Traffic → List ℕ → List Entry → Departure → Type 0
DepartsSo settings traffic moments entries departures.TurnedAway = (traffic ≡ untouched traffic.name) × (moments ≡ []) × (entries ≡ [])
DepartsSo settings traffic moments entries departures.GivenUp = EndsSo settings traffic moments entries None
DepartsSo settings traffic moments entries (departures.Ended ending) = EndsSo settings traffic moments entries (Some ending)

-- An account fits the entries of its connection's seat: what was written is at any rate a beginning of the output for all that came, for
-- these moments and these entries. And it is one for those alone of which its seat knew that they were committed: no answer of another
-- was told.
pub record Fits (settings : Settings) (account : Account) (entries committed : List Entry) : Type 0 where
  pub written : HasWritten settings account.traffic account.moments entries
  pub ends : DepartsSo settings account.traffic account.moments entries account.departure
  pub told : HasWritten settings account.traffic account.moments committed
