-- What a connection wrote over its device, by all that the device gave, the moments of its messages and the entries of its
-- commands: the headline for one connection over a device.
use Rattle.std.specs.Prelude.{◌≡◌, ◌⊎◌, ℕ, suc, Bool, true, false, List, [], ◌++◌}
use Rattle.s3_config.specs.Settings.{Settings}
use Rattle.s3_machine.specs.History.{Entry}
use Rattle.s3_machine.specs.declared.turn.Turn.{Turn}
use Rattle.s3_session.specs.Output.{Standing, is_waiting, is_closed}
use Rattle.s3_session.specs.Output as standings
use Rattle.s3_connection.specs.Output.{Input, Outputs}
use Rattle.s3_devices.specs.Device.{Traffic}
use Rattle.s3_driver.specs.declared.state.Ending.{Ending}
use Rattle.s3_driver.specs.declared.state.Ending.TheVariants as endings

-- what a device gave, as its connection received it
abbrev pub input_of : Traffic → Input
input_of traffic = record { bytes = traffic.received; ended = traffic.is_ended }

module _ (settings : Settings) (traffic : Traffic) (moments : List ℕ) (entries : List Entry) where
  -- The connection is closed: its input's end was read, or its output has ended; no command waits; and what was written is the
  -- output for all that was read, whole.
  pub record HasClosed : Type 0 where
    pub standing : Standing
    pub waiting : List Turn
    pub output : Outputs standing settings (input_of traffic) moments entries waiting traffic.sent
    pub idle : is_waiting standing ≡ false
    pub over : (traffic.is_ended ≡ true) ⊎ (is_closed standing ≡ true)

  -- A read failed: no command waits, the end wasn't read, and what was written is the output for all that was read, whole.
  pub record HasFailedToRead : Type 0 where
    pub unended : traffic.is_ended ≡ false
    pub output : Outputs standings.Reading settings (input_of traffic) moments entries [] traffic.sent

  -- A connection at any time: what was written is a beginning of the output for what was read, as far as that was taken. What
  -- is behind it was kept and not looked at, or came behind the end of the output.
  pub record HasWritten : Type 0 where
    pub standing : Standing
    pub waiting : List Turn
    pub taken : List ℕ
    pub behind : List ℕ
    pub told : Bool
    pub unsent : List ℕ
    pub read : traffic.received ≡ taken ++ behind
    pub ended : told ≡ true → (behind ≡ []) × (traffic.is_ended ≡ true)
    pub output : Outputs standing settings (record { bytes = taken; ended = told }) moments entries waiting (traffic.sent ++ unsent)

  -- what is known of a connection that has ended so
  abbrev pub Ends : Ending → Type 0
  Ends endings.Closed = HasClosed
  Ends endings.ReadFailed = HasFailedToRead
  Ends endings.WriteFailed = HasWritten

-- how often reads and writes failed, by how a connection has ended: it ends with the first failure, and one that is closed
-- has met none
abbrev pub Fails : Ending → Traffic → Traffic → Type 0
Fails endings.Closed old new = (new.failed_reads ≡ old.failed_reads) × (new.failed_writes ≡ old.failed_writes)
Fails endings.ReadFailed old new = (new.failed_reads ≡ suc old.failed_reads) × (new.failed_writes ≡ old.failed_writes)
Fails endings.WriteFailed old new = (new.failed_reads ≡ old.failed_reads) × (new.failed_writes ≡ suc old.failed_writes)
