-- What a device gave and took in a call, over its traffic; and what a writer has taken of some bytes, over what it tells
-- that it holds, where `None` stands for one that tells nothing.
use Rattle.std.specs.Prelude.{◌≡◌, ◌≢◌, ◌⊎◌, ℕ, suc, true, [], List, ◌++◌, take, Option, Some, None}
use Rattle.std.specs.Io.{StartsWith}
use Rattle.std.specs.Io.KnownBytes.{Appends}
use Rattle.s3_devices.specs.Device.{Traffic}

-- A device, by what its traffic was before the call and is after it. How often a read or a write would have had to wait is
-- left open, and nothing else.

-- it gave these bytes
abbrev pub Gives : Traffic → Traffic → List ℕ → Type 0
Gives old new bytes = new ≡ record old { received = old.received ++ bytes; late_reads = new.late_reads }

-- it gave these bytes, and then their end
abbrev pub GivesWhole : Traffic → Traffic → List ℕ → Type 0
GivesWhole old new bytes = new ≡ record old { received = old.received ++ bytes; is_ended = true; late_reads = new.late_reads }

-- what a read of a piece is: so many bytes, which stand at the front of the buffer, or the end
abbrev pub Reads : Option ℕ → Traffic → Traffic → List ℕ → Type 0
Reads None old new buffer = new ≡ record old { is_ended = true }
Reads (Some count) old new buffer = Gives old new (take count buffer)

-- it gave bytes to their end, of which this holds
pub record GivesAll (Is : List ℕ → Type 0) (old new : Traffic) : Type 0 where
  pub bytes : List ℕ
  pub given : GivesWhole old new bytes
  pub is : Is bytes

-- it gave some bytes, and perhaps their end
pub record GivesSome (old new : Traffic) : Type 0 where
  pub bytes : List ℕ
  pub given : new ≡ record old { received = old.received ++ bytes; is_ended = new.is_ended; late_reads = new.late_reads }

-- it gave some bytes, and then a read failed
pub record FailsToGive (old new : Traffic) : Type 0 where
  pub bytes : List ℕ
  pub given : new ≡ record old { received = old.received ++ bytes; failed_reads = suc old.failed_reads; late_reads = new.late_reads }

-- it took these bytes
abbrev pub Takes : Traffic → Traffic → List ℕ → Type 0
Takes old new bytes = new ≡ record old { sent = old.sent ++ bytes; late_writes = new.late_writes }

-- it took a beginning of these bytes, and then a write failed
pub record TakesBeginning (old new : Traffic) (bytes : List ℕ) : Type 0 where
  pub taken : List ℕ
  pub first : StartsWith bytes taken
  pub failed : new ≡ record old { sent = old.sent ++ taken; failed_writes = suc old.failed_writes; late_writes = new.late_writes }

-- it was told these bytes: it took all of them, or a beginning of them, and then a write failed
abbrev pub IsTold : Traffic → Traffic → List ℕ → Type 0
IsTold old new bytes = Takes old new bytes ⊎ TakesBeginning old new bytes

-- it was told some bytes, at least one
pub record IsToldSome (old new : Traffic) : Type 0 where
  pub bytes : List ℕ
  pub some : bytes ≢ []
  pub told : IsTold old new bytes

-- it was not read
abbrev pub IsUnread : Traffic → Traffic → Type 0
IsUnread old new = new ≡ record old { sent = new.sent; failed_writes = new.failed_writes; late_writes = new.late_writes }

-- A writer gained a beginning of the bytes.
pub record AppendsBeginning (before after : Option (List ℕ)) (bytes : List ℕ) : Type 0 where
  pub taken : List ℕ
  pub first : StartsWith bytes taken
  pub gained : Appends before after taken
