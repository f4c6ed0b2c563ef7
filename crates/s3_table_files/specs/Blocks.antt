-- What a file of the system shows, by what it held as it was opened and the calls since.
use Rattle.std.specs.Prelude.{ℕ, List, Bool}
use Rattle.sqlite_disk.specs.declared.modelled.Modelled.{Modelled}
use Rattle.sqlite_disk.specs.declared.calls.Calls as calls
use Rattle.sqlite_disk.specs.declared.start.Start.{Ghosts}
use Rattle.sqlite_disk.specs.Modelled.{start_of}
use Rattle.sqlite_disk.specs.Events.{replay}
use Rattle.sqlite_disk.specs.History.{MayLeave}
use Rattle.sqlite_std_file.specs.declared.host.Host.{Host}

module _ {S : Type 0} {g : calls.Ghosts Host} where
  -- the bytes that a read returns, which is its member `seen`
  abbrev pub file_seen : (start : Ghosts S) → Modelled Host S g start → List ℕ
  file_seen start file = (replay (start_of start file) file.calls.log.events).seen

  -- whether no wrong answer was taken as true, which is its member `is_clean`
  abbrev pub file_is_clean : (start : Ghosts S) → Modelled Host S g start → Bool
  file_is_clean start file = (replay (start_of start file) file.calls.log.events).is_honest

  -- the bytes that a crash may leave, which is its member `may_leave`
  abbrev pub file_may_leave : (start : Ghosts S) → Modelled Host S g start → List ℕ → Type 0
  file_may_leave start file = let m = replay (start_of start file) file.calls.log.events in MayLeave start.is_mixing m.seen m.synced m.steps
