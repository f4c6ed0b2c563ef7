use Rattle.std.proofs.Common.{◌≡◌, [], List, ℕ, take}
use Rattle.s3_simulation.specs.Entered.{EntersEach}
use Rattle.s3_simulation.specs.StandsAfter.{StandsAfter}
use Rattle.s3_simulation.proofs.running.step_all.Given as goal

abbrev pub invariant-loop-number : goal.invariant-loop-number
invariant-loop-number g l = record {
  stands : (moments : List (List ℕ)) → StandsAfter l.fn.world moments [] → StandsAfter l.world moments (take l.number l.events);
  settings : l.world.settings ≡ l.fn.world.settings;
  opens : l.world.recorded_store.opening ≡ l.fn.world.recorded_store.opening;
  entered : (moments : List (List ℕ)) → StandsAfter l.fn.world moments [] → EntersEach g.R.Records.is_in_memory moments [] l.fn.world (take l.number l.events) l.world;
}
