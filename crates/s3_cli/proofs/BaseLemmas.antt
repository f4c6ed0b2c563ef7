-- The records that a folder's keeper opens are a sound base.
use Rattle.std.proofs.Common.{ℕ}
use Rattle.s3_records.specs.Places.{AreBelow}
use Rattle.s3_keepers.specs.Sound.{IsSoundCatalogue}
use Rattle.s3_machine.specs.Bases.{IsSoundBase}
use Rattle.s3_machine.specs.Step.{State}

pub numbers_below : (s : State) (n : ℕ) → IsSoundCatalogue s n → AreBelow n s
numbers_below s n sound = sound.versions

pub is_base : (s : State) (n : ℕ) → IsSoundCatalogue s n → IsSoundBase s n
is_base s n sound = record {
  versions = sound.versions;
  uploads = sound.uploads;
  ordered = sound.ordered;
  null = sound.null;
  parts = sound.parts;
  filled = sound.filled;
}

pub ruleset basing = (numbers_below, is_base)
