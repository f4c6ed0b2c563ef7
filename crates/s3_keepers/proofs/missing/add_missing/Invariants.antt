use Rattle.std.proofs.Common.{◌≡◌, ℕ, take}
use Rattle.s3_keepers.specs.Begun.{HasBuckets, with_buckets}
use Rattle.s3_keepers.specs.Sound.{IsSoundCatalogue}
use Rattle.s3_keepers.proofs.missing.add_missing.Given as goal

-- the buckets so far are there
abbrev pub invariant-loop-name : goal.invariant-loop-name
invariant-loop-name g l =
    let catalogue = g.K.Records.catalogue in
    record {
      value : catalogue l.records ≡ with_buckets (take l.name-index l.names) (catalogue l.initial.records);
      there : HasBuckets (take l.name-index l.names) (catalogue l.records);
      sound : (number : ℕ) → IsSoundCatalogue (catalogue l.initial.records) number → IsSoundCatalogue (catalogue l.records) number;
    }
