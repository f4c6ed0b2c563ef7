use Rattle.std.proofs.Common.{◌≡◌, map, length}
use Rattle.std.specs.List.{list_all}
use Rattle.s3_config.specs.Settings.{all_different}
use Rattle.s3_config.proofs.settings.are_different.Given as goal

abbrev pub invariant-loop-first : goal.invariant-loop-first
invariant-loop-first g l = record {
  distinct : all_different (map g.T.Named.name l.left) ≡ all_different (map g.T.Named.name l.items);
  sound : list_all g.T.Named.valid l.left ≡ list_all g.T.Named.valid l.items;
}

abbrev pub decreases-loop-first : goal.decreases-loop-first
decreases-loop-first g l = length l.left
