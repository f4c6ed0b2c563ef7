use Rattle.std.proofs.Common.{◌≡◌, ◌++◌}
use Rattle.std.specs.List.{filter_map}
use Rattle.s3_listings.specs.Rolled.{prefix_in, row_in}
use Rattle.s3_listings.proofs.row_page.parted.Given as goal

-- with those of the items that are left they are all
abbrev pub invariant-loop-item : goal.invariant-loop-item
invariant-loop-item g l = record {
  rows : l.rows.items ++ filter_map row_in l.item-iterator.rest.items ≡ filter_map row_in l.initial.item-iterator.rest.items;
  prefixes : l.prefixes.items ++ filter_map prefix_in l.item-iterator.rest.items ≡ filter_map prefix_in l.initial.item-iterator.rest.items;
}
