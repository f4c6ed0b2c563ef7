use Rattle.std.proofs.Common.{refl}
use Rattle.httparse.specs.Grammar.{trim_ows}
use Rattle.s3_conditions.specs.Range.{between, byte_range}
use Rattle.s3_conditions.specs.Tags.{matches}
use Rattle.s3_conditions.proofs.laws.examples_hold.Goals as goal

pub returns : goal.returns
unfolding between byte_range matches trim_ows
returns c = record {
  first_bytes = refl;
  next_bytes = refl;
  last_bytes = refl;
  bytes_to_the_end = refl;
  several_ranges = refl;
  last_part = refl;
  part_to_the_end = refl;
  one_tag = refl;
  several_tags = refl;
  weak_tags = refl;
  any_tag = refl;
}
