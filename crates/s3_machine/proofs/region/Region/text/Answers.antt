use Rattle.std.proofs.Common.{sym, subst, IsUtf8}
use Rattle.s3_machine.proofs.RegionLemmas.{region_is_text}
use Rattle.s3_machine.proofs.region.Region.text.Goals as goal

pub of-requires : goal.of-requires
of-requires c = subst IsUtf8 (sym c.as_bytes.ensures.value) (region_is_text c.args.self.now c.as_bytes.ensures.valid)
