use Rattle.std.proofs.Common.{sym, subst, ℕ, List}
use Rattle.std.specs.Prelude.{IsTrue}
use Rattle.s3_config.specs.Settings.{is_region}
use Rattle.s3_machine.proofs.RegionLemmas.{region_of_settings}
use Rattle.s3_machine.proofs.region.Region.of.Goals as goal

pub held-requires : goal.held-requires
held-requires c =
    subst (λ (b : List ℕ). IsTrue (is_region b)) (sym c.region.ensures.value) (region_of_settings c.args.config.now c.region.ensures.valid)
