use Rattle.std.proofs.Common.{refl, sym, [], to_z-of_z}
use Rattle.s3_names.specs.declared.ids.VersionId.TheVariants.{Null}
use Rattle.s3_versions.specs.Rules.{VersionDropped}
use Rattle.s3_records.specs.Changes.{KeyChanged}
use Rattle.s3_row_steps.proofs.VersionStepLemmas.{same_steps}
use Rattle.s3_row_steps.proofs.versions.drop_row.Goals as goal

pub returns-clause-ok : goal.returns-clause-ok
returns-clause-ok g c =
    same_steps (g.R.StoredRows.tables c.args.rows.now) _ _ c.args.next _ c.args.bucket.now (λ _. KeyChanged c.args.key.now (VersionDropped Null)) c.in_ok-numbers.numbers.items _ []
    refl (to_z-of_z c.ranges.next) (sym c.in_ok-numbers.ensures) c.in_ok-drop_version.ensures.ok
