use Rattle.std.proofs.Common.{refl, [], to_z-of_z}
use Rattle.s3_names.specs.declared.ids.VersionId.TheVariants.{Null}
use Rattle.s3_versions.specs.Rules.{VersionDropped}
use Rattle.s3_records.specs.Changes.{KeyChanged}
use Rattle.s3_stored_bodies.proofs.HeldLemmas.{if_ok}
use Rattle.s3_row_steps.proofs.VersionStepLemmas.{same_steps}
use Rattle.s3_row_steps.proofs.versions.drop_null.Goals as goal

pub returns-clause-ok : goal.returns-clause-ok
returns-clause-ok g c =
    if_ok c.drop_row.result
    (λ gone steps. same_steps (g.R.StoredRows.tables c.args.rows.now) _ _ c.args.next _ c.args.bucket.now (λ _. KeyChanged c.args.key.now (VersionDropped Null)) gone.items gone.items []
    c.version.ensures.same (to_z-of_z c.ranges.next) refl steps)
    c.drop_row.ensures.ok
