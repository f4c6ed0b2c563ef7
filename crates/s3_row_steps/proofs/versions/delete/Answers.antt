use Rattle.std.proofs.Common.{refl, ap, ◌∙◌, pos, ◌+ℤ◌, [], to_z-of_z}
use Rattle.std.proofs.lemmas.Result.{on_err_weaker}
use Rattle.s3_names.specs.declared.ids.VersionId.TheVariants.{Null}
use Rattle.s3_versions.specs.Rules.{KeyDeleted, VersionDropped}
use Rattle.s3_records.specs.Changes.{KeyChanged}
use Rattle.s3_rows.specs.Meaning.{catalogue_of}
use Rattle.s3_stored_bodies.proofs.HeldLemmas.{if_ok}
use Rattle.s3_stored_rows.specs.Bodies.{encoding}
use Rattle.s3_row_steps.proofs.VersionStepLemmas.{null_dropped, same_steps, steps_later}
use Rattle.s3_row_steps.proofs.versions.delete.Goals as goal

pub returns-in-Unversioned-clause-ok : goal.returns-in-Unversioned-clause-ok
returns-in-Unversioned-clause-ok g c =
    let t = g.R.StoredRows.tables c.args.rows.now in
    let drops = KeyChanged c.args.key.now (VersionDropped Null) in
    let deletes = KeyChanged c.args.key.now (KeyDeleted c.args.number c.args.moment) in
    if_ok c.drop_null.result
    (λ gone steps. steps_later t _ c.args.next c.args.bucket.now (λ _. drops) (λ _. deletes) gone.items []
    (λ contents. null_dropped (catalogue_of (encoding contents) t) c.args.bucket.now c.args.key.now c.args.number c.args.moment (c.in_ok-versioning.ensures.value contents ∙ c.in-Unversioned.is))
    (same_steps t _ _ c.args.next _ c.args.bucket.now (λ _. drops) gone.items gone.items [] c.versioning_of.ensures.same (to_z-of_z c.ranges.next) refl steps))
    c.drop_null.ensures.ok

pub returns-in-Enabled : goal.returns-in-Enabled
returns-in-Enabled g c = record {
  ok = if_ok c.mark.result
      (λ gone steps. same_steps (g.R.StoredRows.tables c.args.rows.now) _ _ (c.args.next +ℤ pos 1) _ c.args.bucket.now (λ _. KeyChanged c.args.key.now (KeyDeleted c.args.number c.args.moment)) gone.items gone.items []
      c.versioning_of.ensures.same (ap (λ r. r +ℤ pos 1) (to_z-of_z c.ranges.next)) refl steps)
      c.mark.ensures.ok;
  err = on_err_weaker c.mark.result (λ same. same ∙ c.versioning_of.ensures.same) c.mark.ensures.err;
  stays = λ t left. c.versioning_of.ensures.stays t (c.mark.ensures.stays t left);
}
