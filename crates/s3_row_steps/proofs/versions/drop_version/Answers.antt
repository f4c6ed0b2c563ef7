use Rattle.std.proofs.Common.{◌≡◌, refl, sym, ap, ◌∙◌, [], Some, None, option_map, SFits, w64, to_z-of_z, rules}
use Rattle.std.proofs.lemmas.Result.{on_ok_weaker}
use Rattle.std.specs.Option.{option_copied}
use Rattle.s3_versions.specs.Rules.{VersionDropped}
use Rattle.s3_records.specs.Changes.{KeyChanged}
use Rattle.s3_rows.specs.Finding.{id_column}
use Rattle.s3_rows.specs.TableChanges.{version_dropped}
use Rattle.s3_stored_rows.specs.Bodies.{version_numbers}
use Rattle.s3_stored_rows.specs.Changes.{version_columns}
use Rattle.s3_stored_rows.specs.Queries.{version_of_id}
use Rattle.s3_row_changes.specs.Trading.{numbers_of}
use Rattle.s3_row_steps.proofs.VersionStepLemmas.{id_found, none_goes, goes_by_row, same_steps, steps_drop}
use Rattle.s3_row_steps.proofs.versions.drop_version.Goals as goal

pub drop_version-requires-clause-gone : goal.drop_version-requires-clause-gone
drop_version-requires-clause-gone g c =
    let t = g.R.StoredRows.tables c.args.rows.now in
    let id_fits : SFits w64 c.in-Some.row.now.id = search rules in
    let row_fits : SFits w64 c.in-Some.row.now.row = search rules in
    let found : version_of_id c.args.bucket.now c.args.key.now (id_column c.args.id) t ≡ Some (version_columns c.in-Some.row.now) =
    sym c.requires.gone ∙ ap (λ o. option_map version_columns (option_copied o)) c.in-Some.is in
    goes_by_row t c.args.bucket.now c.args.key.now _ _ (id_column c.args.id) _ (version_columns c.in-Some.row.now) found c.as_bytes.ensures.value c.as_bytes-in-Some.ensures.value (to_z-of_z id_fits)
    ∙ ap Some (sym (to_z-of_z row_fits))

pub returns-in-None-clause-ok : goal.returns-in-None-clause-ok
returns-in-None-clause-ok g c =
    let t = g.R.StoredRows.tables c.args.rows.now in
    let none : version_of_id c.args.bucket.now c.args.key.now (id_column c.args.id) t ≡ None = sym c.requires.gone ∙ ap (λ o. option_map version_columns (option_copied o)) c.in-None.is in
    same_steps t t t c.args.next c.args.next c.args.bucket.now (λ _. KeyChanged c.args.key.now (VersionDropped c.args.id)) _ _ [] refl refl (ap (numbers_of version_numbers) (sym c.requires.gone))
    (steps_drop t c.args.next c.requires.kept t c.args.bucket.now c.args.key.now c.args.id (none_goes t c.args.bucket.now c.args.key.now (id_column c.args.id) none))

pub returns-in-Some-clause-ok : goal.returns-in-Some-clause-ok
returns-in-Some-clause-ok g c =
    let t = g.R.StoredRows.tables c.args.rows.now in
    let id_fits : SFits w64 c.in-Some.row.now.id = search rules in
    let found : version_of_id c.args.bucket.now c.args.key.now (id_column c.args.id) t ≡ Some (version_columns c.in-Some.row.now) =
    sym c.requires.gone ∙ ap (λ o. option_map version_columns (option_copied o)) c.in-Some.is in
    let id = to_z-of_z id_fits ∙ id_found t c.args.bucket.now c.args.key.now (id_column c.args.id) (version_columns c.in-Some.row.now) found in
    on_ok_weaker c.drop_version.result
    (λ made. same_steps t t _ c.args.next c.args.next c.args.bucket.now (λ _. KeyChanged c.args.key.now (VersionDropped c.args.id)) _ _ [] refl refl (ap (numbers_of version_numbers) (sym c.requires.gone))
    (steps_drop t c.args.next c.requires.kept _ c.args.bucket.now c.args.key.now c.args.id
    (made ∙ λ i. version_dropped (c.as_bytes.ensures.value i) (c.as_bytes-in-Some.ensures.value i) (id i) t)))
    c.drop_version.ensures.ok
