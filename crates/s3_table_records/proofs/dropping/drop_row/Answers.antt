use Rattle.std.proofs.Common.{to_z-of_z, ◌≡◌, refl, ap, ◌∙◌}
use Rattle.s3_versions.specs.Rules.{VersionDropped}
use Rattle.s3_records.specs.Changes.{KeyChanged}
use Rattle.s3_columns.specs.Numbers.{numbers_in}
use Rattle.s3_stored_rows.specs.Bodies.{version_numbers}
use Rattle.s3_stored_rows.specs.Changes.{version_columns}
use Rattle.s3_table_records.proofs.KeptLemmas.{is_gone}
use Rattle.s3_table_records.proofs.DroppingLemmas.{dropped_counted}
use Rattle.s3_table_records.proofs.dropping.drop_row.Goals as goal

pub give_up_all-requires : goal.give_up_all-requires
give_up_all-requires g c = λ n.
    let named : c.as_slice-in-Ok.result.now ≡ version_numbers (version_columns c.args.row.now) = c.as_slice-in-Ok.ensures.value ∙ c.in_ok-numbers.ensures.value ∙ ap numbers_in c.as_slice.ensures.value in
    rw named
    (dropped_counted (g.R.StoredRows.tables c.args.rows.now) (g.R.StoredRows.tables c.drop_version.new.rows) (g.B.StoredBodies.uses c.args.bodies.now) (version_numbers (version_columns c.args.row.now)) c.requires.kept.named c.in-Ok.ensures.ok.trades n)

pub returns-in-Ok-clause-changes : goal.returns-in-Ok-clause-changes
returns-in-Ok-clause-changes g c =
    let named : c.as_slice-in-Ok.result.now ≡ version_numbers (version_columns c.args.row.now) = c.as_slice-in-Ok.ensures.value ∙ c.in_ok-numbers.ensures.value ∙ ap numbers_in c.as_slice.ensures.value in
    is_gone (g.R.StoredRows.tables c.args.rows.now) (g.B.StoredBodies.contents c.args.bodies.now) (g.B.StoredBodies.uses c.args.bodies.now) c.args.next c.requires.kept c.args.bucket.now (KeyChanged c.args.key.now (VersionDropped c.args.id))
    _ (g.R.StoredRows.tables c.drop_version.new.rows) (g.B.StoredBodies.contents c.give_up_all.new.bodies) (g.B.StoredBodies.uses c.give_up_all.new.bodies) c.args.next
    (λ _. KeyChanged c.args.key.now (VersionDropped c.args.id)) (version_numbers (version_columns c.args.row.now)) (rw (to_z-of_z c.ranges.next) at c.in-Ok.ensures.ok) refl
    (rw named at c.give_up_all.ensures.uses) c.give_up_all.ensures.contents
