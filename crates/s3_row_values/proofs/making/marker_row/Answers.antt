use Rattle.std.proofs.Common.{◌≡◌, ap, ◌∙◌, rules, w64, to_z, of_z}
use Rattle.s3_rows.specs.Columns.{VersionColumns}
use Rattle.s3_stored_rows.specs.Changes.{version_columns}
use Rattle.s3_row_values.proofs.MakingLemmas.{marker_row_is}
use Rattle.s3_row_values.proofs.making.marker_row.Goals as goal

pub returns : goal.returns
returns c =
    let is = c.row_of.ensures in
    let row_is : to_z w64 (of_z w64 c.args.row) ≡ c.args.row = search rules in
    let place = c.in_ok-place.ensures in
    let content = c.marker_columns.ensures in
    marker_row_is (version_columns c.row_of.result) c.args.row c.args.bucket.now c.args.key.now c.args.versioning c.args.number c.args.moment
    (ap (λ (v : VersionColumns). v.row) is ∙ row_is)
    (ap (λ (v : VersionColumns). v.bucket) is ∙ place.bucket)
    (ap (λ (v : VersionColumns). v.key) is ∙ place.key)
    (ap (λ (v : VersionColumns). v.number) is ∙ place.number)
    (ap (λ (v : VersionColumns). v.id) is ∙ place.id)
    (ap (λ (v : VersionColumns). v.moment) is ∙ place.moment)
    (ap (λ (v : VersionColumns). v.marker) is ∙ content.marker)
    (ap (λ (v : VersionColumns). v.size) is ∙ content.size)
    (ap (λ (v : VersionColumns). v.bodies) is ∙ content.bodies)
